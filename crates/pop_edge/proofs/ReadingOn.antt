-- What a call of `next` has read, and what it answers by it.
use Rattle.std.proofs.Common.{inl, inr, ◌≡◌, ℕ, ◌+◌, ◌-◌, ◌<◌, ◌≤◌, true, false, List, [], ◌∷◌, ◌++◌, length, take, drop, slice_range, Option, Some, refl, sym, ap, ap₂, ◌∙◌, subst, arith, append_assoc, append-nil, length-append, ◌||◌}
use Rattle.std.specs.List.{concat, list_any}
use Rattle.std.specs.Iterator.{Yields}
use Rattle.std.proofs.KnownBytes.{Consumes-nil, Consumes-trans}
use Rattle.std.proofs.Math.Seq.{take-append-add}
use Rattle.std.proofs.lemmas.Bool.{cases_Bool, cases_lt, ne_eqb}
use Rattle.std.proofs.lemmas.List.{take_all, take-append-le}
use Rattle.std.proofs.lemmas.List.Folds.{concat-append, list_any-append}
use Rattle.pop_edge.specs.Lines.{is_end, text_limit}
use Rattle.pop_edge.specs.LineState.{LineState}
use Rattle.pop_edge.specs.NeededReads.{NeedsMore, is_nothing}
use Rattle.pop_edge.specs.Splitting.{Cuts, rest_of, HasFilled, state_of, Reads, HasRead}
use Rattle.pop_edge.specs.declared.splitter.Splitter.{Splitter}

-- nothing is read yet
pub reads_nothing : {S : Type 0} (gives : S → Option (List ℕ) → S → Type 0) (s : LineState) (left : Option (List ℕ))
    (source : S) → HasRead gives s s left left source source
reads_nothing gives s left source =
    record {
      pieces = [];
      reads = record {
        consumed = Consumes-nil left;
        taken = omega arith;
        rest = sym (ap (λ xs. s.rest ++ xs)
            (take_all (text_limit - s.taken) (let none : List ℕ = [] in none) (omega arith)) ∙ append-nil s.rest);
        idle = λ _. refl;
        at_end = λ _. refl;
        stays = λ e. e;
        line = refl;
        number = refl;
      };
      needed = λ j h. absurd (omega arith);
      some = λ _. refl;
      read = refl;
    }

-- bytes with no line end have none at their front
front_clear : (xs ys : List ℕ) → list_any is_end (xs ++ ys) ≡ false → list_any is_end xs ≡ true → ⊥
front_clear xs ys none some =
    let h : true ≡ false = ap (λ t. t || list_any is_end ys) (sym some) ∙ sym (list_any-append is_end xs ys) ∙ none in
    cc

-- where nothing is cut off, all that is at hand is the begun line
pub used_up : (a b : Splitter) → Cuts a b false → rest_of b ≡ rest_of a
used_up a b cut =
    let none : b.end - b.at ≡ 0 = omega (arith, cut.2) in
    let empty : slice_range b.piece.items b.at b.end ≡ [] = ap (λ n. take n (drop b.at b.piece.items)) none in
    ap (λ xs. b.begun.items ++ xs) empty ∙ append-nil b.begun.items ∙ cut.1

-- reads one after another, and one more
yields_more : {S A : Type 0} (gives : S → Option A → S → Type 0) (s : S) (xs : List A) (t : S) (x : A) (u : S)
    → Yields gives s xs t → gives t (Some x) u → Yields gives s (xs ++ x ∷ []) u
yields_more gives s [] t x u same one = (u, subst (λ y. gives y (Some x) u) (sym same) one, refl)
yields_more gives s (y ∷ xs) t x u all one = (all.0, all.1, yields_more gives all.0 xs t x u all.2 one)

-- the pieces together, and one more
concat_more : (pieces : List (List ℕ)) (more : List ℕ) → concat (pieces ++ more ∷ []) ≡ concat pieces ++ more
concat_more pieces more = concat-append pieces (more ∷ []) ∙ ap (λ xs. concat pieces ++ xs) (append-nil more)

-- where each piece was needed, and one is behind them, so is it
needed_more : (s : LineState) (pieces : List (List ℕ)) (more : List ℕ)
    → ((j : ℕ) → j < length pieces → NeedsMore s (take j pieces)) → NeedsMore s pieces
    → (j : ℕ) → j < length (pieces ++ more ∷ []) → NeedsMore s (take j (pieces ++ more ∷ []))
needed_more s pieces more all next j within =
    elim (cases_lt j (length pieces)) [
      | inl before ↦ subst (NeedsMore s) (sym (take-append-le j pieces (more ∷ []) (omega (arith, before))))
          (all j before)
      | inr behind ↦ (let last : j ≡ length pieces =
          omega (arith, behind, within, length-append pieces (more ∷ [])) in
          subst (NeedsMore s)
          (sym (take-append-le j pieces (more ∷ []) (omega (arith, last)) ∙ take_all j pieces (omega (arith, last))))
          next)
    ]

-- a piece that isn't nothing, behind others that aren't
some_more : (pieces : List (List ℕ)) (more : List ℕ) → list_any is_nothing pieces ≡ false → (length more ≡ 0 → ⊥)
    → list_any is_nothing (pieces ++ more ∷ []) ≡ false
some_more pieces more before here =
    let one : is_nothing more ≡ false = ne_eqb (length more) 0 here in
    list_any-append is_nothing pieces (more ∷ []) ∙ ap₂ (λ x y. x || (y || false)) before one

module _ {S : Type 0} (gives : S → Option (List ℕ) → S → Type 0) (s : LineState) (a b : Splitter)
    (l m : Option (List ℕ)) (x y : S) (read : HasRead gives s (state_of a) l m x y) (going : a.ended ≡ false)
    (within : a.taken ≤ text_limit) (cut : Cuts a b false) where
  false_true : false ≡ true → ⊥
  false_true e = cc

  -- behind what was read one more read is needed
  pub needs_more : NeedsMore s read.pieces
  needs_more = record {
    going = elim (cases_Bool s.ended) [
      | inl ended ↦ absurd (false_true (sym going ∙ read.reads.stays ended))
      | inr still ↦ still
    ];
    some = read.some going;
    short = omega (arith, within, read.reads.taken);
    no_line = ap (list_any is_end) (sym read.reads.rest) ∙ cut.0;
  }

  -- a piece more
  pub reads_more : (d : Splitter) (n : Option (List ℕ)) (z : S) → b.taken ≡ a.taken
      → HasFilled b d m n (λ bytes. gives y (Some bytes) z) → d.line ≡ b.line → d.number ≡ b.number
      → HasRead gives s (state_of d) l n x z
  reads_more d n z same fill line number =
      let r = read.reads in
      let bytes : List ℕ = concat read.pieces in
      let more : List ℕ = fill.bytes in
      let room : text_limit - s.taken ≡ length bytes + (text_limit - a.taken) = omega (arith, r.taken) in
      let all : take (text_limit - s.taken) bytes ≡ bytes =
      take_all (text_limit - s.taken) bytes (omega (arith, r.taken)) in
      let joined : take (text_limit - s.taken) (bytes ++ more) ≡ bytes ++ take (text_limit - a.taken) more =
      ap (λ k. take k (bytes ++ more)) room ∙ take-append-add bytes more (text_limit - a.taken) in
      let rest : rest_of d ≡ s.rest ++ take (text_limit - s.taken) (bytes ++ more) =
      fill.rest ∙ ap₂ (λ xs k. xs ++ take (text_limit - k) more)
      (used_up a b cut ∙ r.rest ∙ ap (λ xs. s.rest ++ xs) all) same
      ∙ append_assoc s.rest bytes (take (text_limit - a.taken) more) ∙ ap (λ xs. s.rest ++ xs) (sym joined) in
      let going_on : s.ended ≡ true → ⊥ = λ e. false_true (sym going ∙ r.stays e) in
      let reads : Reads s (state_of d) l n (bytes ++ more) = record {
        consumed = Consumes-trans l m n bytes more r.consumed fill.consumed;
        taken = omega (arith, r.taken, fill.taken, same, length-append bytes more);
        rest = rest;
        idle = λ some. absurd
            (front_clear s.rest (take (text_limit - s.taken) bytes) (ap (list_any is_end) (sym r.rest) ∙ cut.0) some);
        at_end = λ e. absurd (going_on e);
        stays = λ e. absurd (going_on e);
        line = ap (λ v. v.items) line ∙ cut.3 ∙ r.line;
        number = number ∙ cut.4 ∙ r.number;
      } in
      record {
        pieces = read.pieces ++ more ∷ [];
        reads = subst (Reads s (state_of d) l n) (sym (concat_more read.pieces more)) reads;
        needed = needed_more s read.pieces more read.needed needs_more;
        some = λ still. some_more read.pieces more (read.some going) (λ none. false_true (sym still ∙ fill.ended.1 none));
        read = yields_more gives x read.pieces y more z read.read fill.given;
      }
