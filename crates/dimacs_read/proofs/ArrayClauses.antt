-- The clauses of an array, number by number. A number says what a word of a text says, so what holds of words holds of
-- numbers. If the last number is a 0, no clause is open, and the parts up to the ends are all clauses.
use Rattle.std.proofs.Common.{◌≡◌, inl, inr, Bool, ℕ, suc, ◌+◌, ◌-◌, ◌<◌, ◌≤◌, ◌^◌, true, false, ℤ, pos, nat_abs, ◌==◌, if◌then◌else◌, List, [], ◌∷◌, ◌++◌, length, map, take, drop, get_or, count_by, Option, Some, refl, sym, ap, ap₂, ◌∙◌, subst, arith, length-take, length-drop, drop-cons}
use Rattle.std.proofs.lemmas.Bool.{cases_Bool, eqb-false, eq-eqb}
use Rattle.std.proofs.lemmas.List.{map_push, get_or_push, length_push, take_more}
use Rattle.std.proofs.lemmas.List.Elements.{All-head, All-tail}
use Rattle.std.proofs.lemmas.List.Sums.{count_by-le-length, sum_by-cons, sum_by-take-drop}
use Rattle.std.specs.Prelude.{cond}
use Rattle.dimacs_read.specs.declared.clauses.Clauses.{Clauses}
use Rattle.dimacs_read.specs.declared.token.Token.{Token}
use Rattle.dimacs_read.specs.declared.token.Token.TheVariants.{Literal, End}
use Rattle.dimacs_read.specs.Cnf.{AreLiterals}
use Rattle.dimacs_read.specs.Tokens.{is_literal, is_clause_end}
use Rattle.dimacs_read.specs.CnfText.{clauses_of}
use Rattle.dimacs_read.specs.Grammar.{AreTokens, IsToken}
use Rattle.dimacs_read.specs.Flat.{parts}
use Rattle.dimacs_read.specs.Literals.{AreOfVariables, HaveRoom, IsEnded, ends_clause, token_at}
use Rattle.dimacs_read.specs.Reading.{Adds, Holds, HoldsArray, last_end}
use Rattle.dimacs_read.proofs.TakenWords.{holds_end, holds_literal, last_push}
use Rattle.dimacs_read.proofs.LiteralsLemmas.{AreSome, IsSome, clauses_literals}
use Rattle.dimacs_read.proofs.FinishedText.{closed_clauses}

-- 1 for what is counted
abbrev counted : Bool → ℕ
counted b = cond b 1 0

-- the ends among the numbers are those among the words
ends_alike : (xs : List ℤ) → count_by is_clause_end (map token_at xs) ≡ count_by ends_clause xs
ends_alike [] = refl
ends_alike (x ∷ xs) =
    let here : counted (is_clause_end (token_at x)) ≡ counted (ends_clause x) =
    elim (ends_clause x) as (λ b. counted (is_clause_end (if b then Some End else Some (Literal x))) ≡ counted b) [
      | true ↦ refl
      | false ↦ refl
    ] in
    sum_by-cons (λ (t : Option Token). counted (is_clause_end t)) (token_at x) (map token_at xs)
    ∙ ap₂ (λ (m n : ℕ). m + n) here (ends_alike xs)
    ∙ sym (sum_by-cons (λ (l : ℤ). counted (ends_clause l)) x xs)

-- each number that ends no clause is a literal
literals_or_ends : (xs : List ℤ) → count_by is_literal (map token_at xs) + count_by ends_clause xs ≡ length xs
literals_or_ends [] = refl
literals_or_ends (x ∷ xs) =
    let here : counted (is_literal (token_at x)) + counted (ends_clause x) ≡ 1 =
    elim (ends_clause x) as (λ b. counted (is_literal (if b then Some End else Some (Literal x))) + counted b ≡ 1) [
      | true ↦ refl
      | false ↦ refl
    ] in
    let words = sum_by-cons (λ (t : Option Token). counted (is_literal t)) (token_at x) (map token_at xs) in
    let ends = sum_by-cons (λ (l : ℤ). counted (ends_clause l)) x xs in
    omega (arith, here, words, ends, literals_or_ends xs)

-- a number more
pub array_more : (a b : Clauses) (xs : List ℤ) (i : ℕ) → i < length xs → HaveRoom xs → HoldsArray a (take i xs)
    → Adds a b (token_at (get_or xs i (pos 0))) → HoldsArray b (take (i + 1) xs)
array_more a b xs i within room h add = subst (HoldsArray b) (sym (take_more xs i (pos 0) within)) (
    elim (cases_Bool (ends_clause l)) [
      | inl is ↦
          let word : token_at l ≡ Some End = ap (λ t. if t then Some End else Some (Literal l)) is in
          let added : Adds a b (Some End) = subst (Adds a b) word add in
          let one : counted (ends_clause l) ≡ 1 = ap counted is in
          let few : length a.ends.items < 2 ^ 22 = omega (arith, all, here, one, ends, room.clauses_fit) in
          record {
            holds = by_word (Some End) word (holds_end a b (map token_at (take i xs)) h.holds few added);
            closed = λ ended.
                ap (last_end 0) added.0 ∙ last_push 0 (length a.literals.items) a.ends.items ∙ sym (ap length added.1);
          }
      | inr is ↦
          let word : token_at l ≡ Some (Literal l) = ap (λ t. if t then Some End else Some (Literal l)) is in
          let added : Adds a b (Some (Literal l)) = subst (Adds a b) word add in
          let none : counted (ends_clause l) ≡ 0 = ap counted is in
          let behind = count_by-le-length ends_clause (drop (suc i) xs) in
          let size = length-drop (suc i) xs in
          let before = length-take i xs in
          let fits : length a.literals.items < 2 ^ 25 =
          omega (arith, all, here, none, behind, size, before, literals, room.literals_fit, within) in
          record {
            holds = by_word (Some (Literal l)) word
                (holds_literal a b (map token_at (take i xs)) l h.holds fits added);
            closed = λ ended.
                let some : nat_abs l ≡ 0 → ⊥ = eqb-false (nat_abs l) 0 is in
                let last = ended (length (take i xs)) (let more = length_push (take i xs) l in omega (arith, more)) in
                let item = get_or_push (take i xs) l (pos 0) (length (take i xs)) refl in
                absurd (some (sym (ap nat_abs item) ∙ last));
          }
    ]
    )
  where
    l : ℤ
    l = get_or xs i (pos 0)

    all : count_by ends_clause (take i xs) + count_by ends_clause (drop i xs) ≡ count_by ends_clause xs
    all = sum_by-take-drop (λ (x : ℤ). counted (ends_clause x)) xs i

    here : count_by ends_clause (drop i xs) ≡ counted (ends_clause l) + count_by ends_clause (drop (suc i) xs)
    here = ap (count_by ends_clause) (drop-cons xs i (pos 0) within)
        ∙ sum_by-cons (λ (x : ℤ). counted (ends_clause x)) l (drop (suc i) xs)

    ends : count_by ends_clause (take i xs) ≡ length a.ends.items
    ends = sym (ends_alike (take i xs)) ∙ h.holds.ends

    literals : length a.literals.items + count_by ends_clause (take i xs) ≡ length (take i xs)
    literals = ap (λ n. n + count_by ends_clause (take i xs)) (sym h.holds.literals) ∙ literals_or_ends (take i xs)

    by_word : (t : Option Token) → token_at l ≡ t → Holds b (map token_at (take i xs) ++ t ∷ [])
        → Holds b (map token_at (take i xs ++ l ∷ []))
    by_word t word holds = subst (Holds b) (sym (map_push token_at (take i xs) l ∙ ap (λ u. map token_at (take i xs) ++ u ∷ []) word)) holds

-- if no clause is open, the parts are the clauses
pub array_clauses : (c : Clauses) (xs : List ℤ) → HoldsArray c xs → IsEnded xs
    → clauses_of (map token_at xs) ≡ parts c.literals.items 0 c.ends.items
array_clauses c xs h ended =
    let size : ℕ = length c.literals.items in
    let ends : List ℕ = c.ends.items in
    closed_clauses c (map token_at xs) h.holds
    ∙ ap (λ t. parts c.literals.items 0 (if t then ends else ends ++ size ∷ []))
    (eq-eqb (last_end 0 ends) size (h.closed ended))

-- numbers of variables are words of the grammar
tokens_fit : (n : ℕ) (xs : List ℤ) → AreOfVariables n xs → AreTokens n (map token_at xs)
tokens_fit n [] all = tt
tokens_fit n (x ∷ xs) all = (
  elim (ends_clause x) as (λ b. IsToken n (if b then Some End else Some (Literal x))) [
    | true ↦ tt
    | false ↦ All-head (λ (l : ℤ). nat_abs l ≤ n) x xs all
  ],
  tokens_fit n xs (All-tail (λ (l : ℤ). nat_abs l ≤ n) x xs all),
)

-- no number is a literal 0
tokens_some : (xs : List ℤ) → AreSome (map token_at xs)
tokens_some [] = tt
tokens_some (x ∷ xs) = (
  (elim (ends_clause x) as (λ b. ends_clause x ≡ b → IsSome (if b then Some End else Some (Literal x))) [
    | true ↦ λ is. tt
    | false ↦ λ is. (let some : nat_abs x ≡ 0 → ⊥ = eqb-false (nat_abs x) 0 is in omega arith)
  ]) refl,
  tokens_some xs,
)

-- so the clauses are of literals of variables
pub array_literals : (n : ℕ) (xs : List ℤ) → AreOfVariables n xs → AreLiterals n (clauses_of (map token_at xs))
array_literals n xs all = clauses_literals n (map token_at xs) (tokens_fit n xs all) (tokens_some xs)
