-- A claim preserves the rule, and what it shows holds.
use Rattle.std.proofs.Common.{◌≡◌, ℕ, ◌+◌, ◌-◌, ◌^◌, ◌<◌, ◌≤◌, Bool, true, false, cond, List, [], ◌∷◌, ◌++◌, get_or, set, sym, refl, ap, ◌∙◌, subst, inl, ⊎_elim, arith, get_or-set_same, lt-ltb, Some, length}
use Rattle.claim_words.specs.Plays.{ClaimTold}
use Rattle.claim_words.proofs.SoleKnowsSettled.{none_due}
use mathlib.Core.Option.{some}
use lib.ListN.{get_elem?}
use lib.Seq.{set-get_or}
use borrow.Author.Tests.{ltb-true, ltb-false}
use Rattle.std.specs.Int.Bits.{bit_or}
use Rattle.atomic_table.specs.Table.{State, Me, keeps, Allows}
use Rattle.std.proofs.lemmas.Option.{same_Some}
use Rattle.pop_model.specs.Popping.{cursor}
use Rattle.claim_words.specs.declared.view.View.{View}
use Rattle.claim_words.specs.declared.opening.Opening.{Opening}
use Rattle.claim_words.specs.Words.{variable_at, cursor_in, settled_bit, is_free, is_settled, Formed, IsLeft}
use Rattle.claim_words.specs.Maps.{total, Each, Pairs, is_at, times}
use Rattle.claim_words.specs.Openings.{count, height, is_listed}
use Rattle.claim_words.specs.Steps.{claim_with, claimed_by}
use Rattle.claim_words.specs.Machine.{IsHeldAt, IsFoundAt, IsSettledAt, Sound}
use Rattle.claim_words.specs.TicketLogs.{IsLegalFrom, vector}
use Rattle.claim_words.specs.Tells.{AtMost, ClaimTells, SoleTells}
use Rattle.claim_words.proofs.Bits.{or_free, or_taken}
use Rattle.claim_words.proofs.SoleHasAll.{sole_leads, only_mine}
use Rattle.claim_words.proofs.Histories.{entry_low}
use Rattle.claim_words.proofs.Totals.{total-append, each-append, each-look, each-map, times-none, is_at-yes, is_at-no}
use Rattle.claim_words.proofs.WordMoves.{Moved, none_moves, one_moves, agree_here, moved, at_place, within, share_kept, knows_after}

-- what a pass holds after a claim that was granted
pub held_after : (d e : View) (v w : ℕ) → e ≡ claimed_by d v w → w < 2 ^ 63
    → e.held ≡ d.held ++ (v, cursor_in w) ∷ []
held_after d e v w to free = ap (λ (x : View). x.held) to
    ∙ ap (λ b. cond b (d.held ++ (v, cursor_in w) ∷ []) d.held) (lt-ltb w (2 ^ 63) free)

-- what holds of each, and of a pair that may have come in
each_if : (P : ℕ × ℕ → Type 0) (b : Bool) (p : ℕ × ℕ) (l : Pairs) → (b ≡ true → P p) → Each P l
    → Each P (cond b (p ∷ l) l)
each_if P true p l here h = (here refl, h)
each_if P false p l here h = h

-- then no variable is there less often
times_if : (b : Bool) (u : ℕ) (p : ℕ × ℕ) (l : Pairs) → times u l ≤ times u (cond b (p ∷ l) l)
times_if true u p l = omega arith
times_if false u p l = omega arith

module _ {S : Type 0} (k : Opening) (s : State S View) (o : Sound k s) (id v : ℕ) (d : View)
    (me : get_elem? s.views id ≡ some d) (live : d.opening ≡ Some k) (near : v < count k) where
  -- the word that the claim finds
  abbrev found_word : ℕ
  found_word = get_or s.words (1 + v) 0

  -- the state once the word is n and the view of the pass e
  abbrev after : ℕ → View → State S View
  after n e = record { words = set s.words (1 + v) n; homes = s.homes; views = set s.views id e }

  -- the rule stays where the word was free
  claims_free : found_word < 2 ^ 63 → Sound k (after (2 ^ 63 + found_word) (claim_with true false d v found_word))
  claims_free free =
      let w : ℕ = found_word in let n : ℕ = 2 ^ 63 + w in let e : View = claim_with true false d v w in
      let f : Formed w = o.formed v near in let f₀ = f.0 in let f₁ = f.1 in let f₂ = f.2 in let f₃ = f.3 in
      let new : List ℕ = set s.words (1 + v) n in let p : ℕ × ℕ = (v, cursor_in w) in
      let here : Moved k new d e 0 w n v = record {
        formed = (omega arith, omega arith, omega arith, omega arith);
        level = omega arith;
        grows = omega arith;
        holder = inl (omega arith);
        held = omega (arith, total-append (is_at v) d.held (p ∷ []), is_at-yes v p refl);
        keeps = λ q. absurd (omega arith);
        settles = inl (omega arith);
        knows = omega arith;
      } in
      let each = one_moves k s o v n d e near here (λ u ne. (
        omega (arith, total-append (is_at u) d.held (p ∷ []), is_at-no u p (λ q. ne (sym q))),
        omega arith,
        omega arith,
      )) in
      let old = agree_here k s o id (1 + v) n d e me (λ _. 0) each (λ u. omega arith) in
      let at : cursor_in (get_or new (1 + v) 0) ≡ cursor_in w =
      omega (arith, ap cursor_in (get_or-set_same s.words (1 + v) n 0 (within k s o v near))) in
      moved k s o id (1 + v) n d e me each (refl, refl) (record {
        live = inl (live, share_kept k s o id d me live);
        held = each-append (IsHeldAt k new) d.held (p ∷ []) old.held ((near, at), tt);
        found = ((near, omega (arith, at)), old.found);
        knows = old.knows;
        taken = old.taken;
        due = λ u. omega (arith, old.due u, total-append (is_at u) d.held (p ∷ []));
      }) (omega arith) (omega arith) (refl, refl, refl)

  -- and where it was claimed, and settled or not
  claims_taken : (t : Bool) → is_settled found_word ≡ t → Sound k (after found_word (claim_with false t d v found_word))
  claims_taken t told =
      let w : ℕ = found_word in let e : View = claim_with false t d v w in
      let f : Formed w = o.formed v near in let f₀ = f.0 in let f₁ = f.1 in let f₂ = f.2 in
      let new : List ℕ = set s.words (1 + v) w in let p : ℕ × ℕ = (v, cursor_in w) in
      let stays : (u : ℕ) → get_or new (1 + u) 0 ≡ get_or s.words (1 + u) 0 =
      λ u. ap (λ (l : List ℕ). get_or l (1 + u) 0) (set-get_or s.words (1 + v) 0) in
      let each = none_moves k s o id (1 + v) w d e me (λ _. 0) (λ u h. stays u)
      (λ u. (refl, omega arith, times_if t u p d.settled)) in
      let old = agree_here k s o id (1 + v) w d e me (λ _. 0) each (λ u. omega arith) in
      moved k s o id (1 + v) w d e me each (refl, refl) (record {
        live = inl (live, share_kept k s o id d me live);
        held = old.held;
        found = each_if (IsFoundAt k new) t p d.found (λ _. (near, omega (arith, ap cursor_in (stays v)))) old.found;
        knows = each_if (IsSettledAt k new) t p d.settled (λ set. (
          near,
          omega (arith, ap settled_bit (stays v), ltb-true (2 ^ 63 + 2 ^ 62 - 1) w (told ∙ set)),
          ap cursor_in (stays v),
        )) old.knows;
        taken = old.taken;
        due = old.due;
      }) (omega arith) (omega arith) (refl, refl, refl)

  -- the cursor of a word that no pass holds is above every entry of its variable
  newer_than : IsLeft found_word → total (λ (x : View). times v x.held) s.views ≡ 0
  newer_than left =
      let f : Formed found_word = o.formed v near in
      let f₀ = f.0 in let f₁ = f.1 in let f₂ = f.2 in let f₃ = f.3 in
      ⊎_elim (λ (free : found_word < 2 ^ 63). omega (arith, o.held_once v near))
      (λ (both : settled_bit found_word ≡ 1). omega (arith, o.held_once v near)) left

  -- what a claim tells
  tells : ClaimTells d v found_word (claimed_by d v found_word)
  tells =
      let w : ℕ = found_word in let f : Formed w = o.formed v near in
      let f₀ = f.0 in let f₁ = f.1 in record {
        view = refl;
        short = f₁;
        low = λ h other. subst (λ (x : Opening). cursor_in w < height x v) (same_Some _ _ (sym live ∙ other))
            (omega (arith, o.history.low v near));
        found = each-map (IsFoundAt k s.words) (AtMost v (cursor_in w))
            (λ p h is. subst (λ (x : ℕ). p.1 ≤ cursor_in (get_or s.words (1 + x) 0)) is h.1) d.found
            (o.agree id d me).found;
        refused = λ sole taken unset. omega (arith, only_mine k s o id d me sole (λ (x : View). times v x.held) refl, o.held_once v near);
        known = λ some. (each-look (IsSettledAt k s.words) d.settled v some (o.agree id d me).knows).1;
        told = λ sole set. omega (
          arith,
          set,
          o.known v near,
          only_mine k s o id d me sole (λ (x : View). times v x.settled) refl,
        );
        listed = λ h other told. let same : h ≡ k = same_Some _ _ (sym other ∙ live) in
            o.unsettled (subst (λ (x : Opening). is_listed x.instance.value.family ≡ true) same told) v near;
        newer = λ left r e mine i is.
            omega (
              arith,
              entry_low k s o.history r e (id, d, me, mine) i v near is,
              none_due k s o v
                  (newer_than left),
            );
      }

  -- what a sole pass learns from the word
  sole_tells : length d.due ≡ 0 → SoleTells d v found_word
  sole_tells clear = λ h other sole.
      let same : k ≡ h = same_Some _ _ (sym live ∙ other) in
      let led = sole_leads k s o id d me sole in
      subst (λ (x : Opening). IsLegalFrom x d.mine × (cursor_in found_word ≡ cursor (vector x d.mine) v)) same (
        led.legal,
        omega (
          arith,
          led.cursors v near,
          only_mine k s o id d me sole (λ (x : View). times v x.due) refl,
          times-none d.due v clear,
        ),
      )

  -- the rule stays, whatever the claim finds
  claimed : (f t : Bool) → is_free found_word ≡ f → is_settled found_word ≡ t
      → Sound k (after (bit_or found_word (2 ^ 63)) (claim_with f t d v found_word))
  claimed true true free both = let w : ℕ = found_word in
      absurd (omega (arith, ltb-true w (2 ^ 63) free, ltb-true (2 ^ 63 + 2 ^ 62 - 1) w both))
  claimed true false free _ = let w : ℕ = found_word in let low = ltb-true w (2 ^ 63) free in
      subst (λ (x : ℕ). Sound k (after x (claim_with true false d v w))) (sym (or_free w low)) (claims_free low)
  claimed false t taken told =
      let w : ℕ = found_word in let high = ltb-false w (2 ^ 63) taken in
      let f : Formed w = o.formed v near in let f₀ = f.0 in let f₁ = f.1 in let f₂ = f.2 in let f₃ = f.3 in
      let whole : 2 ^ 63 + (w - 2 ^ 63) ≡ w = omega arith in
      let stays : bit_or w (2 ^ 63) ≡ w =
      subst (λ (x : ℕ). bit_or x (2 ^ 63) ≡ x) whole (or_taken (w - 2 ^ 63) (omega arith)) in
      subst (λ (x : ℕ). Sound k (after x (claim_with false t d v w))) (sym stays) (claims_taken t told)

-- the claimed bit may be set in the word of a variable
pub claims : {S : Type 0} (k : Opening) (slots id : ℕ) (m : Me S View) (i v : ℕ) → i ≡ 1 + v → v < count k
    → m.0.opening ≡ Some k → length m.0.due ≡ 0
    → Allows (Sound k) slots id m i (λ x. bit_or x (2 ^ 63)) (λ r n. ClaimTold m (variable_at i) r n)
claims k slots id m i v is near live clear =
    at_place k slots id m (λ x. bit_or x (2 ^ 63)) (ClaimTold m) i (1 + v) v (variable_at i) is (omega (arith, is))
    (λ s o _ me small.
    let w : ℕ = get_or s.words (1 + v) 0 in
    let e : View = claimed_by m.0 v w in
    let kept = claimed k s o id v m.0 me live near (is_free w) (is_settled w) refl refl in (
      e,
      keeps,
      tt,
      kept,
      (
        tells k s o id v m.0 me live near,
        refl,
        sole_tells k s o id v m.0 me live near clear,
        knows_after k s o id m.0 e me live (set s.words (1 + v) (bit_or w (2 ^ 63))) kept,
      ),
    ))
