-- What callers use about a claim, and about the room of a log.
use Rattle.std.proofs.lemmas.Bool.Decides.{nat_tests}
use Rattle.std.proofs.Common.{cond, le-ltb, ◌≡◌, ℕ, ◌^◌, ◌<◌, ◌≤◌, [], ◌∷◌, ◌++◌, refl, ap, ◌∙◌, arith}
use Rattle.claim_words.specs.declared.view.View.{View}
use Rattle.claim_words.specs.Words.{cursor_in}
use Rattle.claim_words.specs.Maps.{Pairs, is_at, times, look}
use Rattle.claim_words.specs.Steps.{claimed_by}
use Rattle.claim_words.proofs.Totals.{total-append, is_at-yes}
use Rattle.claim_words.proofs.ClaimKeepsRule.{held_after}

-- the cursor of a pair that was added at the end
pub look_end : (v c : ℕ) (l : Pairs) → times v l ≡ 0 → look v (l ++ (v, c) ∷ []) ≡ c
look_end v c [] none = grind (arith, nat_tests)
look_end v c (p ∷ ps) none = grind (arith, nat_tests, look_end v c ps)

-- after a claim that was granted the pass holds the variable, with the cursor of its word
pub mine : (d e : View) (v w : ℕ) → e ≡ claimed_by d v w → w < 2 ^ 63 → times v d.held ≡ 0
    → (times v e.held ≡ 1) × (look v e.held ≡ cursor_in w)
mine d e v w to free none =
    let held = held_after d e v w to free in (
      omega (
        arith,
        ap (times v) held,
        total-append (is_at v) d.held ((v, cursor_in w) ∷ []),
        is_at-yes v (v, cursor_in w) refl,
      ),
      ap (look v) held ∙ look_end v (cursor_in w) d.held none,
    )

-- a claim that was not granted changes nothing that the pass holds
pub held_still : (d e : View) (v w : ℕ) → e ≡ claimed_by d v w → 2 ^ 63 ≤ w → e.held ≡ d.held
held_still d e v w to taken =
    ap (λ (x : View). x.held) to
    ∙ ap (λ b. cond b (d.held ++ (v, cursor_in w) ∷ []) d.held) (le-ltb w (2 ^ 63) taken)
