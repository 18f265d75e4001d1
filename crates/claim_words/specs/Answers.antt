-- The results of claims and of takes.
use Rattle.std.specs.Prelude.{◌≡◌, ℕ, ◌+◌, ◌^◌, ◌<◌, ◌≤◌, ◌==◌, Bool}
use Rattle.claim_words.specs.declared.view.View.{View}
use Rattle.claim_words.specs.declared.claim.Claim.{Claim}
use Rattle.claim_words.specs.declared.claim.Claim.TheVariants.{Mine, Busy, Settled}
use Rattle.claim_words.specs.Words.{cursor_in, settled_bit}
use Rattle.claim_words.specs.Steps.{taken_by, marked_by}
use Rattle.claim_words.specs.Tells.{ClaimTells, SoleTells, SoleTakes, SoleFinds}

-- the result that a word gives; it depends on nothing else
abbrev pub Answers : ℕ → Claim → Type 0
Answers w (Mine c) = (w < 2 ^ 63) × (c ≡ cursor_in w)
Answers w (Busy found) = (2 ^ 63 ≤ w) × (settled_bit w ≡ 0) × (found ≡ w)
Answers w (Settled c) = (2 ^ 63 ≤ w) × (settled_bit w ≡ 1) × (c ≡ cursor_in w)

-- a claim of v with this result: one step, which found one word
abbrev pub Claims : View → ℕ → View → Claim → Type 0
Claims d v e answer =
    (w : ℕ) × ClaimTells d v w e × Answers w answer × SoleTells d v w

-- a successful claim uses up room for one
abbrev pub Spends : ℕ → ℕ → Claim → Type 0
Spends old new (Mine c) = new + 1 ≡ old
Spends old new (Busy found) = new ≡ old
Spends old new (Settled c) = new ≡ old

-- a take of the mark of u with this result: one step, which found 0 or 1
abbrev pub Takes : View → ℕ → View → Bool → Type 0
Takes d u e answer =
    (w : ℕ) × (e ≡ taken_by d u w) × (w ≤ 1) × (answer ≡ (w == 1)) × SoleTakes d u w
    × SoleFinds d u w

-- the mark of u was set: one step, which found it as 0 or 1
abbrev pub Marks : View → ℕ → View → Type 0
Marks d u e = (w : ℕ) × (e ≡ marked_by d u w) × (w ≤ 1) × SoleFinds d u w
