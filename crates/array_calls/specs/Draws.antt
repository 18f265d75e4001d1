-- Where the samples of a call begin, how far they go, and what the call left.
use Rattle.std.specs.Prelude.{◌≡◌, ◌⊎◌, ℕ, zero, suc, ◌+◌, ◌-◌, ◌*◌, ◌/◌, ◌<◌, ◌≤◌, ◌==◌, if◌then◌else◌, List, [], ◌∷◌, length, slice_index, sum_by, Option, None, Some, ⊤}
use Rattle.std.specs.List.{range_with_len}
use Rattle.array_calls.specs.declared.outcome.Outcome.{Outcome}
use Rattle.array_calls.specs.declared.outcome.Outcome.TheVariants.{Samples, Exhausted, Stopped}

-- the cursors from which the sample of row j continues: for row 0 the given ones, if any
abbrev pub given : List ℕ → ℕ → Option (List ℕ)
given [] j = None
given (k ∷ from) zero = Some (k ∷ from)
given (k ∷ from) (suc j) = None

-- the greatest budget, which is no limit
abbrev pub unlimited : ℕ
unlimited = 18446744073709551615

-- what is left of a budget after a number of pops
abbrev pub less : ℕ → ℕ → ℕ
less budget pops = if budget == unlimited then budget else budget - pops

-- the pops of the first rows together
abbrev pub pops_of : ℕ → List ℕ → ℕ
pops_of count counts = sum_by (λ j. slice_index counts (2 * j)) (range_with_len 0 count)

-- the pops are within the budget
abbrev pub AreWithinBudget : ℕ → ℕ → List ℕ → Type 0
AreWithinBudget budget count counts = (budget ≡ unlimited) ⊎ (pops_of count counts ≤ budget)

-- no event occurs in any of these rows
abbrev pub AreSamples : ℕ → List ℕ → Type 0
AreSamples count counts = (j : ℕ) → j < count → slice_index counts (2 * j + 1) ≡ 0

-- the row at which a call stopped
abbrev pub stopped_at : Outcome → Option ℕ
stopped_at Samples = None
stopped_at Exhausted = None
stopped_at (Stopped row) = Some row

-- if each row is at its end, events occur in none of them or in some
abbrev pub IsOutcome : List ℕ → Outcome → Type 0
IsOutcome counts Samples = AreSamples (length counts / 2) counts
IsOutcome counts Exhausted = AreSamples (length counts / 2) counts → ⊥
IsOutcome counts (Stopped row) = ⊤
