-- How many of the numbers that an entry of a key is made from select each value.
use Rattle.std.specs.Prelude.{◌≡◌, ℕ, ◌+◌, ◌-◌, ◌*◌, ◌/◌, ◌^◌, ◌<◌, List, length, take, sum, slice_index}
use Rattle.std.specs.Int.{◌∣◌}
use Rattle.pop_model.specs.Stacks.{row_of, stream_of, number_at, weighted, value_from}
use Rattle.pop_model.specs.Stacks.Origin.{Keyed}
use Rattle.pop_samples.specs.Lists.{AreAll}

-- one of the 2 ^ 64 numbers, which selects this value under these weights
pub record Gives (weights : List ℕ) (x number : ℕ) : Type 0 where
  pub below : number < 2 ^ 64
  pub value : weighted weights number ≡ x

-- a quotient, rounded up
abbrev pub rounded_up : ℕ → ℕ → ℕ
rounded_up n d = (n + d - 1) / d

-- the lowest number that selects a value: 2 ^ 64 times the sum of the weights before it, over the
-- sum of all weights, rounded up
abbrev pub first_number : List ℕ → ℕ → ℕ
first_number weights x = rounded_up (2 ^ 64 * sum (take x weights)) (sum weights)

-- A count that is 2 ^ 64 times the weight of a value over the sum of all weights. This is exact if
-- the sum divides 2 ^ 64, and otherwise holds to within 1.
pub record IsShare (weights : List ℕ) (x count : ℕ) : Type 0 where
  pub exact : count ≡ first_number weights (x + 1) - first_number weights x
  pub even : sum weights ∣ 2 ^ 64 → count * sum weights ≡ 2 ^ 64 * slice_index weights x
  pub most : count * sum weights < 2 ^ 64 * slice_index weights x + sum weights
  pub least : 2 ^ 64 * slice_index weights x < count * sum weights + sum weights

-- The numbers that select a value are finitely many; their count is the share of the value.
abbrev pub EntryShares : Type 0
EntryShares = (weights : List ℕ) → 0 < sum weights → (x : ℕ) → x < length weights
    → (numbers : List ℕ) × AreAll (Gives weights x) numbers × IsShare weights x (length numbers)

-- The number of an entry of a key is one of those that select the entry's value.
abbrev pub NumberedEntries : Type 0
NumberedEntries = (key : List ℕ) (sample height : ℕ) (weights : List (List ℕ)) (v k : ℕ)
    → Gives (row_of weights v) (value_from (Keyed key sample height) weights v k)
    (number_at key (stream_of sample v) k)
