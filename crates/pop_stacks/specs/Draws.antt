-- Weights by their running sums.
use Rattle.std.specs.Prelude.{◌≡◌, ℕ, ◌+◌, ◌-◌, ◌*◌, ◌^◌, ◌<◌, ◌≤◌, ltb, if◌then◌else◌, List, [], ◌∷◌, ⊤, All, length, slice_index}
use Rattle.pop_model.specs.Stacks.{scaled, weighted}
use Rattle.pop_stacks.specs.Rows.{AreShort}
use Rattle.pop_stacks.specs.KeptValues.{AreBelow}

-- the numbers that have these running sums
abbrev pub differences : ℕ → List ℕ → List ℕ
differences total [] = []
differences total (x ∷ sums) = (x - total) ∷ differences x sums

-- the sums rise from a number on, so no weight is 0
abbrev pub RisesFrom : ℕ → List ℕ → Type 0
RisesFrom total [] = ⊤
RisesFrom total (x ∷ sums) = (total < x) × RisesFrom x sums

-- each row has a sum, and its sums rise from 0
pub record AreRunning (rows : List (List ℕ)) : Type 0 where
  pub short : AreShort rows
  pub some : All (λ row. 0 < length row) rows
  pub rising : All (λ row. RisesFrom 0 row) rows

-- the number of an entry, by the words from a place on, with its low word first
abbrev pub number_in : List ℕ → ℕ → ℕ → ℕ
number_in words at i = slice_index words (at + 2 * i) + 2 ^ 32 * slice_index words (at + 2 * i + 1)

-- the first n values are those that the words from a place on select under these weights
abbrev pub AreDrawn : List ℕ → List ℕ → ℕ → ℕ → List ℕ → Type 0
AreDrawn weights words at n values = (i : ℕ) → i < n
    → (slice_index values i ≡ weighted weights (number_in words at i))
    × (slice_index values i < length weights)

-- the first n numbers are those that the words from a place on make, scaled to a total
abbrev pub AreScaled : ℕ → List ℕ → ℕ → ℕ → List ℕ → Type 0
AreScaled total words at n numbers = (i : ℕ) → i < n
    → slice_index numbers i ≡ scaled (number_in words at i) total

-- the first place of a sum above m
pub record IsFirstAbove (sums : List ℕ) (m place : ℕ) : Type 0 where
  pub within : place < length sums
  pub above : m < slice_index sums place
  pub least : (k : ℕ) → k < place → slice_index sums k ≤ m

-- the first values are the first places of sums above these numbers
abbrev pub AreFirstAbove : List ℕ → List ℕ → ℕ → List ℕ → Type 0
AreFirstAbove sums numbers n values = (i : ℕ) → i < n
    → IsFirstAbove sums (slice_index numbers i) (slice_index values i)

-- at most 256 sums, which rise; the last one is above each of the first n numbers
pub record MayPass (sums : List ℕ) (n : ℕ) (numbers : List ℕ) : Type 0 where
  pub some : 0 < length sums
  pub small : length sums ≤ 256
  pub rising : RisesFrom 0 sums
  pub above : AreBelow (slice_index sums (length sums - 1)) n numbers

-- a place, increased by 1 if this sum is not above m
abbrev pub past : ℕ → ℕ → ℕ → ℕ
past sum m place = if ltb m sum then place else place + 1
