-- Rows of numbers in one array, with a number for each vertex of a graph.
use Rattle.std.specs.Prelude.{◌≡◌, ◌⊎◌, ℕ, ◌+◌, ◌<◌, ◌≤◌, List, length, slice_index}

-- the numbers from a place on are those of the vertices 1 to n
abbrev pub HasRow : ℕ → ℕ → (ℕ → ℕ) → List ℕ → Type 0
HasRow at n number numbers = (k : ℕ) → k < n → slice_index numbers (at + k) ≡ number (k + 1)

-- these numbers are put there, and all others stay
pub record PutsRow (at n : ℕ) (number : ℕ → ℕ) (old new : List ℕ) : Type 0 where
  pub size : length new ≡ length old
  pub here : HasRow at n number new
  pub others : (k : ℕ) → (k < at) ⊎ (at + n ≤ k) → slice_index new k ≡ slice_index old k

-- an array that isn't wanted has no numbers, and stays; in a wanted array such a row is put
abbrev pub PutsWanted : ℕ → ℕ → (ℕ → ℕ) → List ℕ → List ℕ → Type 0
PutsWanted at n number old new =
    ((length old ≡ 0) × (new ≡ old)) ⊎ PutsRow at n number old new

-- a wanted array has such a row
abbrev pub HasWanted : ℕ → ℕ → (ℕ → ℕ) → List ℕ → Type 0
HasWanted at n number numbers = 0 < length numbers → HasRow at n number numbers

-- from a place on the numbers stay, and their count stays too
pub record StaysFrom (at : ℕ) (old new : List ℕ) : Type 0 where
  pub size : length new ≡ length old
  pub behind : (k : ℕ) → at ≤ k → slice_index new k ≡ slice_index old k
