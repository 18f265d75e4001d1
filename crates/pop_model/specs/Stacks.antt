-- The entries of the variables' stacks.
use Rattle.std.specs.Prelude.{◌≡◌, ℕ, suc, ◌+◌, ◌-◌, ◌*◌, ◌/◌, ◌<◌, ◌≤◌, ◌^◌, ltb, if◌then◌else◌, List, [], ◌∷◌, length, sum, slice_index, slice_index_or, ⊤}
use Rattle.rand_chacha.specs.ChaCha.{word_at}

-- the source of the entries
pub data Origin : Type 0 where
  -- row v has the entries of variable v
  Given : (rows : List (List ℕ)) → Origin
  -- the eight words of a ChaCha20 key, the number of the sample, and the height of each stack
  Keyed : (key : List ℕ) (sample height : ℕ) → Origin

-- the stacks of all variables; `weights` has for each variable the weights of its values, from
-- value 0 on
pub record StackTable : Type 0 where
  pub origin : Origin
  pub weights : List (List ℕ)

-- row v of a table of rows
abbrev pub row_of : List (List ℕ) → ℕ → List ℕ
row_of rows v = slice_index_or rows v []

-- the number of variables
abbrev pub variables_of : StackTable → ℕ
variables_of s = length s.weights

-- the number of values of a variable; its values are the numbers below this
abbrev pub domain_of : StackTable → ℕ → ℕ
domain_of s v = length (row_of s.weights v)

-- the stream of a variable; each sample has its own streams (this project's choice)
abbrev pub stream_of : ℕ → ℕ → ℕ
stream_of sample v = sample * 2 ^ 32 + v

-- The two words of an entry make a number below 2 ^ 64, with the low word first. Entry k has the
-- places 2k and 2k + 1 of its variable's stream of the ChaCha20 key stream (RFC 8439, 2.3, with a
-- counter and a stream number of 64 bits each).
unfoldable pub number_at : List ℕ → ℕ → ℕ → ℕ
number_at key stream k = word_at 10 key stream (2 * k) + 2 ^ 32 * word_at 10 key stream (2 * k + 1)

-- the number scaled to the sum of the weights; it is below the sum, since the number is below 2 ^
-- 64
abbrev pub scaled : ℕ → ℕ → ℕ
scaled number total = number * total / 2 ^ 64

-- the smallest value such that the weights up to it sum to more than m
abbrev pub first_above : List ℕ → ℕ → ℕ
first_above [] m = 0
first_above (w ∷ weights) m = if ltb m w then 0 else suc (first_above weights (m - w))

-- the value that a number selects under these weights (this project's choice)
abbrev pub weighted : List ℕ → ℕ → ℕ
weighted weights number = first_above weights (scaled number (sum weights))

-- the number of entries of a stack, by its source
abbrev pub height_from : Origin → ℕ → ℕ
height_from (Given rows) v = length (row_of rows v)
height_from (Keyed key sample height) v = height

-- the entry at a place, by its source
abbrev pub value_from : Origin → List (List ℕ) → ℕ → ℕ → ℕ
value_from (Given rows) weights v k = slice_index (row_of rows v) k
value_from (Keyed key sample height) weights v k =
    weighted (row_of weights v) (number_at key (stream_of sample v) k)

-- the number of entries of the stack of a variable
abbrev pub height_of : StackTable → ℕ → ℕ
height_of s v = height_from s.origin v

-- entry k of variable v
abbrev pub value_at : StackTable → ℕ → ℕ → ℕ
value_at s v k = value_from s.origin s.weights v k

-- the entries come from a key
abbrev pub IsKeyed : Origin → Type 0
IsKeyed (Given rows) = ⊥
IsKeyed (Keyed key sample height) = ⊤

-- the source for another sample; given rows have only one
abbrev pub origin_for : ℕ → Origin → Origin
origin_for j (Given rows) = Given rows
origin_for j (Keyed key sample height) = Keyed key j height

-- the stacks for another sample
abbrev pub stacks_for : ℕ → StackTable → StackTable
stacks_for j s = record { origin = origin_for j s.origin; weights = s.weights }

-- the source with another height; given rows keep their lengths
abbrev pub origin_raised : ℕ → Origin → Origin
origin_raised h (Given rows) = Given rows
origin_raised h (Keyed key sample height) = Keyed key sample h

-- the stacks with another height of the variables
abbrev pub stacks_raised : ℕ → StackTable → StackTable
stacks_raised h s = record { origin = origin_raised h s.origin; weights = s.weights }

-- the other stacks have the same variables and entries, and possibly more entries
pub record Extends (s taller : StackTable) : Type 0 where
  pub variables : variables_of taller ≡ variables_of s
  pub heights : (v : ℕ) → height_of s v ≤ height_of taller v
  pub entries : (v k : ℕ) → k < height_of s v → value_at taller v k ≡ value_at s v k

-- what holds of every table: counts and heights are below 2 ^ 31, and each stack has an entry
pub record IsTable (s : StackTable) : Type 0 where
  pub count : variables_of s < 2 ^ 31
  pub heights : (v : ℕ) → height_of s v < 2 ^ 31
  pub entries : (v : ℕ) → v < variables_of s → 0 < height_of s v
