-- The value of an entry, in terms of the weights.
use Rattle.std.specs.Prelude.{ℕ, suc, ◌<◌, List, take, sum}
use Rattle.pop_model.specs.Stacks.{row_of, number_at, stream_of, scaled, value_from}
use Rattle.pop_model.specs.Stacks.Origin.{Keyed}
use Rattle.pop_model.specs.Places.{IsLeast}

-- the weights 0 to j sum to more than m
abbrev pub Exceed : List ℕ → ℕ → ℕ → Type 0
Exceed weights m j = m < sum (take (suc j) weights)

-- The value of a keyed entry is the smallest j such that the weights 0 to j of its variable sum to
-- more than m. Here m is the entry's number, scaled to the sum of all weights.
abbrev pub ValueIsLeast : Type 0
ValueIsLeast = (key : List ℕ) (sample height : ℕ) (weights : List (List ℕ)) (v k : ℕ)
    → 0 < sum (row_of weights v)
    → IsLeast (Exceed (row_of weights v)
    (scaled (number_at key (stream_of sample v) k) (sum (row_of weights v))))
    (value_from (Keyed key sample height) weights v k)
