-- Values that a slip in a definition would change, worked by hand.
use Rattle.std.proofs.Common.{◌≡◌, ℕ, List, [], ◌∷◌, None, Some, refl}
use Rattle.pop_model.specs.Popping.{Cube}
use Rattle.pop_model.specs.Logs.{LogRecord}
use Rattle.drawn_samples.specs.WholeRuns.{cube_weight, log_weight, used_by}
use Rattle.drawn_samples.specs.Mixed.{mixed_weight}

-- a record of these pairs
popped : Cube → LogRecord
popped e = record { event = record { unit = 0; cube = e }; entries = [] }

-- weights 2 and 3, 5 and 7, 11 and 13: variable 0 with value 1, and variable 2 with value 0
of_cube : cube_weight ((2 ∷ 3 ∷ []) ∷ (5 ∷ 7 ∷ []) ∷ (11 ∷ 13 ∷ []) ∷ []) ((0, 1) ∷ (2, 0) ∷ []) ≡ 33
of_cube = refl

-- two records of two pairs and one: 3 * 11, and 7
of_log : log_weight ((2 ∷ 3 ∷ []) ∷ (5 ∷ 7 ∷ []) ∷ (11 ∷ 13 ∷ []) ∷ [])
    (popped ((0, 1) ∷ (2, 0) ∷ []) ∷ popped ((1, 1) ∷ []) ∷ []) ≡ 231
unfolding popped
of_log = refl

-- they use three entries
used : used_by (popped ((0, 1) ∷ (2, 0) ∷ []) ∷ popped ((1, 1) ∷ []) ∷ []) ≡ 3
unfolding popped
used = refl

-- of three runs the second ends with none: 2 * 7, and 3 * 5
mixed : mixed_weight ((2 ∷ 3 ∷ []) ∷ (5 ∷ 7 ∷ []) ∷ []) (Some (0 ∷ 1 ∷ []) ∷ None ∷ Some (1 ∷ 0 ∷ []) ∷ []) ≡ 210
mixed = refl
