-- Values that a slip in a definition would change.
use Rattle.std.proofs.Common.{◌≡◌, ◌*◌, ◌^◌, [], ◌∷◌, map, refl}
use Rattle.pop_model.specs.Stacks.{weighted}
use Rattle.pop_samples.specs.Exchange.{entries_under, exchange}
use Rattle.pop_samples.specs.Weights.{sample_weight, weight_of}
use Rattle.pop_samples.specs.Shares.{first_number}

-- three rows with cursors 1, 0 and 2
under : entries_under ((5 ∷ 6 ∷ []) ∷ (7 ∷ []) ∷ (1 ∷ 2 ∷ 3 ∷ 4 ∷ []) ∷ []) (1 ∷ 0 ∷ 2 ∷ []) ≡ 6 ∷ 7 ∷ 3 ∷ []
under = refl

-- and the same rows with 9, 8 and 0 there
exchanged : exchange ((5 ∷ 6 ∷ []) ∷ (7 ∷ []) ∷ (1 ∷ 2 ∷ 3 ∷ 4 ∷ []) ∷ []) (1 ∷ 0 ∷ 2 ∷ []) (9 ∷ 8 ∷ 0 ∷ [])
    ≡ (5 ∷ 9 ∷ []) ∷ (8 ∷ []) ∷ (1 ∷ 2 ∷ 0 ∷ 4 ∷ []) ∷ []
exchanged = refl

-- weights 2 and 3, and 5 and 7: 2 * 3 * 3 * 7
weights : weight_of ((2 ∷ 3 ∷ []) ∷ (5 ∷ 7 ∷ []) ∷ []) ((0 ∷ 1 ∷ 1 ∷ []) ∷ (1 ∷ []) ∷ []) ≡ 126
weights = refl

-- weight 3 of value 1, and weight 5 of value 0
of_sample : sample_weight ((2 ∷ 3 ∷ []) ∷ (5 ∷ 7 ∷ []) ∷ []) (1 ∷ 0 ∷ []) ≡ 15
of_sample = refl

-- Of the 2 ^ 64 numbers, weights 1 and 2 leave a third, rounded up, to value 0 (2 ^ 64 is one more than
-- a multiple of 3, worked by hand).
first_third : map (first_number (1 ∷ 2 ∷ [])) (0 ∷ 1 ∷ 2 ∷ []) ≡ 0 ∷ 6148914691236517206 ∷ 18446744073709551616 ∷ []
first_third = refl

-- the last number of value 0, and the first of value 1
around_third : map (weighted (1 ∷ 2 ∷ [])) (6148914691236517205 ∷ 6148914691236517206 ∷ []) ≡ 0 ∷ 1 ∷ []
around_third = refl

-- weights 3, 1 and 4 divide 2 ^ 64 in eighths
eighths : map (first_number (3 ∷ 1 ∷ 4 ∷ [])) (0 ∷ 1 ∷ 2 ∷ 3 ∷ [])
    ≡ 0 ∷ (3 * 2 ^ 61) ∷ (4 * 2 ^ 61) ∷ (8 * 2 ^ 61) ∷ []
eighths = refl
