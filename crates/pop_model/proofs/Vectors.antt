-- Values that a slip in a definition would change.
use Rattle.std.proofs.Common.{inl, inr, ◌≡◌, ◌+◌, ◌-◌, ◌*◌, ◌^◌, ℕ, [], ◌∷◌, List, map, replicate, refl, arith}
use Rattle.rand_core.specs.Steps.{u32_at}
use Rattle.rand_chacha.specs.Block.{quarter_round, column_round, diagonal_round, double_rounds, block_word}
use Rattle.rand_chacha.specs.ChaCha.{key_of}
use Rattle.pop_model.specs.Stacks.{number_at, weighted}
use Rattle.pop_model.specs.Popping.{pop}
use Rattle.pop_model.specs.Faults.{Rose}

unfoldable pub zero_key : List ℕ
zero_key = key_of (replicate 32 0)

-- the words of the zero key, stream 0, at the first places (RFC 8439, A.1, vector 1)
pub numbers : map (number_at zero_key 0) (0 ∷ 3 ∷ 7 ∷ [])
    ≡ (0xade0b876 + 2 ^ 32 * 0x903df1a0) ∷ (0xccef36a8 + 2 ^ 32 * 0xc70d778b) ∷ (0x69b687c3 + 2 ^ 32 * 0x8665eeb2) ∷ []
unfolding zero_key number_at u32_at quarter_round column_round diagonal_round double_rounds block_word
numbers = refl

-- weights 1 and 1, at the first eight entries
pub halves : map (λ k. weighted (1 ∷ 1 ∷ []) (number_at zero_key 0 k)) (0 ∷ 1 ∷ 2 ∷ 3 ∷ 4 ∷ 5 ∷ 6 ∷ 7 ∷ []) ≡ 1 ∷ 0 ∷ 0 ∷ 1 ∷ 1 ∷ 0 ∷ 0 ∷ 1 ∷ []
unfolding zero_key number_at u32_at quarter_round column_round diagonal_round double_rounds block_word
halves = refl

-- weights 1, 1 and 1
pub thirds : map (λ k. weighted (1 ∷ 1 ∷ 1 ∷ []) (number_at zero_key 0 k)) (0 ∷ 1 ∷ 2 ∷ 3 ∷ 4 ∷ 5 ∷ 6 ∷ 7 ∷ []) ≡ 1 ∷ 0 ∷ 0 ∷ 2 ∷ 1 ∷ 0 ∷ 0 ∷ 1 ∷ []
unfolding zero_key number_at u32_at quarter_round column_round diagonal_round double_rounds block_word
thirds = refl

-- weights 2 and 1
pub two_to_one : map (λ k. weighted (2 ∷ 1 ∷ []) (number_at zero_key 0 k)) (0 ∷ 1 ∷ 2 ∷ 3 ∷ 4 ∷ 5 ∷ 6 ∷ 7 ∷ []) ≡ 0 ∷ 0 ∷ 0 ∷ 1 ∷ 0 ∷ 0 ∷ 0 ∷ 0 ∷ []
unfolding zero_key number_at u32_at quarter_round column_round diagonal_round double_rounds block_word
two_to_one = refl

-- weights 5 and 1
pub five_to_one : weighted (5 ∷ 1 ∷ []) (number_at zero_key 0 0) ≡ 0
unfolding zero_key number_at u32_at quarter_round column_round diagonal_round double_rounds block_word
five_to_one = refl

-- a pop moves the variables of the event by one, and no other
moves_on : pop (3 ∷ 0 ∷ 7 ∷ 1 ∷ []) ((0, 1) ∷ (2, 0) ∷ []) ≡ 4 ∷ 0 ∷ 8 ∷ 1 ∷ []
moves_on = refl

-- a count of faults has to rise
stands_still : Rose 6 6 → ⊥
stands_still (inl rose) = absurd (omega (arith, rose))
stands_still (inr last) = absurd (omega (arith, last))

-- but where it stands at the last value of a counter of 64 bits
is_full : Rose (2 ^ 64 - 1) (2 ^ 64 - 1)
is_full = inr refl

-- a count above that value has to rise too
stands_above : Rose (2 ^ 64) (2 ^ 64) → ⊥
stands_above (inl rose) = absurd (omega (arith, rose))
stands_above (inr last) = absurd (omega (arith, last))
