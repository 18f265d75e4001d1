-- Words that a slip in the cipher's definition, or in what is asked of it, would change.
use Rattle.std.proofs.Common.{◌≡◌, ℕ, [], ◌∷◌, List, map, replicate, refl}
use Rattle.std.specs.List.{range_with_len}
use Rattle.rand_core.specs.Steps.{u32_at}
use Rattle.rand_chacha.specs.Block.{quarter_round, column_round, diagonal_round, double_rounds, block_word}
use Rattle.rand_chacha.specs.ChaCha.{word_at, key_of}

unfoldable pub zero_key : List ℕ
zero_key = key_of (replicate 32 0)

-- the key of zeros, stream 0, blocks 0 and 1 (RFC 8439, A.1, vectors 1 and 2)
pub words : map (word_at 10 zero_key 0) (range_with_len 0 32)
    ≡ 0xade0b876 ∷ 0x903df1a0 ∷ 0xe56a5d40 ∷ 0x28bd8653 ∷ 0xb819d2bd ∷ 0x1aed8da0 ∷ 0xccef36a8 ∷ 0xc70d778b ∷
    0x7c5941da ∷ 0x8d485751 ∷ 0x3fe02477 ∷ 0x374ad8b8 ∷ 0xf4b8436a ∷ 0x1ca11815 ∷ 0x69b687c3 ∷ 0x8665eeb2 ∷
    0xbee7079f ∷ 0x7a385155 ∷ 0x7c97ba98 ∷ 0x0d082d73 ∷ 0xa0290fcb ∷ 0x6965e348 ∷ 0x3e53c612 ∷ 0xed7aee32 ∷
    0x7621b729 ∷ 0x434ee69c ∷ 0xb03371d5 ∷ 0xd539d874 ∷ 0x281fed31 ∷ 0x45fb0a51 ∷ 0x1f0ae1ac ∷ 0x6f4d794b ∷ []
unfolding zero_key u32_at quarter_round column_round diagonal_round double_rounds block_word
words = refl
