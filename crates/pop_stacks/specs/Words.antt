-- Words of the key stream: those of a group that is read or kept, and those of a block of four
-- streams.
use Rattle.std.specs.Prelude.{◌≡◌, ℕ, ◌+◌, ◌*◌, ◌<◌, List, true, slice_index}
use Rattle.rand_chacha.specs.Block.{block_word}
use Rattle.rand_chacha.specs.ChaCha.{ChaCha, word_at}
use Rattle.pop_stacks.specs.declared.refill.Refill.{Refill}

-- the 64 words of a group of 32 entries of a stream
abbrev pub AreWordsOf : List ℕ → ℕ → ℕ → List ℕ → Type 0
AreWordsOf key stream group words =
    (i : ℕ) → i < 64 → slice_index words i ≡ word_at 10 key stream (64 * group + i)

-- the 16 words of this block of each of the four streams from this one on
abbrev pub AreBlockWords : List ℕ → ℕ → ℕ → List ℕ → Type 0
AreBlockWords key stream block words = (j k : ℕ) → j < 4 → k < 16
    → slice_index words (16 * j + k) ≡ block_word 10 key block (stream + j) k

-- a refill holds the words that it claims to hold
abbrev pub HoldsWords : List ℕ → Refill → Type 0
HoldsWords key r = r.filled ≡ true → AreWordsOf key r.stream r.group r.words

-- the first n words are those of the n places before the position of the cipher
abbrev pub AreRead : ChaCha → ℕ → List ℕ → Type 0
AreRead rng n words = (start j : ℕ) → rng.word_pos ≡ start + n → j < n
    → slice_index words j ≡ word_at 10 rng.key rng.stream (start + j)
