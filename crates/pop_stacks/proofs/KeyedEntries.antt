-- Keyed entries, by the words of the key stream that make their numbers.
use Rattle.std.proofs.Common.{◌≡◌, ◌<◌, ◌≤◌, ◌+◌, ◌-◌, ◌*◌, ◌/◌, ◌%◌, ◌^◌, ◌∙◌, ℕ, List, slice_index, ap, ap₂, refl, sym, subst, arith}
use Rattle.rand_chacha.specs.Block.{block_word}
use Rattle.rand_chacha.specs.ChaCha.{key_of, word_at}
use Rattle.pop_model.specs.Stacks.{StackTable, value_at, domain_of, stream_of, number_at, weighted, row_of, IsKeyed}
use Rattle.pop_stacks.specs.Tables.{sample_table}
use Rattle.pop_stacks.specs.Readers.{Streams}
use Rattle.pop_stacks.specs.Words.{AreWordsOf, AreBlockWords}
use Rattle.pop_stacks.specs.Draws.{AreDrawn, number_in}
use Rattle.pop_stacks.specs.KeptValues.{AreValuesOf}
use Rattle.pop_stacks.proofs.KeptLemmas.{group_entry}
use Rattle.pop_stacks.specs.declared.stack_spec.StackSpec.{StackSpec}
use Rattle.pop_stacks.specs.declared.stack_spec.StackSpec.TheVariants.{Given, Key}

-- the number of an entry, by its words
number-words : (key : List ℕ) (v k low high : ℕ) → low ≡ word_at 10 key v (2 * k)
    → high ≡ word_at 10 key v (2 * k + 1) → low + 2 ^ 32 * high ≡ number_at key v k
unfolding number_at
number-words key v k low high low_is high_is = ap₂ (λ a b. a + 2 ^ 32 * b) low_is high_is

-- the value of an entry of keyed stacks, from the words of a stream of theirs
pub keyed_value : (s : StackTable) (spec : StackSpec) (key stream : List ℕ) (sample height : ℕ) (weights : List (List ℕ))
    (v k low high value : ℕ) → spec ≡ Key key → sample_table sample spec height weights ≡ s → Streams s.origin stream
    → low ≡ word_at 10 stream (stream_of sample v) (2 * k) → high ≡ word_at 10 stream (stream_of sample v) (2 * k + 1)
    → value ≡ weighted (row_of weights v) (low + 2 ^ 32 * high) → value ≡ value_at s v k
keyed_value s spec key stream sample height weights v k low high value keyed made streams low_is high_is drawn =
    let is : sample_table sample (Key key) height weights ≡ s =
    ap (λ x. sample_table sample x height weights) (sym keyed) ∙ made in
    let same : stream ≡ key_of key = subst (λ (t : StackTable). Streams t.origin stream) (sym is) streams in
    let number : low + 2 ^ 32 * high ≡ number_at (key_of key) (stream_of sample v) k =
    number-words stream (stream_of sample v) k low high low_is high_is ∙ ap (λ x. number_at x (stream_of sample v) k) same in
    drawn ∙ ap (weighted (row_of weights v)) number ∙ ap (λ (t : StackTable). value_at t v k) is

-- the values of a group of keyed stacks, from the words of a stream of theirs
pub group_values : (s : StackTable) (spec : StackSpec) (key stream : List ℕ) (sample height : ℕ)
    (weights : List (List ℕ)) (v group : ℕ) (words values : List ℕ) → spec ≡ Key key
    → sample_table sample spec height weights ≡ s → Streams s.origin stream → group < 2 ^ 26
    → AreWordsOf stream (stream_of sample v) group words → AreDrawn (row_of weights v) words 0 32 values
    → AreValuesOf s v (4 * group + 4) values
group_values s spec key stream sample height weights v group words values keyed made streams small read drawn k i at =
    let entry = group_entry group k i at in
    let low : slice_index words (0 + 2 * i) ≡ word_at 10 stream (stream_of sample v) (2 * k) =
    read (0 + 2 * i) (omega (arith, entry.1)) ∙ ap (word_at 10 stream (stream_of sample v)) (omega (arith, entry.0)) in
    let high : slice_index words (0 + 2 * i + 1) ≡ word_at 10 stream (stream_of sample v) (2 * k + 1) =
    read (0 + 2 * i + 1) (omega (arith, entry.1)) ∙ ap (word_at 10 stream (stream_of sample v)) (omega (arith, entry.0)) in
    let one = drawn i entry.1 in (
      keyed_value s spec key stream sample height weights v k _ _ _ keyed made streams low high one.0,
      subst (λ (t : StackTable). slice_index values i < domain_of t v) made one.1,
    )

-- keyed stacks have a key
pub key_of_keyed : (s : StackTable) (spec : StackSpec) (sample height : ℕ) (weights : List (List ℕ))
    → sample_table sample spec height weights ≡ s → IsKeyed s.origin → (key : List ℕ) × (spec ≡ Key key)
key_of_keyed s (Given rows) sample height weights made keyed =
    absurd (subst (λ (t : StackTable). IsKeyed t.origin) (sym made) keyed)
key_of_keyed s (Key key) sample height weights made keyed = (key, refl)

-- the value of an entry of a block of keyed stacks, from that block's words of four streams of theirs
pub block_value : (s : StackTable) (spec : StackSpec) (stream : List ℕ) (sample height : ℕ)
    (weights : List (List ℕ)) (first block v k value : ℕ) (words : List ℕ) → IsKeyed s.origin
    → sample_table sample spec height weights ≡ s → Streams s.origin stream
    → AreBlockWords stream (stream_of sample first) block words → first ≤ v → v < first + 4 → k / 8 ≡ block
    → value ≡ weighted (row_of weights v) (number_in words (16 * (v - first)) (k % 8))
    → value ≡ value_at s v k
block_value s spec stream sample height weights first block v k value words keyed made streams read from few at drawn =
    let key = key_of_keyed s spec sample height weights made keyed in
    let j = v - first in
    let i = k % 8 in
    let lane : j < 4 = omega arith in
    let moved : stream_of sample first + j ≡ stream_of sample v = omega arith in
    let low_place : 2 * i ≡ 2 * k % 16 = omega arith in
    let low_block : block ≡ 2 * k / 16 = omega (arith, at) in
    let high_place : 2 * i + 1 ≡ (2 * k + 1) % 16 = omega arith in
    let high_block : block ≡ (2 * k + 1) / 16 = omega (arith, at) in
    let low : slice_index words (16 * j + 2 * i) ≡ word_at 10 stream (stream_of sample v) (2 * k) =
    read j (2 * i) lane (omega arith) ∙ ap (λ n. block_word 10 stream block n (2 * i)) moved
    ∙ ap₂ (λ b w. block_word 10 stream b (stream_of sample v) w) low_block low_place in
    let place : 16 * j + 2 * i + 1 ≡ 16 * j + (2 * i + 1) = omega arith in
    let high : slice_index words (16 * j + 2 * i + 1) ≡ word_at 10 stream (stream_of sample v) (2 * k + 1) =
    ap (slice_index words) place ∙ read j (2 * i + 1) lane (omega arith)
    ∙ ap (λ n. block_word 10 stream block n (2 * i + 1)) moved
    ∙ ap₂ (λ b w. block_word 10 stream b (stream_of sample v) w) high_block high_place in
    keyed_value s spec key.0 stream sample height weights v k _ _ value key.1 made streams low high drawn

-- the values of a block of keyed stacks, from that block's words of four streams of theirs
pub block_values : (s : StackTable) (spec : StackSpec) (stream : List ℕ) (sample height : ℕ)
    (weights : List (List ℕ)) (first block v : ℕ) (words values : List ℕ) → IsKeyed s.origin
    → sample_table sample spec height weights ≡ s → Streams s.origin stream
    → AreBlockWords stream (stream_of sample first) block words → first ≤ v → v < first + 4
    → AreDrawn (row_of weights v) words (16 * (v - first)) 8 values
    → (k : ℕ) → k / 8 ≡ block
    → (slice_index values (k % 8) ≡ value_at s v k) × (slice_index values (k % 8) < domain_of s v)
block_values s spec stream sample height weights first block v words values keyed made streams read from few drawn k at =
    let one = drawn (k % 8) (omega arith) in (
      block_value s spec stream sample height weights first block v k _ words keyed made streams read from few at one.0,
      subst (λ (t : StackTable). slice_index values (k % 8) < domain_of t v) made one.1,
    )
