-- Values of two bits, side by side in a word, and the words of blocks.
use Rattle.std.proofs.Common.{◌≡◌, ◌≢◌, ◌<◌, ◌≤◌, ◌+◌, ◌*◌, ◌/◌, ◌-◌, ◌%◌, ◌^◌, ◌∙◌, ℕ, List, [], ◌∷◌, length, slice_index, slice_set, arith, sym, ap, subst, inl, inr}
use Rattle.std.proofs.lemmas.Bool.{cases_lt}
use Rattle.std.proofs.lemmas.List.{get_or-set_same, get_or-set_other}
use Rattle.std.proofs.lemmas.Nat.{pow-add, shr-shr}
use Rattle.std.proofs.Math.Pow.{pow_mono}
use Rattle.rand_chacha.proofs.LaneLemmas.{below_four}
use Rattle.pop_stacks.specs.KeptValues.{two_bits_at, quad_in, IsBehind}

-- the last n of eight values stand in a word, two bits each
pub record ArePacked (n word : ℕ) (value : ℕ → ℕ) : Type 0 where
  pub below : word < 2 ^ (2 * n)
  pub each : (j : ℕ) → 8 ≤ n + j → j < 8 → word / 2 ^ (2 * (n + j - 8)) % 4 ≡ value j

-- none of them
pub none_packed : (value : ℕ → ℕ) → ArePacked 0 0 value
none_packed value = record {
  below = omega arith;
  each = λ j from below. absurd (omega (arith, from, below));
}

-- a word has room for one more
pub room_for : (n word : ℕ) (value : ℕ → ℕ) → n < 8 → ArePacked n word value → word < 2 ^ 14
room_for n word value few packed =
    let below = packed.below in
    let most : 2 ^ (2 * n) ≤ 2 ^ 14 = pow_mono {i = 2 * n} {j = 14} (omega (arith, few)) in
    omega (arith, below, most)

-- the value before them is put in front
pub one_packed : (n word v : ℕ) (value : ℕ → ℕ) → n < 8 → v < 4 → v ≡ value (7 - n) → ArePacked n word value
    → ArePacked (n + 1) (4 * word + v) value
one_packed n word v value few small is packed =
    let old = packed.below in
    let up : 2 ^ (2 + 2 * n) ≡ 2 ^ 2 * 2 ^ (2 * n) = pow-add 2 2 (2 * n) in
    let place : 2 * (n + 1) ≡ 2 + 2 * n = omega arith in
    let fits : 4 * word + v < 2 ^ (2 + 2 * n) = omega (arith, old, up, small) in
    record {
      below = subst (λ e. 4 * word + v < 2 ^ e) (sym place) fits;
      each = λ j from below. elim (cases_lt (n + j) 8) [
        | inl first ↦
            let here : 2 * (n + 1 + j - 8) ≡ 0 = omega (arith, first, from) in
            let last : 7 - n ≡ j = omega (arith, first, from) in
            let low : (4 * word + v) / 2 ^ 0 % 4 ≡ v = omega (arith, small) in
            ap (λ e. (4 * word + v) / 2 ^ e % 4) here ∙ low ∙ is ∙ ap value last
        | inr later ↦
            let m = 2 * (n + j - 8) in
            let there : 2 * (n + 1 + j - 8) ≡ 2 + m = omega (arith, later) in
            let rest : (4 * word + v) / 2 ^ 2 ≡ word = omega (arith, small) in
            ap (λ e. (4 * word + v) / 2 ^ e % 4) there
            ∙ ap (λ x. x % 4) (sym (shr-shr (4 * word + v) 2 m))
            ∙ ap (λ x. x / 2 ^ m % 4) rest ∙ packed.each j later below
      ];
    }

-- all eight of them
pub all_packed : (word i : ℕ) (value : ℕ → ℕ) → ArePacked 8 word value → i < 8 → two_bits_at word i ≡ value i
all_packed word i value packed below =
    let place : 2 * i ≡ 2 * (8 + i - 8) = omega arith in
    ap (λ e. word / 2 ^ e % 4) place ∙ packed.each i (omega arith) below

-- a block of values that was written
pub behind_quads : (blocks : List ℕ) (block word : ℕ) (values : List ℕ) → length blocks ≡ 4
    → ((i : ℕ) → i < 8 → two_bits_at word i ≡ slice_index values i)
    → IsBehind block (quad_in blocks) values (quad_in (slice_set blocks (block % 4) word))
behind_quads blocks block word values size are = record {
  first = λ i before.
      let other : i / 8 % 4 ≢ block % 4 = λ same. absurd (omega (arith, same, before)) in
      ap (λ w. two_bits_at w (i % 8)) (get_or-set_other blocks (block % 4) (i / 8 % 4) word 0 other);
  more = λ i within.
      let at : (8 * (block % 4) + i) / 8 % 4 ≡ block % 4 = omega (arith, within) in
      let rest : (8 * (block % 4) + i) % 8 ≡ i = omega (arith, within) in
      ap (λ b. two_bits_at (slice_index (slice_set blocks (block % 4) word) b) ((8 * (block % 4) + i) % 8)) at
      ∙ ap (λ w. two_bits_at w ((8 * (block % 4) + i) % 8)) (get_or-set_same blocks (block % 4) word 0 (omega (arith, size)))
      ∙ ap (two_bits_at word) rest ∙ are i within;
}

-- the four blocks of a group
pub group_quads : (a b c d : ℕ) (values : List ℕ)
    → ((i : ℕ) → i < 8 → two_bits_at a i ≡ slice_index values (0 + i))
    → ((i : ℕ) → i < 8 → two_bits_at b i ≡ slice_index values (8 + i))
    → ((i : ℕ) → i < 8 → two_bits_at c i ≡ slice_index values (16 + i))
    → ((i : ℕ) → i < 8 → two_bits_at d i ≡ slice_index values (24 + i))
    → (i : ℕ) → i < 32 → quad_in (a ∷ b ∷ c ∷ d ∷ []) i ≡ slice_index values i
group_quads a b c d values is_a is_b is_c is_d i below =
    let row : i / 8 % 4 ≡ i / 8 = omega (arith, below) in
    let place : 8 * (i / 8) + i % 8 ≡ i = omega arith in
    let blocks : List ℕ = a ∷ b ∷ c ∷ d ∷ [] in
    ap (λ r. two_bits_at (slice_index blocks r) (i % 8)) row
    ∙ below_four (λ r. (j : ℕ) → j < 8 → two_bits_at (slice_index blocks r) j ≡ slice_index values (8 * r + j))
    is_a is_b is_c is_d (i / 8) (omega (arith, below)) (i % 8) (omega arith)
    ∙ ap (slice_index values) place
