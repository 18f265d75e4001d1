-- Bits that are put into a word, one after another.
use Rattle.std.proofs.Common.{◌≡◌, ◌≢◌, ◌<◌, ◌≤◌, ◌+◌, ◌*◌, ◌/◌, ◌-◌, ◌%◌, ◌^◌, ◌∙◌, ℕ, bit_or, bit_and, min, max, arith, sym, ap, ap₂, inl, inr, w32}
use Rattle.std.proofs.lemmas.Bool.{cases_eq}
use Rattle.std.proofs.lemmas.Nat.Bits.{bit_at_set_same, bit_at_set_other, bit_at_or, bit_at_and, bit_at_cat_low, bit_at_cat_high, bit_at_ones, bit_at_ones_above, bit_at-zero, bit_at-lt}
use Rattle.std.proofs.Math.Pow.{pow-lt, pow_pos}
use Rattle.std.specs.Int.{bit_at}

-- the first n bits of the word are these, and the others are 0
pub record HasBits (n word : ℕ) (bit : ℕ → ℕ) : Type 0 where
  pub placed : (j : ℕ) → j < n → bit_at word j ≡ bit j
  pub free : (j : ℕ) → n ≤ j → bit_at word j ≡ 0

-- one more bit, which is 1
pub one_placed : (n word : ℕ) (bit : ℕ → ℕ) → n < 32 → bit n ≡ 1 → HasBits n word bit
    → HasBits (n + 1) (bit_or word (1 * 2 ^ n % 2 ^ 32)) bit
one_placed n word bit below one has = record {
  placed = λ j less. elim (cases_eq j n) [
    | inl same ↦
        ap (bit_at (bit_or word (1 * 2 ^ n % 2 ^ 32))) same ∙ bit_at_set_same w32 word n below ∙ sym one
        ∙ ap bit (sym same)
    | inr other ↦ bit_at_set_other w32 word n below j other ∙ has.placed j (omega arith)
  ];
  free = λ j more.
      let other : j ≢ n = λ same. absurd (omega arith) in
      bit_at_set_other w32 word n below j other ∙ has.free j (omega arith);
}

-- one more bit, which is 0
pub zero_placed : (n word : ℕ) (bit : ℕ → ℕ) → bit n ≡ 0 → HasBits n word bit → HasBits (n + 1) word bit
zero_placed n word bit zero has = record {
  placed = λ j less. elim (cases_eq j n) [
    | inl same ↦ has.free j (omega arith) ∙ sym zero ∙ ap bit (sym same)
    | inr other ↦ has.placed j (omega arith)
  ];
  free = λ j more. has.free j (omega arith);
}

-- a bit of a word whose first bits are those of one word, with another moved behind them
behind_bit : (bits place more i : ℕ) → place < 32 → i < 32
    → bit_at (bit_or (bit_and bits (1 * 2 ^ place % 2 ^ 32 - 1)) (more * 2 ^ place % 2 ^ 32)) i
    ≡ max (min (bit_at bits i) (bit_at (2 ^ place - 1) i)) (bit_at (more * 2 ^ place) i)
behind_bit bits place more i within below =
    let one : 1 * 2 ^ place % 2 ^ 32 ≡ 2 ^ place = omega (arith, pow-lt within) in
    let moved = more * 2 ^ place in
    let whole : moved / 2 ^ 32 * 2 ^ 32 + moved % 2 ^ 32 ≡ moved = omega arith in
    let cut : bit_at (moved % 2 ^ 32) i ≡ bit_at moved i =
    sym (bit_at_cat_low (moved / 2 ^ 32) 32 (moved % 2 ^ 32) i below) ∙ ap (λ n. bit_at n i) whole in
    bit_at_or (bit_and bits (1 * 2 ^ place % 2 ^ 32 - 1)) (moved % 2 ^ 32) i
    ∙ ap₂ max
    (ap (λ n. bit_at (bit_and bits (n - 1)) i) one ∙ bit_at_and bits (2 ^ place - 1) i)
    cut

-- below the place stand the bits of the first word
pub behind_first : (bits place more i : ℕ) → place < 32 → i < place
    → bit_at (bit_or (bit_and bits (1 * 2 ^ place % 2 ^ 32 - 1)) (more * 2 ^ place % 2 ^ 32)) i ≡ bit_at bits i
behind_first bits place more i within below =
    let none : more * 2 ^ place ≡ more * 2 ^ place + 0 = omega arith in
    let low = bit_at_cat_low more place 0 i below in
    let zero_there = bit_at-zero i in
    let ones = bit_at_ones place i below in
    let small = bit_at-lt bits i in
    let moved : bit_at (more * 2 ^ place) i ≡ 0 = ap (λ n. bit_at n i) none ∙ low ∙ zero_there in
    omega (arith, behind_bit bits place more i within (omega arith), moved, ones, small)

-- and from there on those of the second
pub behind_more : (bits place more i : ℕ) → place < 32 → place + i < 32
    → bit_at (bit_or (bit_and bits (1 * 2 ^ place % 2 ^ 32 - 1)) (more * 2 ^ place % 2 ^ 32)) (place + i) ≡ bit_at more i
behind_more bits place more i within below =
    let none : more * 2 ^ place ≡ more * 2 ^ place + 0 = omega arith in
    let back : place + i - place ≡ i = omega arith in
    let moved : bit_at (more * 2 ^ place) (place + i) ≡ bit_at more i =
    ap (λ n. bit_at n (place + i)) none ∙ bit_at_cat_high more place 0 (place + i) (pow_pos place) (omega arith)
    ∙ ap (bit_at more) back in
    let ones = bit_at_ones_above place (place + i) (omega arith) in
    omega (arith, behind_bit bits place more (place + i) within below, moved, ones)
