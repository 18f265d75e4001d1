-- The claimed bit of a word.
use Rattle.std.proofs.Common.{◌≡◌, ℕ, ◌+◌, ◌%◌, ◌<◌, subst, ◌∙◌, arith, ◌^◌, ◌-◌}
use Rattle.std.specs.Int.Bits.{bit_or, bit_and, or_shifted_r, or_add_and}
use Rattle.std.proofs.lemmas.Nat.{and_or_self, and_mask, and_or_apart, pow_apart}

-- the claimed bit of a free word is set
pub or_free : (n : ℕ) → n < 2 ^ 63 → bit_or n (2 ^ 63) ≡ 2 ^ 63 + n
or_free n h = or_shifted_r 1 63 n h

-- that of a claimed word is set already
pub or_taken : (c : ℕ) → c < 2 ^ 63 → bit_or (2 ^ 63 + c) (2 ^ 63) ≡ 2 ^ 63 + c
or_taken c h =
    let both : bit_and (2 ^ 63 + c) (2 ^ 63) ≡ 2 ^ 63 = subst (λ (x : ℕ). bit_and x (2 ^ 63) ≡ 2 ^ 63) (or_free c h)
    (and_or_self (2 ^ 63) c) in
    let sum = or_add_and (2 ^ 63 + c) (2 ^ 63) in
    omega arith

-- the bits below the claimed bit
pub and_low : (n : ℕ) → bit_and n (2 ^ 63 - 1) ≡ n % 2 ^ 63
and_low n = and_mask n 63

-- the settled bit of a claimed word is set
pub or_settle : (c : ℕ) → c < 2 ^ 62 → bit_or (2 ^ 63 + c) (2 ^ 62) ≡ 2 ^ 63 + 2 ^ 62 + c
or_settle c h =
    let off : bit_and c (2 ^ 62) ≡ 0 = let sum = or_add_and c (2 ^ 62) in
    let free : bit_or c (2 ^ 62) ≡ 2 ^ 62 + c = or_shifted_r 1 62 c h in omega arith in
    let away : bit_and (bit_or c (2 ^ 63)) (2 ^ 62) ≡ bit_and c (2 ^ 62) = and_or_apart (2 ^ 62) c (2 ^ 63)
    (pow_apart 63 62 (λ e. omega arith)) in
    let here : bit_and (2 ^ 63 + c) (2 ^ 62) ≡ 0 = subst (λ (x : ℕ). bit_and x (2 ^ 62) ≡ 0)
    (or_free c (omega arith)) (away ∙ off) in
    let sum = or_add_and (2 ^ 63 + c) (2 ^ 62) in omega arith
