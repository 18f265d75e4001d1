-- Quotients that are rounded up. A quotient rounded up is at most n exactly where the dividend is at
-- most n divisors, so the divisor times it is the dividend or exceeds it by less than the divisor.
use Rattle.std.proofs.Common.{◌≡◌, ℕ, suc, ◌+◌, ◌-◌, ◌*◌, ◌<◌, ◌≤◌, arith}
use Rattle.std.proofs.lemmas.Nat.{mul-le}
use Rattle.std.proofs.Math.Nat.{div-lt_iff_lt-mul, div-mul-le_self, suc-mul}
use Rattle.pop_samples.specs.Shares.{rounded_up}

-- rounded up to at most n, where the dividend is at most n divisors
pub rounded_at_most : (a d n : ℕ) → 0 < d → a ≤ n * d → rounded_up a d ≤ n
rounded_at_most a d n some le =
    let more = suc-mul n d in
    let less : rounded_up a d < suc n =
    (div-lt_iff_lt-mul {k = d} {x = a + d - 1} {y = suc n} some).1 (omega (arith, le, more, some)) in
    omega (arith, less)

-- and only there
pub rounded_covers : (a d n : ℕ) → 0 < d → rounded_up a d ≤ n → a ≤ n * d
rounded_covers a d n some le =
    let more = suc-mul n d in
    let less : a + d - 1 < suc n * d =
    (div-lt_iff_lt-mul {k = d} {x = a + d - 1} {y = suc n} some).0 (omega (arith, le)) in
    omega (arith, less, more, some)

-- rounded up it is no less
pub rounded_low : (a d : ℕ) → 0 < d → a ≤ rounded_up a d * d
rounded_low a d some = rounded_covers a d (rounded_up a d) some (omega arith)

-- and exceeds it by less than the divisor
pub rounded_high : (a d : ℕ) → 0 < d → rounded_up a d * d < a + d
rounded_high a d some =
    let low = div-mul-le_self (a + d - 1) d in omega (arith, low, some)

-- what the divisor divides is rounded to itself
pub rounded_even : (q d : ℕ) → 0 < d → rounded_up (q * d) d * d ≡ q * d
rounded_even q d some =
    let low = rounded_low (q * d) d some in
    let most : rounded_up (q * d) d ≤ q = rounded_at_most (q * d) d q some (omega arith) in
    let high : rounded_up (q * d) d * d ≤ q * d = mul-le (rounded_up (q * d) d) d q d most (omega arith) in
    omega (arith, low, high)

-- more is rounded up to no less
pub rounded_rises : (a b d : ℕ) → 0 < d → a ≤ b → rounded_up a d ≤ rounded_up b d
rounded_rises a b d some le =
    let low = rounded_low b d some in rounded_at_most a d (rounded_up b d) some (omega (arith, le, low))
