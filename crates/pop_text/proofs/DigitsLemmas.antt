-- How long numbers are in decimal digits.
use Rattle.std.proofs.Common.{◌≡◌, ℕ, ◌+◌, ◌^◌, ◌<◌, ◌≤◌, List, ◌∷◌, ◌++◌, length, decimal, length-append, ap, arith}
use Rattle.std.proofs.lemmas.Fmt.{length-decimal-le}

-- a number below 2 ^ 64 has at most twenty digits
pub length_twenty : (n : ℕ) → n < 2 ^ 64 → length (decimal n) ≤ 20
length_twenty n h = length-decimal-le 20 n (omega arith) (omega arith) h

-- a number below 2 ^ 32 has at most ten digits
pub length_ten : (n : ℕ) → n < 2 ^ 32 → length (decimal n) ≤ 10
length_ten n h = length-decimal-le 10 n (omega arith) (omega arith) (omega arith)

-- a text with a space and such a number in front is at most eleven bytes longer
pub length_spaced : (n : ℕ) (old new : List ℕ) → n < 2 ^ 32 → new ≡ 32 ∷ decimal n ++ old
    → length new ≤ length old + 11
length_spaced n old new h e = omega (arith, simp length-append at (ap length e), length_ten n h)
