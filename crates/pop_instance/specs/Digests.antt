-- The digests of cubes: hashes that almost always distinguish different cubes.
use Rattle.std.specs.Prelude.{ℕ, ◌+◌, ◌*◌, ◌%◌, ◌^◌, fold}
use Rattle.pop_model.specs.Popping.{Cube}

-- the base of the digests (Knuth's multiplier for MMIX)
abbrev pub digest_base : ℕ
digest_base = 6364136223846793005

-- the digit of a pair
abbrev pub digit : ℕ × ℕ → ℕ
digit p = p.0 + p.1 * 2 ^ 32

-- The pairs are the digits of a number with a leading 1; its low 64 bits are kept (polynomial
-- hashing, Karp and Rabin 1987).
abbrev pub digest : Cube → ℕ
digest e = fold (λ h p. (h * digest_base + digit p) % 2 ^ 64) 1 e
