-- The words of a board. Word 0 is the number of tickets drawn. Each variable has a word: bit 63
-- says that it is claimed, bit 62 that it is settled, bits 0 to 31 are its cursor, and all other
-- bits are 0. Each unit of a listed family has a word, its mark, which is 0 or 1.
use Rattle.std.specs.Prelude.{◌≡◌, ◌⊎◌, ℕ, ◌+◌, ◌-◌, ◌*◌, ◌/◌, ◌%◌, ◌^◌, ◌<◌, ◌≤◌, Bool, nat_lt}

-- the index of the word of a variable
abbrev pub word_of : ℕ → ℕ
word_of v = 1 + v

-- the variable of a word
abbrev pub variable_at : ℕ → ℕ
variable_at i = i - 1

-- the index of the word with the mark of a unit, after the words of this many variables
abbrev pub mark_of : ℕ → ℕ → ℕ
mark_of count u = 1 + count + u

-- the unit of a mark
abbrev pub unit_at : ℕ → ℕ → ℕ
unit_at count i = i - (1 + count)

-- the cursor of a word
abbrev pub cursor_in : ℕ → ℕ
cursor_in w = w % 2 ^ 32

-- bit 63 of a word
abbrev pub claimed_bit : ℕ → ℕ
claimed_bit w = w / 2 ^ 63

-- bit 62 of a word
abbrev pub settled_bit : ℕ → ℕ
settled_bit w = w / 2 ^ 62 % 2

-- a word with neither bit
abbrev pub is_free : ℕ → Bool
is_free w = nat_lt w (2 ^ 63)

-- a word with both bits
abbrev pub is_settled : ℕ → Bool
is_settled w = nat_lt (2 ^ 63 + 2 ^ 62 - 1) w

-- a word of a variable that no pass holds: it is free or settled
abbrev pub IsLeft : ℕ → Type 0
IsLeft w = (w < 2 ^ 63) ⊎ (settled_bit w ≡ 1)

-- a word consists of two bits and a cursor, and a settled word is claimed too
abbrev pub Formed : ℕ → Type 0
Formed w = (w ≡ cursor_in w + 2 ^ 62 * settled_bit w + 2 ^ 63 * claimed_bit w)
    × (cursor_in w < 2 ^ 31) × (claimed_bit w ≤ 1) × (settled_bit w ≤ claimed_bit w)
