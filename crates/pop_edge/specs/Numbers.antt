-- The numbers among tokens.
use Rattle.std.specs.Prelude.{ℕ, ◌^◌, Bool, ◌&&◌, nat_le, nat_lt, if◌then◌else◌, List, length, Option, None, Some}
use Rattle.std.specs.List.{list_all}
use Rattle.std.specs.Str.Parse.{digits_value}

-- a byte from `0` to `9`
abbrev pub is_digit : ℕ → Bool
is_digit b = nat_le 48 b && nat_le b 57

-- a number has one to ten decimal digits, leading zeros allowed, and a value below 2 ^ 32
abbrev pub number_of : List ℕ → Option ℕ
number_of word =
    if nat_le 1 (length word) && nat_le (length word) 10 && list_all is_digit word
    && nat_lt (digits_value 10 word) (2 ^ 32)
    then Some (digits_value 10 word) else None
