-- The value of digits, one after another, and how great a number may be.
use Rattle.std.proofs.Common.{◌≡◌, ℕ, ◌+◌, ◌-◌, ◌<◌, ◌≤◌, true, nat_le, ◌*◌, ◌^◌, List, length, take, get_or, ◌∙◌, arith, Bool, Some, nat_lt, ◌&&◌}
use Rattle.std.specs.List.{list_all}
use Rattle.std.specs.Str.Parse.{digits_value}
use Rattle.std.specs.Char.{digit_value}
use Rattle.std.proofs.lemmas.Bool.{le-leb, and_from, ltb-true, and_parts}
use Rattle.std.proofs.lemmas.Grind.{pow_more}
use Rattle.std.proofs.lemmas.List.Folds.{list_all_more}
use Rattle.std.proofs.lemmas.Str.{digit_value_digit}
use Rattle.std.proofs.lemmas.Int.Digits.{digits_value_more}
use Rattle.std.proofs.lemmas.Option.{cond_some}
use Rattle.pop_edge.specs.Numbers.{is_digit, number_of}

-- the first i bytes of a word are digits of this value
pub record HasRead (word : List ℕ) (i value : ℕ) : Type 0 where
  pub digits : list_all is_digit (take i word) ≡ true
  pub worth : value ≡ digits_value 10 (take i word)
  pub small : value < 10 ^ i

-- a byte in this range is a digit
in_range : (b : ℕ) → 48 ≤ b → b ≤ 57 → is_digit b ≡ true
in_range b low high = and_from (nat_le 48 b) (nat_le b 57) (le-leb 48 b low) (le-leb b 57 high)

-- the value with a digit more
value_more : (word : List ℕ) (i value : ℕ) → 48 ≤ get_or word i 0 → get_or word i 0 ≤ 57 → i < length word
    → value ≡ digits_value 10 (take i word) → value * 10 + (get_or word i 0 - 48) ≡ digits_value 10 (take (i + 1) word)
value_more word i value low high l e =
    let digit : digit_value (get_or word i 0) + 48 ≡ get_or word i 0 =
    digit_value_digit (get_or word i 0) (low, high) in
    omega (arith, digits_value_more 10 word i l, e, digit, low)

-- one digit more
pub read_more : (word : List ℕ) (i value : ℕ) → HasRead word i value → i < length word → 48 ≤ get_or word i 0
    → get_or word i 0 ≤ 57 → HasRead word (i + 1) (value * 10 + (get_or word i 0 - 48))
read_more word i value r l low high =
    record {
      digits =
          list_all_more is_digit word i 0 l
          ∙ and_from (list_all is_digit (take i word)) (is_digit (get_or word i 0)) r.digits (in_range _ low high);
      worth = value_more word i value low high l r.worth;
      small = omega (arith, pow_more 10 i, r.small, low, high);
    }

-- a number is below 2^32
pub number_small : (word : List ℕ) (n : ℕ) → number_of word ≡ Some n → n < 2 ^ 32
number_small word n h =
    let size : Bool = nat_le 1 (length word) && nat_le (length word) 10 && list_all is_digit word in
    let t = cond_some (size && nat_lt (digits_value 10 word) (2 ^ 32)) (digits_value 10 word) n h in
    let small = ltb-true (digits_value 10 word) (2 ^ 32)
    (and_parts size (nat_lt (digits_value 10 word) (2 ^ 32)) t.0).1 in
    omega (arith, t.1, small)
