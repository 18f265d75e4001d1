-- A number at the front of bytes.
-- Digits are no blanks, so the digits that bytes begin with are a word, where a space or the end comes behind them.
-- Nine of them are a number below 2^32.
use Rattle.std.proofs.Common.{◌≡◌, inl, inr, ℕ, ◌+◌, ◌*◌, ◌^◌, ◌<◌, ◌≤◌, true, false, cond, ◌&&◌, ltb, nat_le, nat_lt, nat_eq, List, [], length, take, drop, get_or, Some, None, position, sym, ap, ◌∙◌, arith, length-take}
use Rattle.std.specs.List.{list_all, position_or_len}
use Rattle.std.specs.Str.Parse.{digits_value}
use native.Mathlib.Nat.{pow-le-pow_right}
use Rattle.std.proofs.lemmas.List.{get_or-take, take_all}
use Rattle.std.proofs.lemmas.Grind.{pow_more}
use Rattle.std.proofs.lemmas.List.Folds.{list_all_at}
use Rattle.std.proofs.lemmas.List.Sums.{position_or_len_is}
use Rattle.std.proofs.lemmas.Bool.{cases_Bool, and_parts, and_from, leb-true, le-leb, le-ltb, lt-ltb, ne_eqb, true≢false}
use Rattle.pop_edge.specs.Words.{is_blank}
use Rattle.pop_edge.specs.Numbers.{is_digit, number_of}
use Rattle.pop_edge.proofs.NumbersLemmas.{HasRead}
use Rattle.pop_edge.proofs.WordsLemmas.{word_some, word_none}
use Rattle.graph_read.specs.Reading.{IsFront}

-- digits are no blanks
digit_no_blank : (b : ℕ) → is_digit b ≡ true → is_blank b ≡ false
digit_no_blank b digit =
    let low = leb-true 48 b (and_parts (nat_le 48 b) (nat_le b 57) digit).0 in
    let space : nat_eq b 32 ≡ false = ne_eqb b 32 (λ e. absurd (omega (arith, low, e))) in
    let tab : nat_eq b 9 ≡ false = ne_eqb b 9 (λ e. absurd (omega (arith, low, e))) in
    let return : nat_eq b 13 ≡ false = ne_eqb b 13 (λ e. absurd (omega (arith, low, e))) in
    rw space (rw tab return)

-- where the first n bytes are digits, none of them is a blank
no_blank_before : (bs : List ℕ) (n k : ℕ) → list_all is_digit (take n bs) ≡ true → n ≤ length bs → k < n
    → is_blank (get_or bs k 0) ≡ false
no_blank_before bs n k digits within below =
    digit_no_blank (get_or bs k 0) (elim (cases_Bool (is_digit (get_or bs k 0))) [
      | inl is ↦ is
      | inr none ↦
          let size : k < length (take n bs) = omega (arith, length-take n bs, within, below) in
          let here = ap is_digit (get_or-take n bs k 0 below) ∙ none in
          absurd (true≢false (sym digits ∙ list_all_at is_digit (take n bs) k 0 size here))
    ])

-- so the first blank comes behind them
first_blank : (bs : List ℕ) (n : ℕ) → list_all is_digit (take n bs) ≡ true → n ≤ length bs
    → (n < length bs → get_or bs n 0 ≡ 32) → position_or_len is_blank bs ≡ n
first_blank bs n digits within space =
    position_or_len_is is_blank bs n 0 within (λ k below. no_blank_before bs n k digits within below)
    (λ inside. ap is_blank (space inside))

-- so many digits are few
few_digits : (n : ℕ) → n ≤ 9 → 10 ^ n ≤ 1000000000
few_digits n few = pow-le-pow_right {n = 10} (omega arith) few

-- and one more keeps them so
pub few_more : (n value : ℕ) → n < 9 → value < 10 ^ n → value * 10 + 9 < 1000000000
few_more n value few small = omega (arith, pow_more 10 n, few_digits (n + 1) (omega (arith, few)), small)

-- nine digits are a number
number_read : (bs : List ℕ) (n value : ℕ) → HasRead bs n value → 0 < n → n ≤ 9 → n ≤ length bs
    → number_of (take n bs) ≡ Some value
number_read bs n value read some few within =
    let word : List ℕ = take n bs in
    let size = length-take n bs in
    let short : (nat_le 1 (length word) && nat_le (length word) 10) ≡ true =
    and_from (nat_le 1 (length word)) (nat_le (length word) 10)
    (le-leb 1 (length word) (omega (arith, size, some, within)))
    (le-leb (length word) 10 (omega (arith, size, few, within))) in
    let whole =
    and_from (nat_le 1 (length word) && nat_le (length word) 10) (list_all is_digit word) short read.digits in
    let small : digits_value 10 word < 2 ^ 32 = omega (arith, read.worth, read.small, few_digits n few) in
    let all = and_from (nat_le 1 (length word) && nat_le (length word) 10 && list_all is_digit word)
    (nat_lt (digits_value 10 word) (2 ^ 32)) whole (lt-ltb (digits_value 10 word) (2 ^ 32) small) in
    ap (λ b. cond b (Some (digits_value 10 word)) None) all ∙ ap (λ v. Some v) (sym read.worth)

-- a number and a space
pub front_before_space : (bs : List ℕ) (n value : ℕ) → HasRead bs n value → 0 < n → n ≤ 9 → n < length bs
    → get_or bs n 0 ≡ 32 → IsFront bs value (drop (n + 1) bs)
front_before_space bs n value read some few within space =
    let first = first_blank bs n read.digits (omega (arith, within)) (λ inside. space) in
    let at : position is_blank bs ≡ Some n =
    ap (λ k. cond (ltb k (length bs)) (Some k) None) first
    ∙ ap (λ b. cond b (Some n) None) (lt-ltb n (length bs) within) in
    record {
      word = take n bs;
      words = (word_some bs n at some).0;
      spelled = number_read bs n value read some few (omega (arith, within));
    }

-- or a number and the end
pub front_at_end : (bs : List ℕ) (n value : ℕ) → HasRead bs n value → 0 < n → n ≤ 9 → n ≡ length bs
    → IsFront bs value []
front_at_end bs n value read some few whole =
    let first = first_blank bs n read.digits (omega (arith, whole)) (λ inside. absurd (omega (arith, whole, inside))) in
    let at : position is_blank bs ≡ None =
    ap (λ k. cond (ltb k (length bs)) (Some k) None) (first ∙ whole)
    ∙ ap (λ b. cond b (Some (length bs)) None) (le-ltb (length bs) (length bs) (omega arith)) in
    record {
      word = bs;
      words = word_none bs at (omega (arith, some, whole));
      spelled = ap number_of (sym (take_all n bs (omega (arith, whole))))
          ∙ number_read bs n value read some few (omega (arith, whole));
    }
