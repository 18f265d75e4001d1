-- Rows that are printed are read again as they were: they are split at the signs between them, and each number is read
-- from its digits.
use Rattle.std.proofs.Common.{inl, inr, ◌≡◌, ◌≢◌, ℕ, suc, ◌<◌, ◌^◌, true, eqb, nat_le, nat_lt, if◌then◌else◌, List, [], ◌∷◌, length, map, drop, Option, Some, None, refl, ap, ap₂, subst, ◌∙◌, arith, decimal}
use Rattle.std.specs.List.{AllByRecursion, join_with_byte, list_all}
use Rattle.std.specs.Cmp.Derive.{both_true}
use Rattle.std.specs.Str.Parse.{digits_value}
use Rattle.std.proofs.lemmas.Bool.{le-leb, lt-ltb, ne_eqb}
use Rattle.std.proofs.lemmas.Fmt.{decimal_is_IsNumeral, decimal_nonempty, length-decimal-le}
use Rattle.std.proofs.lemmas.List.{length-append}
use Rattle.std.proofs.lemmas.List.Splits.{join_with_byte-slice_split, length-slice_split}
use Rattle.pop_edge.specs.Numbers.{is_digit, number_of}
use Rattle.pop_edge.proofs.NumbersLemmas.{number_small}
use Rattle.pop_stacks.specs.declared.stack_spec.StackSpec.TheVariants.{Given}
use Rattle.pop_words.specs.Values.{cons_some, all_some, only_if, are_within, row_in, rows_in, comma_parts, semicolon_parts}
use Rattle.pop_words.proofs.ValuesLemmas.{passed}
use Rattle.pop_words.proofs.RowParts.{row_by_parts, rows_by_parts}
use Rattle.pop_log.specs.Decimals.{AreDigits}
use Rattle.pop_log.proofs.LogTextsLemmas.{decimal_digits}
use Rattle.pop_log.proofs.DecimalsLemmas.{wide}
use Rattle.run_cert.specs.Heads.{row_text, rows_text, MayBeStacks}
use Rattle.run_cert.proofs.Joined.{split_joined}
use Rattle.run_cert.proofs.HeadWords.{RowFits, numbers_lack, rows_lack}

-- digits pass the test of digits
digits_pass : (bs : List ℕ) → AreDigits bs → list_all is_digit bs ≡ true
digits_pass [] are = refl
digits_pass (b ∷ bs) are =
    both_true (both_true (le-leb 48 b are.0.0) (le-leb b 57 are.0.1)) (digits_pass bs are.1)

-- a number is read again
pub number_again : (n : ℕ) → n < 2 ^ 32 → number_of (decimal n) ≡ Some n
number_again n fits =
    let is : digits_value 10 (decimal n) ≡ n = (decimal_is_IsNumeral n (wide n fits)).1 in
    let some : nat_le 1 (length (decimal n)) ≡ true =
    le-leb 1 (length (decimal n)) (decimal_nonempty n (wide n fits)) in
    let few : nat_le (length (decimal n)) 10 ≡ true =
    le-leb (length (decimal n)) 10 (length-decimal-le 10 n (omega arith) (omega (arith, fits)) (wide n fits)) in
    let digits = digits_pass (decimal n) (decimal_digits n (wide n fits)) in
    let low : nat_lt (digits_value 10 (decimal n)) (2 ^ 32) ≡ true =
    lt-ltb (digits_value 10 (decimal n)) (2 ^ 32) (omega (arith, is, fits)) in
    ap (λ b. if b then Some (digits_value 10 (decimal n)) else None)
    (both_true (both_true (both_true some few) digits) low) ∙ ap (λ (m : ℕ). Some m) is

-- numbers are read again
numbers_again : (ns : List ℕ) → RowFits ns → all_some number_of (map decimal ns) ≡ Some ns
numbers_again [] fits = refl
numbers_again (n ∷ ns) fits = ap₂ cons_some (number_again n fits.0) (numbers_again ns fits.1)

-- a row that isn't empty has some byte
row_some : (n : ℕ) (a : List ℕ) → n < 2 ^ 64 → 0 < length (row_text (n ∷ a))
row_some n [] fits = decimal_nonempty n fits
row_some n (m ∷ a) fits =
    let some = decimal_nonempty n fits in
    let size = length-append (decimal n) (44 ∷ row_text (m ∷ a)) in
    omega (arith, some, size)

-- a row is read again
row_again : (row : List ℕ) → RowFits row → row_in (row_text row) ≡ Some row
row_again [] fits = refl
row_again (n ∷ ns) fits =
    let some = row_some n ns (wide n fits.0) in
    row_by_parts (row_text (n ∷ ns))
    (ne_eqb (length (row_text (n ∷ ns))) 0 (λ none. absurd (omega (arith, some, none))))
    ∙ ap (all_some number_of) (split_joined 44 (decimal n) (map decimal ns)
    (numbers_lack 44 (n ∷ ns) (inl (omega arith)) fits))
    ∙ numbers_again (n ∷ ns) fits

-- each of some rows is read again
each_again : (rows : List (List ℕ)) → AllByRecursion RowFits rows → all_some row_in (map row_text rows) ≡ Some rows
each_again [] fits = refl
each_again (row ∷ rows) fits = ap₂ cons_some (row_again row fits.0) (each_again rows fits.1)

-- rows that aren't one empty row have some byte
joined_rows_some : (row : List ℕ) (rows : List (List ℕ)) → (◌≢◌ {A = List (List ℕ)} (row ∷ rows) ([] ∷ []))
    → AllByRecursion RowFits (row ∷ rows) → 0 < length (join_with_byte 59 (map row_text (row ∷ rows)))
joined_rows_some [] [] differ fits = absurd (differ refl)
joined_rows_some (n ∷ ns) [] differ fits = row_some n ns (wide n fits.0.0)
joined_rows_some row (r ∷ rows) differ fits =
    let size = length-append (row_text row) (59 ∷ join_with_byte 59 (map row_text (r ∷ rows))) in omega (arith, size)

-- rows are read again behind what stands before the first
pub rows_again : (rows : List (List ℕ)) → MayBeStacks (Given rows) → rows_in (drop 1 (rows_text rows)) ≡ Some rows
rows_again [] may = refl
rows_again (row ∷ rows) may =
    let word = join_with_byte 59 (map row_text (row ∷ rows)) in
    let some = joined_rows_some row rows may.0 may.2 in
    let apart : ◌≢◌ {A = ℕ} 44 59 = λ h. absurd (omega (arith, h)) in
    rows_by_parts word (ne_eqb (length word) 0 (λ none. absurd (omega (arith, some, none))))
    ∙ ap (only_if are_within) (ap (all_some row_in) (split_joined 59 (row_text row) (map row_text rows)
    (rows_lack 59 (row ∷ rows) (inr (omega arith)) apart may.2)) ∙ each_again (row ∷ rows) may.2)
    ∙ ap (λ b. if b then Some (row ∷ rows) else None) may.1

-- ---- what is read may be written

-- what is read of a first part and of the others
cons_parts : {Y : Type 0} (a : Option Y) (b : Option (List Y)) (ys : List Y) → cons_some a b ≡ Some ys
    → (y : Y) × (zs : List Y) × (a ≡ Some y) × (b ≡ Some zs) × (y ∷ zs ≡ ys)
cons_parts None b ys same = absurd (cc)
cons_parts (Some y) None ys same = absurd (cc)
cons_parts (Some y) (Some zs) ys same = (y, zs, refl, refl, cc)

-- where each part gives such a value, all values are such, and there are as many
all_give : {X Y : Type 0} (f : X → Option Y) (P : Y → Type 0) → ((x : X) (y : Y) → f x ≡ Some y → P y)
    → (xs : List X) (ys : List Y) → all_some f xs ≡ Some ys → AllByRecursion P ys × (length xs ≡ length ys)
all_give f P gives [] [] same = (tt, refl)
all_give f P gives [] (y ∷ ys) same = absurd (cc)
all_give {X} {Y} f P gives (x ∷ xs) ys same =
    let (y, zs, first, rest, is) = cons_parts (f x) (all_some f xs) ys same in
    let later = all_give f P gives xs zs rest in
    subst (λ l. AllByRecursion P l × (suc (length xs) ≡ length l)) is ((gives x y first, later.0), ap suc later.1)

-- the numbers of a row that is read have 32 bits
row_small : (w row : List ℕ) → row_in w ≡ Some row → RowFits row
row_small [] [] same = tt
row_small [] (n ∷ ns) same = absurd (cc)
row_small (b ∷ bs) row same = (all_give number_of (λ n. n < 2 ^ 32) number_small (comma_parts (b ∷ bs)) row same).0

-- an empty row is read of an empty word alone
empty_row : (w : List ℕ) → row_in w ≡ Some [] → w ≡ []
empty_row [] same = refl
empty_row (b ∷ bs) same =
    let none = (all_give number_of (λ n. n < 2 ^ 32) number_small (comma_parts (b ∷ bs)) [] same).1 in
    absurd (omega (arith, none, length-slice_split (λ (c : ℕ). eqb c 44) (b ∷ bs)))

-- so one empty row is no word
no_empty_row : (ps : List (List ℕ)) (b : ℕ) (bs : List ℕ) → all_some row_in ps ≡ Some ([] ∷ [])
    → join_with_byte 59 ps ≡ b ∷ bs → ⊥
no_empty_row [] b bs same joined = cc
no_empty_row (p ∷ []) b bs same joined =
    let (row, rows, first, rest, is) = cons_parts (row_in p) (Some []) ([] ∷ []) same in
    let none : row ≡ [] = cc in
    let empty : p ≡ [] = empty_row p (first ∙ ap (λ (r : List ℕ). Some r) none) in cc
no_empty_row (p ∷ q ∷ ps) b bs same joined =
    let one = (all_give row_in RowFits row_small (p ∷ q ∷ ps) ([] ∷ []) same).1 in omega (arith, one)

-- rows that are read may be written
pub rows_read : (w : List ℕ) (rows : List (List ℕ)) → rows_in w ≡ Some rows → MayBeStacks (Given rows)
rows_read [] [] same = ((λ one. cc), refl, tt)
rows_read [] (row ∷ rows) same = absurd (cc)
rows_read (b ∷ bs) rows same =
    let read = passed are_within (all_some row_in (semicolon_parts (b ∷ bs))) rows same in (
      λ one. no_empty_row (semicolon_parts (b ∷ bs)) b bs (read.0 ∙ ap (λ (r : List (List ℕ)). Some r) one)
          (join_with_byte-slice_split 59 (b ∷ bs)),
      read.1,
      (all_give row_in RowFits row_small (semicolon_parts (b ∷ bs)) rows read.0).0,
    )
