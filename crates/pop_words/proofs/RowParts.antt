-- The rows of a word, read part by part within the limits. Beside the rows stands the room for numbers that is left;
-- a part that has more numbers than that, or stands behind as many rows as there may be, decides that the word is no
-- value, whatever stands behind it.
use Rattle.std.proofs.Common.{inl, inr, ◌-◌, ◌^◌, ◌≡◌, ℕ, ◌+◌, ◌<◌, ◌≤◌, false, ◌&&◌, nat_le, nat_eq, List, [], ◌∷◌, ◌++◌, length, get_or, sum_by, None, Some, refl, ap, ◌∙◌, arith, length-append}
use Rattle.std.proofs.lemmas.List.Sums.{sum_by-append, sum_by-cons, get_or-le-sum_by}
use Rattle.std.proofs.lemmas.Bool.{le-leb, lt-leb, leb-true, leb-false, and_right}
use Rattle.pop_stacks.specs.Rows.{AreShort}
use Rattle.pop_edge.specs.Numbers.{number_of}
use Rattle.pop_words.specs.Values.{all_some, only_if, fits_in, are_within, row_in, rows_in, comma_parts, semicolon_parts}
use Rattle.pop_words.proofs.ValuesLemmas.{passes, passed, refused}
use Rattle.pop_words.proofs.Parts.{HasRead, read_more, none_of_all, read_all, none_passes}

-- a word that isn't empty is read by its parts
pub row_by_parts : (word : List ℕ) → nat_eq (length word) 0 ≡ false
    → row_in word ≡ all_some number_of (comma_parts word)
row_by_parts [] some = absurd (cc)
row_by_parts (b ∷ bs) some = refl

-- a word that isn't empty has the rows of its parts, where they are within the limits
pub rows_by_parts : (word : List ℕ) → nat_eq (length word) 0 ≡ false
    → rows_in word ≡ only_if are_within (all_some row_in (semicolon_parts word))
rows_by_parts [] some = absurd (cc)
rows_by_parts (b ∷ bs) some = refl

-- a row with a number behind as many as there is room for is too long
pub too_long : (front : List ℕ) (room y : ℕ) → room ≤ length front → (ys : List ℕ)
    → nat_le (length (front ++ y ∷ ys)) room ≡ false
too_long front room y full ys = lt-leb (length (front ++ y ∷ ys)) room (omega (arith, length-append front (y ∷ ys)))

-- the rows read so far, with room for so many numbers more
pub record HasRows (word : List ℕ) (n : ℕ) (rows : List (List ℕ)) (room : ℕ) : Type 0 where
  pub read : HasRead row_in (semicolon_parts word) n rows
  pub left : sum_by length rows + room ≡ 2 ^ 20
  pub count : length rows ≤ 2 ^ 22

-- a part that is no row, or has more numbers than there is room for
pub no_row : (word : List ℕ) (n : ℕ) (rows : List (List ℕ)) (room : ℕ) (part : List ℕ)
    → nat_eq (length word) 0 ≡ false → HasRows word n rows room
    → n < length (semicolon_parts word) → part ≡ get_or (semicolon_parts word) n part
    → only_if (fits_in room) (row_in part) ≡ None
    → rows_in word ≡ None
no_row word n rows room part some has within is none = rows_by_parts word some
    ∙ elim (refused (fits_in room) (row_in part) none) [
      | inl unread ↦ ap (only_if are_within) (none_of_all row_in
          (semicolon_parts word) n rows part has.read within is unread)
      | inr (row, read, long) ↦
          none_passes row_in (semicolon_parts word) n rows part row are_within has.read within is read (λ ys.
          let more : room < length row = leb-false _ _ long in
          let sum : sum_by length (rows ++ row ∷ ys) ≡ sum_by length rows + sum_by length (row ∷ ys) =
          sum_by-append length rows (row ∷ ys) in
          let first : sum_by length (row ∷ ys) ≡ length row + sum_by length ys = sum_by-cons length row ys in
          let above : 2 ^ 20 < sum_by length (rows ++ row ∷ ys) = omega (arith, has.left) in
          and_right _ _ (lt-leb _ _ above))
    ]

-- a row behind as many as there may be
pub no_more_rows : (word : List ℕ) (n : ℕ) (rows : List (List ℕ)) (room : ℕ) (part row : List ℕ)
    → nat_eq (length word) 0 ≡ false → HasRows word n rows room
    → n < length (semicolon_parts word) → part ≡ get_or (semicolon_parts word) n part
    → only_if (fits_in room) (row_in part) ≡ Some row
    → 2 ^ 22 ≤ length rows → rows_in word ≡ None
no_more_rows word n rows room part row some has within is read full = rows_by_parts word some
    ∙ none_passes row_in (semicolon_parts word) n rows part row are_within has.read within is
    (passed (fits_in room) (row_in part) row read).0 (λ ys.
    let above : 2 ^ 22 < length (rows ++ row ∷ ys) = omega (arith, length-append rows (row ∷ ys)) in
    ap (λ b. b && nat_le (sum_by length (rows ++ row ∷ ys)) (2 ^ 20)) (lt-leb _ _ above))

-- there is room for a row
pub has_room : (room : ℕ) (part row : List ℕ) → only_if (fits_in room) (row_in part) ≡ Some row → length row ≤ room
has_room room part row read = leb-true _ _ (passed (fits_in room) (row_in part) row read).1

-- one row more is read
pub row_more : (word : List ℕ) (n : ℕ) (rows : List (List ℕ)) (room : ℕ) (part row : List ℕ)
    → HasRows word n rows room
    → n < length (semicolon_parts word) → part ≡ get_or (semicolon_parts word) n part
    → only_if (fits_in room) (row_in part) ≡ Some row
    → length rows < 2 ^ 22 → HasRows word (n + 1) (rows ++ row ∷ []) (room - length row)
row_more word n rows room part row has within is read few =
    let fits = has_room room part row read in
    record {
      read = read_more row_in (semicolon_parts word) n rows part row has.read within is
          (passed (fits_in room) (row_in part) row read).0;
      left = omega (arith, has.left, sum_by-append length rows (row ∷ []));
      count = omega (arith, length-append rows (row ∷ []));
    }

-- all rows are read
pub rows_all : (word : List ℕ) (n : ℕ) (rows : List (List ℕ)) (room : ℕ) → nat_eq (length word) 0 ≡ false
    → HasRows word n rows room
    → length (semicolon_parts word) ≤ n → rows_in word ≡ Some rows
rows_all word n rows room some has past = rows_by_parts word some
    ∙ passes are_within _ rows (read_all row_in (semicolon_parts word) n rows has.read past)
    (ap (λ b. b && nat_le (sum_by length rows) (2 ^ 20)) (le-leb (length rows) (2 ^ 22) has.count)
    ∙ le-leb (sum_by length rows) (2 ^ 20) (omega (arith, has.left)))

-- rows within the limits are short
pub short_rows : (word : List ℕ) (n : ℕ) (rows : List (List ℕ)) (room : ℕ) → HasRows word n rows room
    → AreShort rows
short_rows word n rows room has =
    record {
      count = omega (arith, has.count);
      each = λ k d within. omega
          (arith, has.left, get_or-le-sum_by length rows k d within);
    }
