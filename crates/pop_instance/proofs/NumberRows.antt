-- Sound rows of numbers stand for arrows.
use Rattle.std.proofs.Common.{inl, inr, ◌≡◌, ◌∙◌, ℕ, ◌<◌, ◌^◌, Bool, true, false, cond, List, [], length, get_or, ltb, lt-ltb, le-ltb, map, Option, None, Some, IfSome, refl, sym, ap, ap₂, arith, All}
use Rattle.std.specs.Bool.{then_some}
use Rattle.std.proofs.lemmas.Bool.{cases_lt}
use Rattle.std.proofs.lemmas.List.{get_or-map, length-map}
use Rattle.std.proofs.lemmas.List.Elements.{All-map}
use Rattle.pop_model.specs.Cycles.{AreArrows, head_of}
use Rattle.pop_rows.specs.FlatRows.{row_at}
use Rattle.pop_instance.specs.Arrows.{IsRow, IsNumberRow, AreHeadNumbers, head_of_number, heads_of_numbers}
use Rattle.pop_instance.proofs.HeadRows.{arrows_of_rows}

-- the head of a number is the root or a variable
head_below : (count x : ℕ) → IfSome (head_of_number count x) (λ w. w < count)
head_below count x = elim (cases_lt x count) [
  | inl less ↦ rw (lt-ltb x count less) less
  | inr past ↦ rw (le-ltb x count past) tt
]

-- there are as many slots as numbers
length_heads : (count : ℕ) (row : List ℕ) → length (map (head_of_number count) row) ≡ length row
length_heads count row = length-map row (head_of_number count)

-- a sound row of numbers stands for a sound row of heads
sound_row : (count : ℕ) (row : List ℕ) → IsNumberRow count row → IsRow count (map (head_of_number count) row)
sound_row count row is = let some = is.some in record {
  some = omega (arith, some, length_heads count row);
  below = All-map (λ head. IfSome head (λ w. w < count)) (head_of_number count) row
      (λ k d less. head_below count (get_or row k d));
}

-- there are as many variables as rows
pub count_heads : (rows : List (List ℕ)) → length (heads_of_numbers rows) ≡ length rows
count_heads rows = length-map rows (map (head_of_number (length rows)))

-- sound rows of numbers are arrows
pub number_arrows : (rows : List (List ℕ)) → AreHeadNumbers rows → AreArrows (heads_of_numbers rows)
number_arrows rows are = arrows_of_rows (heads_of_numbers rows) (length rows) (count_heads rows)
    (All-map (IsRow (length rows)) (map (head_of_number (length rows))) rows
    (λ k d less. sound_row (length rows) (get_or rows k d) (are k d less)))

-- and as short as the rows
pub short_heads : (rows : List (List ℕ)) → All (λ row. length row < 2 ^ 31) rows
    → All (λ row. length row < 2 ^ 31) (heads_of_numbers rows)
short_heads rows short = All-map (λ (row : List (Option ℕ)). length row < 2 ^ 31) (map (head_of_number (length rows))) rows
    (λ k d less. let here = short k d less in omega (arith, here, length_heads (length rows) (get_or rows k d)))

-- a test chooses between a number and nothing
chosen : (b : Bool) (x : ℕ) → then_some b x ≡ cond b (Some x) None
chosen true x = refl
chosen false x = refl

-- a number that is tested against the count of rows is the head of its slot
pub head_by_number : (rows : List (List ℕ)) (heads : List (List (Option ℕ))) (v slot count : ℕ) (row : List ℕ) (x : ℕ)
    → heads ≡ heads_of_numbers rows → v < length heads → slot < length (get_or heads v []) → count ≡ length rows
    → row ≡ row_at rows v → x ≡ get_or row slot 0 → then_some (ltb x count) x ≡ head_of heads v slot
head_by_number rows heads v slot count row x are known within count_is row_is x_is =
    let by : List ℕ → List (Option ℕ) = map (head_of_number (length rows)) in
    let here : v < length rows = omega (arith, known, ap length are, count_heads rows) in
    let heads_are : get_or heads v [] ≡ by row =
    ap (λ hs. get_or hs v []) are ∙ get_or-map by rows v [] [] here ∙ ap by (sym row_is) in
    let inside : slot < length row = omega (arith, within, ap length heads_are, length_heads (length rows) row) in
    chosen (ltb x count) x ∙ ap₂ head_of_number count_is x_is
    ∙ sym (ap (λ hs. get_or hs slot None) heads_are ∙ get_or-map (head_of_number (length rows)) row slot 0 None inside)
