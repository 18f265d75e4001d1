-- Rows that lie end to end. Their starts rise up to the end of the list, so each row is within it. A row more makes the
-- list longer at its end: each earlier row lies where it lay, and the new one goes from the old end to the new one.
use Rattle.std.proofs.Common.{inl, inr, ◌≡◌, ℕ, zero, suc, ◌+◌, ◌-◌, ◌<◌, ◌≤◌, ◌^◌, List, [], ◌∷◌, ◌++◌, length, take, drop, set, get_or, sym, ap, ap₂, subst, ◌∙◌, arith, add-zero, length-append, slice_range}
use Rattle.std.proofs.lemmas.Bool.{cases_eq, cases_lt}
use Rattle.std.proofs.lemmas.List.{get_or_append_left, take-append-le, drop-append-le, take_all, length-take-le, length-drop, length-set, get_or-set_same, get_or-set_other}
use Rattle.std.proofs.lemmas.List.Edits.{length-between}
use Rattle.std.proofs.lemmas.List.FromFn.{length-map-range_with_len, get_or-map-range_with_len, fill_by_all}
use Rattle.std.proofs.Math.Seq.{drop-append_seam, get_or-append_seam}
use Rattle.std.proofs.lemmas.Slice.{between_is, take-put_mid_below, drop-put_mid, between-put_mid}
use borrow.Rule.Slice.PartMut.{put_mid}
use Rattle.pop_rows.specs.FlatRows.{row_at}
use Rattle.pop_rows.specs.RowList.{row_between, rows_between, AreEndToEnd}

-- one row fewer than starts
pub length-rows_between : (starts items : List ℕ) → length (rows_between starts items) ≡ length starts - 1
length-rows_between starts items = length-map-range_with_len (row_between starts items) 0 (length starts - 1)

-- a row by its place
pub row_is : (starts items : List ℕ) (v : ℕ) → v < length starts - 1
    → row_at (rows_between starts items) v ≡ row_between starts items v
row_is starts items v below =
    get_or-map-range_with_len (row_between starts items) 0 (length starts - 1) v v [] below (omega arith)

-- a row that is there has a start behind its own
pub row_there : (starts items : List ℕ) (rows : List (List ℕ)) (v : ℕ) → rows_between starts items ≡ rows
    → v < length rows → v + 1 < length starts
row_there starts items rows v are below = omega (arith, below, length-rows_between starts items, ap length are)

module _ (starts items : List ℕ) (laid : AreEndToEnd starts items) where
  -- starts rise, by so many places
  starts_rise : (v k : ℕ) → v + k < length starts → get_or starts v 0 ≤ get_or starts (v + k) 0
  starts_rise v zero within = rw add-zero (omega arith)
  starts_rise v (suc k) within =
      let before = starts_rise v k (omega arith) in
      let next : v + suc k ≡ v + k + 1 = omega arith in
      let step = laid.rising (v + k) (omega arith) in
      rw next (omega (arith, before, step))

  -- from one place to a later one
  pub starts_rise_to : (v w : ℕ) → v ≤ w → w < length starts → get_or starts v 0 ≤ get_or starts w 0
  starts_rise_to v w before within =
      let there : v + (w - v) ≡ w = omega arith in
      subst (λ u. get_or starts v 0 ≤ get_or starts u 0) there (starts_rise v (w - v) (omega (arith, there)))

  -- each is in the list
  pub start_within : (v : ℕ) → v < length starts → get_or starts v 0 ≤ length items
  start_within v below =
      let last = laid.last in
      let rise = starts_rise_to v (length starts - 1) (omega arith) (omega arith) in
      omega (arith, last, rise)

  -- a row is as long as its places are many
  pub length-row : (v : ℕ) → v + 1 < length starts
      → length (row_between starts items v) ≡ get_or starts (v + 1) 0 - get_or starts v 0
  length-row v below = length-between items (get_or starts v 0) (get_or starts (v + 1) 0) (start_within (v + 1) below)

  -- ---- a row more, which ends at a place
  module _ (row : List ℕ) (end : ℕ) (end_is : end ≡ length items + length row) (few : length starts < 2 ^ 32)
      (end_fits : end < 2 ^ 32) where
    -- there is a start more
    more : length (starts ++ end ∷ []) ≡ length starts + 1
    more = length-append starts (end ∷ [])

    -- which is the new end
    new_end : get_or (starts ++ end ∷ []) (length starts) 0 ≡ end
    new_end = get_or-append_seam starts end [] 0

    -- and the others stay
    start_stays : (v : ℕ) → v < length starts → get_or (starts ++ end ∷ []) v 0 ≡ get_or starts v 0
    start_stays v below = get_or_append_left starts (end ∷ []) 0 v below

    -- a part of the list stays when it gets longer
    part_stays : (a b : ℕ) → a ≤ b → b ≤ length items → slice_range (items ++ row) a b ≡ slice_range items a b
    part_stays a b ordered within =
        ap (take (b - a)) (drop-append-le a items row (omega arith))
        ∙ take-append-le (b - a) (drop a items) row (omega (arith, length-drop a items))

    -- each earlier row stays
    row_stays : (v : ℕ) → v + 1 < length starts
        → row_between (starts ++ end ∷ []) (items ++ row) v ≡ row_between starts items v
    row_stays v below =
        ap₂ (slice_range (items ++ row)) (start_stays v (omega arith)) (start_stays (v + 1) below)
        ∙ part_stays (get_or starts v 0) (get_or starts (v + 1) 0) (laid.rising v below) (start_within (v + 1) below)

    -- the new one goes from the old end to the new one
    row_added : row_between (starts ++ end ∷ []) (items ++ row) (length starts - 1) ≡ row
    row_added =
        let some = laid.some in
        let last = laid.last in
        let next : length starts - 1 + 1 ≡ length starts = omega arith in
        let size : end - length items ≡ length row = omega arith in
        ap₂ (slice_range (items ++ row)) (start_stays (length starts - 1) (omega arith) ∙ last)
        (ap (λ k. get_or (starts ++ end ∷ []) k 0) next ∙ new_end)
        ∙ ap₂ take size (drop-append_seam items row)
        ∙ take_all (length row) row (omega arith)

    -- the rows, one by one
    added_at : (k : ℕ) → k < length (starts ++ end ∷ []) - 1
        → get_or (rows_between starts items ++ row ∷ []) k [] ≡ row_between (starts ++ end ∷ []) (items ++ row) k
    added_at k below = elim (cases_lt k (length starts - 1)) [
      | inl before ↦
          get_or_append_left (rows_between starts items) (row ∷ []) [] k
          (omega (arith, length-rows_between starts items, before))
          ∙ row_is starts items k before ∙ sym (row_stays k (omega (arith, before)))
      | inr not_before ↦
          let some = laid.some in
          let place : length (rows_between starts items) ≡ k =
          omega (arith, length-rows_between starts items, not_before, below, more, some) in
          let same : length starts - 1 ≡ k = omega (arith, not_before, below, more, some) in
          ap (λ j. get_or (rows_between starts items ++ row ∷ []) j []) (sym place)
          ∙ get_or-append_seam (rows_between starts items) row [] []
          ∙ sym row_added ∙ ap (row_between (starts ++ end ∷ []) (items ++ row)) same
    ]

    -- and as a whole
    pub rows_added : rows_between (starts ++ end ∷ []) (items ++ row) ≡ rows_between starts items ++ row ∷ []
    rows_added =
        let some = laid.some in
        let size : length (rows_between starts items ++ row ∷ []) ≡ length (starts ++ end ∷ []) - 1 =
        omega (
          arith,
          length-append (rows_between starts items) (row ∷ []),
          length-rows_between starts items,
          more,
          some,
        ) in
        sym (fill_by_all (row_between (starts ++ end ∷ []) (items ++ row)) (rows_between starts items ++ row ∷ [])
        (length (starts ++ end ∷ []) - 1) [] size added_at)

    -- they are laid out
    pub added_laid : AreEndToEnd (starts ++ end ∷ []) (items ++ row)
    added_laid =
        let some = laid.some in
        let size = length-append items row in
        record {
          some = omega (arith, more);
          few = omega (arith, more, few);
          short = omega (arith, size, end_is, end_fits);
          rising = rising;
          last =
              let place : length (starts ++ end ∷ []) - 1 ≡ length starts = omega (arith, more) in
              ap (λ k. get_or (starts ++ end ∷ []) k 0) place ∙ new_end ∙ end_is ∙ sym size;
        }
      where
        rising : (v : ℕ) → v + 1 < length (starts ++ end ∷ [])
            → get_or (starts ++ end ∷ []) v 0 ≤ get_or (starts ++ end ∷ []) (v + 1) 0
        rising v below = elim (cases_lt (v + 1) (length starts)) [
          | inl before ↦
              let old = laid.rising v before in
              omega (arith, old, start_stays v (omega (arith, before)), start_stays (v + 1) before)
          | inr not_before ↦
              let next : v + 1 ≡ length starts = omega (arith, not_before, below, more) in
              let new = ap (λ k. get_or (starts ++ end ∷ []) k 0) next ∙ new_end in
              let old = start_stays v (omega (arith, next)) in
              let within = start_within v (omega (arith, next)) in
              omega (arith, new, old, within, end_is)
        ]

  -- ---- other numbers in row v

  -- other numbers in a row, as many
  module _ (v : ℕ) (ys : List ℕ) (there : v + 1 < length starts) (as_many : length ys ≡ length (row_between starts items v))
    where
      -- the list with them
      abbrev now : List ℕ
      now = put_mid (get_or starts v 0) (get_or starts (v + 1) 0 - get_or starts v 0) items ys

      -- the row's size, by its places
      size : length ys ≡ get_or starts (v + 1) 0 - get_or starts v 0
      size = as_many ∙ length-row v there

      -- an earlier row stays
      earlier_stays : (w : ℕ) → w < v → row_between starts now w ≡ row_between starts items w
      earlier_stays w before =
          let below = starts_rise_to (w + 1) v (omega arith) (omega arith) in
          let start = start_within v (omega arith) in
          between_is now (get_or starts w 0) (get_or starts (w + 1) 0)
          ∙ ap (drop (get_or starts w 0)) (take-put_mid_below (get_or starts v 0)
          (get_or starts (v + 1) 0 - get_or starts v 0) items ys (get_or starts (w + 1) 0) below start)
          ∙ sym (between_is items (get_or starts w 0) (get_or starts (w + 1) 0))

      -- a later one too
      later_stays : (w : ℕ) → v < w → w < length starts → row_between starts now w ≡ row_between starts items w
      later_stays w behind within =
          let step = laid.rising v there in
          let above = starts_rise_to (v + 1) w (omega arith) within in
          let start = start_within v (omega arith) in
          ap (take (get_or starts (w + 1) 0 - get_or starts w 0)) (drop-put_mid (get_or starts v 0)
          (get_or starts (v + 1) 0 - get_or starts v 0) items ys (get_or starts w 0) (omega (arith, step, above)) start size)

      -- the row has them
      row_written : row_between starts now v ≡ ys
      row_written =
          between-put_mid (get_or starts v 0) (get_or starts (v + 1) 0 - get_or starts v 0) items ys
          (get_or starts (v + 1) 0) (start_within v (omega arith)) size

      -- the rows, one by one
      written_at : (w : ℕ) → w < length starts - 1 → get_or (set (rows_between starts items) v ys) w []
          ≡ row_between starts now w
      written_at w below = elim (cases_eq v w) [
        | inl same ↦
            subst (λ u. get_or (set (rows_between starts items) v ys) u [] ≡ row_between starts now u) same
            (get_or-set_same (rows_between starts items) v ys [] (omega (arith, length-rows_between starts items, there))
            ∙ sym row_written)
        | inr other ↦
            get_or-set_other (rows_between starts items) v w ys [] (λ same. other (sym same))
            ∙ row_is starts items w below
            ∙ elim (cases_lt w v) [
              | inl before ↦ sym (earlier_stays w before)
              | inr not_before ↦ sym (later_stays w (omega (arith, not_before, other)) (omega (arith, below)))
            ]
      ]

      -- and as a whole
      pub rows_written : rows_between starts now ≡ set (rows_between starts items) v ys
      rows_written = sym (fill_by_all (row_between starts now) (set (rows_between starts items) v ys) (length starts - 1) []
          (length-set (rows_between starts items) v ys ∙ length-rows_between starts items) written_at)

      -- the list is as long
      length-written : length now ≡ length items
      length-written =
          let a = get_or starts v 0 in
          let k = get_or starts (v + 1) 0 - get_or starts v 0 in
          let start = start_within v (omega arith) in
          let end = start_within (v + 1) there in
          let step = laid.rising v there in
          omega (
            arith,
            length-append (take a items) (ys ++ drop k (drop a items)),
            length-append ys (drop k (drop a items)),
            length-take-le a items start,
            length-drop a items,
            length-drop k (drop a items),
            size,
            start,
            end,
            step,
          )

      -- and the rows lie as before
      pub written_laid : AreEndToEnd starts now
      written_laid =
          let short = laid.short in
          let same : length now ≡ length items = length-written in
          record {
            some = laid.some;
            few = laid.few;
            short = omega (arith, short, same);
            rising = laid.rising;
            last = laid.last ∙ sym same;
          }
