-- A number more in a row with room. Rows lie one behind another, so the place behind the row's end is in no other row:
-- the number that is written there changes no other row, and belongs to this one once its end has moved on.
use Rattle.std.proofs.Common.{inl, inr, ◌≡◌, ◌≢◌, ℕ, zero, suc, ◌+◌, ◌-◌, ◌<◌, ◌≤◌, List, [], ◌∷◌, ◌++◌, length, map, take, drop, set, get_or, sym, ap, subst, ◌∙◌, arith, add-zero, slice_range}
use Rattle.std.specs.List.{range_with_len}
use Rattle.std.proofs.lemmas.Bool.{cases_eq, cases_lt}
use Rattle.std.proofs.lemmas.List.{get_or_default, get_or_past, length-set, length-drop, get_or-set_same, get_or-set_other, take-set-le, drop-set-lt, drop-set-add, take_more_set}
use Rattle.std.proofs.lemmas.List.Edits.{length-between}
use Rattle.std.proofs.lemmas.List.FromFn.{length-map-range_with_len, get_or-map-range_with_len, fill_by_all}
use Rattle.pop_rows.specs.FlatRows.{row_at, push_at, HasRoom, AreRoomy}
use Rattle.pop_rows.specs.Layout.{row_in, rows_in, room_in, rooms_in, roomy_rows, AreLaidOut}

-- a write behind a part of a list leaves the part
part_before : (items : List ℕ) (start end p x : ℕ) → start ≤ end → end ≤ p
    → slice_range (set items p x) start end ≡ slice_range items start end
part_before items start end p x begun behind =
    let place : p ≡ start + (p - start) = omega arith in
    ap (λ q. take (end - start) (drop start (set items q x))) place
    ∙ ap (take (end - start)) (drop-set-add start items (p - start) x)
    ∙ take-set-le (end - start) (drop start items) (p - start) x (omega arith)

-- a write before it does too
part_behind : (items : List ℕ) (start end p x : ℕ) → p < start
    → slice_range (set items p x) start end ≡ slice_range items start end
part_behind items start end p x before = ap (take (end - start)) (drop-set-lt start items p x before)

-- a write right behind a part adds to it
part_more : (items : List ℕ) (start end x : ℕ) → start ≤ end → end < length items
    → slice_range (set items end x) start (end + 1) ≡ slice_range items start end ++ x ∷ []
part_more items start end x begun within =
    let place : end ≡ start + (end - start) = omega arith in
    let one : end + 1 - start ≡ end - start + 1 = omega arith in
    let inside : end - start < length (drop start items) = omega (arith, length-drop start items) in
    ap (λ n. take n (drop start (set items end x))) one
    ∙ ap (λ q. take (end - start + 1) (drop start (set items q x))) place
    ∙ ap (take (end - start + 1)) (drop-set-add start items (end - start) x)
    ∙ take_more_set (drop start items) (end - start) x inside

module _ (starts ends items : List ℕ) (laid : AreLaidOut starts ends items) where
  -- ---- rows and rooms by their places

  -- there are as many rows as ends
  pub length-rows_in : length (rows_in starts ends items) ≡ length ends
  length-rows_in = length-map-range_with_len (row_in starts ends items) 0 (length ends)

  -- and as many rooms
  length-rooms_in : length (rooms_in starts (length ends)) ≡ length ends
  length-rooms_in = length-map-range_with_len (room_in starts) 0 (length ends)

  -- a row goes from its start up to its end
  pub row_is : (v : ℕ) → v < length ends → row_at (rows_in starts ends items) v ≡ row_in starts ends items v
  row_is v below = get_or-map-range_with_len (row_in starts ends items) 0 (length ends) v v [] below (omega arith)

  -- its room goes from its start up to the next
  room_is : (v : ℕ) → v < length ends → get_or (rooms_in starts (length ends)) v 0 ≡ room_in starts v
  room_is v below = get_or-map-range_with_len (room_in starts) 0 (length ends) v v 0 below (omega arith)

  -- a row ends in the list
  pub end_within : (v : ℕ) → v < length ends → get_or ends v 0 ≤ length items
  end_within v below =
      let count = laid.count in
      let ended = laid.ended v below in
      let inside = laid.within (v + 1) (omega (arith, count, below)) in
      omega (arith, ended, inside)

  -- it is as long as its places are many
  length-row : (v : ℕ) → v < length ends
      → length (row_at (rows_in starts ends items) v) ≡ get_or ends v 0 - get_or starts v 0
  length-row v below =
      ap (λ (row : List ℕ). length row) (row_is v below)
      ∙ length-between items (get_or starts v 0) (get_or ends v 0) (end_within v below)

  -- no row is longer than its room
  pub rows_are_roomy : AreRoomy (roomy_rows starts ends items)
  rows_are_roomy = record {
    count = length-rooms_in ∙ sym length-rows_in;
    within = λ v below.
        let inside : v < length ends = omega (arith, below, length-rows_in) in
        let ended = laid.ended v inside in
        let row = length-row v inside in
        let room = room_is v inside in
        omega (arith, ended, row, room);
  }

  -- a row with room is there
  pub row_there : (r : ℕ) → HasRoom (roomy_rows starts ends items) r → r < length ends
  row_there r room = elim (cases_lt r (length ends)) [
    | inl below ↦ below
    | inr past ↦
        let none = get_or_past (rooms_in starts (length ends)) r 0 (omega (arith, length-rooms_in, past)) in
        absurd (omega (arith, room, none))
  ]

  -- and ends before the next one starts
  room_left : (r : ℕ) → HasRoom (roomy_rows starts ends items) r → get_or ends r 0 < get_or starts (r + 1) 0
  room_left r room =
      let below = row_there r room in
      let begun = laid.begun r below in
      let row = length-row r below in
      let rooms = room_is r below in
      omega (arith, begun, row, rooms, room)

  -- a read of its end
  pub end_read : (r end : ℕ) → HasRoom (roomy_rows starts ends items) r → end ≡ get_or ends r end
      → get_or ends r 0 ≡ end
  end_read r end room read = sym (read ∙ get_or_default ends r end 0 (row_there r room))

  -- starts rise, by so many places
  starts_rise : (v k : ℕ) → v + k < length starts → get_or starts v 0 ≤ get_or starts (v + k) 0
  starts_rise v zero within = rw add-zero (omega arith)
  starts_rise v (suc k) within =
      let count = laid.count in
      let before = starts_rise v k (omega arith) in
      let begun = laid.begun (v + k) (omega (arith, count)) in
      let ended = laid.ended (v + k) (omega (arith, count)) in
      let next : v + suc k ≡ v + k + 1 = omega arith in
      rw next (omega (arith, before, begun, ended))

  -- from one place to a later one
  starts_rise_to : (v w : ℕ) → v ≤ w → w < length starts → get_or starts v 0 ≤ get_or starts w 0
  starts_rise_to v w before within =
      let there : v + (w - v) ≡ w = omega arith in
      subst (λ u. get_or starts v 0 ≤ get_or starts u 0) there (starts_rise v (w - v) (omega (arith, there)))

  -- ---- row r, which ends at a place, gets the number x
  module _ (r x end : ℕ) (end_is : get_or ends r 0 ≡ end) (has_room : HasRoom (roomy_rows starts ends items) r) where
    -- the row is there
    there : r < length ends
    there = row_there r has_room

    -- and ends before the next start
    room : end < get_or starts (r + 1) 0
    room = omega (arith, room_left r has_room, end_is)

    -- the place is in the list, which the next start doesn't pass
    pub place_within : end < length items
    place_within =
        let count = laid.count in
        let inside = laid.within (r + 1) (omega (arith, count, there)) in
        omega (arith, room, inside)

    -- every other row keeps its numbers
    kept : (v : ℕ) → v < length ends → v ≢ r
        → row_in starts (set ends r (end + 1)) (set items end x) v ≡ row_in starts ends items v
    kept v below other =
        let count = laid.count in
        let begun = laid.begun v below in
        let ended = laid.ended v below in
        let begun_here = laid.begun r there in
        ap (slice_range (set items end x) (get_or starts v 0)) (get_or-set_other ends r v (end + 1) 0 other)
        ∙ elim (cases_lt v r) [
          | inl before ↦
              let rise = starts_rise_to (v + 1) r (omega arith) (omega (arith, count, there)) in
              part_before items (get_or starts v 0) (get_or ends v 0) end x begun
              (omega (arith, ended, rise, begun_here, end_is))
          | inr behind ↦
              let rise = starts_rise_to (r + 1) v (omega (arith, behind, other)) (omega (arith, count, below)) in
              part_behind items (get_or starts v 0) (get_or ends v 0) end x (omega (arith, room, rise))
        ]

    -- row r has the number at its end
    here : row_in starts (set ends r (end + 1)) (set items end x) r ≡ row_in starts ends items r ++ x ∷ []
    here =
        let begun = laid.begun r there in
        ap (slice_range (set items end x) (get_or starts r 0)) (get_or-set_same ends r (end + 1) 0 there)
        ∙ part_more items (get_or starts r 0) end x (omega (arith, begun, end_is)) place_within
        ∙ ap (λ e. slice_range items (get_or starts r 0) e ++ x ∷ []) (sym end_is)

    -- the rows, one by one
    pushed_at : (v : ℕ) → v < length ends → get_or (push_at (rows_in starts ends items) r x) v []
        ≡ row_in starts (set ends r (end + 1)) (set items end x) v
    pushed_at v below = elim (cases_eq r v) [
      | inl same ↦
          subst (λ u. get_or (push_at (rows_in starts ends items) r x) u []
          ≡ row_in starts (set ends r (end + 1)) (set items end x) u) same
          (get_or-set_same (rows_in starts ends items) r (row_at (rows_in starts ends items) r ++ x ∷ []) []
          (omega (arith, length-rows_in, there))
          ∙ ap (λ (row : List ℕ). row ++ x ∷ []) (row_is r there) ∙ sym here)
      | inr other ↦
          get_or-set_other (rows_in starts ends items) r v (row_at (rows_in starts ends items) r ++ x ∷ []) []
          (λ same. other (sym same))
          ∙ row_is v below ∙ sym (kept v below (λ same. other (sym same)))
    ]

    -- and as a whole
    pub pushed_rows : rows_in starts (set ends r (end + 1)) (set items end x) ≡ push_at (rows_in starts ends items) r x
    pushed_rows =
        let row : ℕ → List ℕ = row_in starts (set ends r (end + 1)) (set items end x) in
        let rows : List (List ℕ) = rows_in starts ends items in
        ap (λ n. map row (range_with_len 0 n)) (length-set ends r (end + 1))
        ∙ sym (fill_by_all row (push_at rows r x) (length ends) []
        (length-set rows r (row_at rows r ++ x ∷ []) ∙ length-rows_in) pushed_at)

    -- they are laid out
    pub pushed_laid : AreLaidOut starts (set ends r (end + 1)) (set items end x)
    pushed_laid =
        let ends_size = length-set ends r (end + 1) in
        let items_size = length-set items end x in
        record {
          count = laid.count ∙ ap (λ n. n + 1) (sym ends_size);
          few = let few = laid.few in omega (arith, few, ends_size);
          short = let short = laid.short in omega (arith, short, items_size);
          begun = λ v below. begun v (omega (arith, below, ends_size));
          ended = λ v below. ended v (omega (arith, below, ends_size));
          within = λ v below. let inside = laid.within v below in omega (arith, inside, items_size);
        }
      where
        begun : (v : ℕ) → v < length ends → get_or starts v 0 ≤ get_or (set ends r (end + 1)) v 0
        begun v below = elim (cases_eq r v) [
          | inl same ↦
              let old = laid.begun r there in
              let new = get_or-set_same ends r (end + 1) 0 there in
              subst (λ u. get_or starts u 0 ≤ get_or (set ends r (end + 1)) u 0) same (omega (arith, old, new, end_is))
          | inr other ↦
              let old = laid.begun v below in
              let new = get_or-set_other ends r v (end + 1) 0 (λ same. other (sym same)) in
              omega (arith, old, new)
        ]

        ended : (v : ℕ) → v < length ends → get_or (set ends r (end + 1)) v 0 ≤ get_or starts (v + 1) 0
        ended v below = elim (cases_eq r v) [
          | inl same ↦
              let new = get_or-set_same ends r (end + 1) 0 there in
              subst (λ u. get_or (set ends r (end + 1)) u 0 ≤ get_or starts (u + 1) 0) same (omega (arith, room, new))
          | inr other ↦
              let old = laid.ended v below in
              let new = get_or-set_other ends r v (end + 1) 0 (λ same. other (sym same)) in
              omega (arith, old, new)
        ]
