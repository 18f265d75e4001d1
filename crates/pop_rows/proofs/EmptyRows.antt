-- Rows of which nothing is filled yet: each ends where it starts, and the starts are the sums of the rooms.
use Rattle.std.proofs.Common.{◌≡◌, ℕ, ◌+◌, ◌<◌, ◌^◌, List, [], length, take, get_or, sum, sym, ap, ◌∙◌, arith, replicate, slice_range}
use Rattle.std.proofs.lemmas.List.{get_or_default, take_all, length-take-le, get_or-take, length-replicate, get_or-replicate}
use Rattle.std.proofs.lemmas.List.Edits.{between_none}
use Rattle.std.proofs.lemmas.List.FromFn.{fill_by_all}
use Rattle.std.proofs.lemmas.List.Sums.{sum_by_more, sum_by-take-le}
use Rattle.pop_rows.specs.Layout.{row_in, rows_in, room_in, rooms_in, AreLaidOut, AreStarts}

-- what is made of rooms: their starts, as many ends, which are starts too, and a list with room for all
pub record AreMade (rooms starts ends items : List ℕ) : Type 0 where
  pub few : length rooms < 2 ^ 32
  pub short : length items < 2 ^ 32
  pub starts_are : AreStarts rooms starts
  pub ends_are : ends ≡ take (length rooms) starts
  pub size : length items ≡ get_or starts (length rooms) 0

-- the same, where count is the number of rooms, and last the last start
pub made : (rooms starts ends items : List ℕ) (count last : ℕ) → count ≡ length rooms → length rooms < 2 ^ 32
    → AreStarts rooms starts → ends ≡ take count starts → last ≡ get_or starts count last → last < 2 ^ 32
    → length items ≡ last
    → AreMade rooms starts ends items
made rooms starts ends items count last count_is few starts_are ends_are last_is last_fits size = record {
  few = few;
  short = omega (arith, size, last_fits);
  starts_are = starts_are;
  ends_are = ends_are ∙ ap (λ n. take n starts) count_is;
  size =
      let long = starts_are.count in
      size ∙ last_is ∙ get_or_default starts count last 0 (omega (arith, count_is, long))
      ∙ ap (λ n. get_or starts n 0) count_is;
}

module _ (rooms starts ends items : List ℕ) (are : AreMade rooms starts ends items) where
  -- there are as many ends as rooms
  ends_size : length ends ≡ length rooms
  ends_size =
      let count = are.starts_are.count in
      ap length are.ends_are ∙ length-take-le (length rooms) starts (omega (arith, count))

  -- the end of a row is its start
  end_is : (v : ℕ) → v < length ends → get_or ends v 0 ≡ get_or starts v 0
  end_is v below =
      ap (λ xs. get_or xs v 0) are.ends_are
      ∙ get_or-take (length rooms) starts v 0 (omega (arith, below, ends_size))

  -- the next start is a room behind
  start_more : (v : ℕ) → v < length rooms → get_or starts (v + 1) 0 ≡ get_or starts v 0 + get_or rooms v 0
  start_more v below =
      let count = are.starts_are.count in
      are.starts_are.each (v + 1) (omega (arith, count)) ∙ sum_by_more (λ (x : ℕ). x) rooms v 0 below
      ∙ ap (λ n. n + get_or rooms v 0) (sym (are.starts_are.each v (omega (arith, count))))

  -- the rows are laid out
  pub empty_laid : AreLaidOut starts ends items
  empty_laid = record {
    count = are.starts_are.count ∙ ap (λ n. n + 1) (sym ends_size);
    few = let few = are.few in omega (arith, few, ends_size);
    short = are.short;
    begun = λ v below. omega (arith, end_is v below);
    ended = λ v below. omega (arith, end_is v below, start_more v (omega (arith, below, ends_size)));
    within = λ v below.
        let count = are.starts_are.count in
        let size = are.size in
        let last = are.starts_are.each (length rooms) (omega (arith, count)) in
        let whole : take (length rooms) rooms ≡ rooms = take_all (length rooms) rooms (omega arith) in
        let here = are.starts_are.each v below in
        omega (arith, size, last, ap sum whole, here, sum_by-take-le (λ (x : ℕ). x) rooms v);
  }

  -- with just these rooms
  pub empty_rooms : rooms_in starts (length ends) ≡ rooms
  empty_rooms = sym (fill_by_all (room_in starts) rooms (length ends) 0 (sym ends_size)
      (λ v below. let more = start_more v (omega (arith, below, ends_size)) in omega (arith, more)))

  -- and nothing in them
  pub empty_rows : rows_in starts ends items ≡ replicate (length rooms) []
  empty_rows = sym (fill_by_all (row_in starts ends items) (replicate (length rooms) []) (length ends) []
      (length-replicate (length rooms) [] ∙ sym ends_size)
      (λ v below. get_or-replicate (length rooms) v [] [] (omega (arith, below, ends_size))
      ∙ sym (ap (slice_range items (get_or starts v 0)) (end_is v below) ∙ between_none items (get_or starts v 0))))
