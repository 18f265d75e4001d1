-- The events of sinks are extremal. Two different events are those of two vertices, since an event's number says its
-- place. An edge that both have joins the two vertices, and points to one of them at a time.
use Rattle.std.proofs.Common.{inl, inr, ◌≡◌, ◌≢◌, ℕ, ◌<◌, List, map, Some, slice_get, sym, ap, ap₂, ◌∙◌, arith, Contains}
use Rattle.std.specs.List.Sorted.{IsStrictlyIncreasing}
use Rattle.std.proofs.lemmas.Bool.{cases_order}
use Rattle.std.proofs.lemmas.List.{length-map, get_or-map}
use Rattle.std.proofs.lemmas.List.Kept.{AllPairs-from_increasing}
use Rattle.std.proofs.lemmas.Option.{same_Some, slice_get_within, get_or_from_slice_get}
use Rattle.pop_model.specs.Popping.{Cube}
use Rattle.pop_model.specs.Families.{Event}
use Rattle.pop_model.specs.Families.Family.{Listed}
use Rattle.pop_model.specs.Extremal.{IsExtremal}
use Rattle.graph_read.specs.Graphs.{GraphOf}
use Rattle.sink_popping.specs.Sinks.{AreSinksOf}
use Rattle.sink_popping.proofs.SinkCubesLemmas.{sinks_differ}

-- a row at a place is one of the rows
row_is_member : (rows : List (ℕ × Cube)) (place number : ℕ) (e : Cube) → slice_get rows place ≡ Some (number, e)
    → Contains rows (number, e)
row_is_member rows place number e at =
    (place, slice_get_within rows place (number, e) at, get_or_from_slice_get rows place (number, e) (number, e) at)

-- rows at lesser places have lesser numbers
numbers_rise : (rows : List (ℕ × Cube)) (i j m n : ℕ) (e f : Cube) → IsStrictlyIncreasing (map (λ r. r.0) rows) → i < j
    → slice_get rows i ≡ Some (m, e) → slice_get rows j ≡ Some (n, f) → m < n
numbers_rise rows i j m n e f rising less here there =
    let i_in = slice_get_within rows i (m, e) here in
    let j_in = slice_get_within rows j (n, f) there in
    let size = length-map rows (λ (r : ℕ × Cube). r.0) in
    let at_i = get_or-map (λ (r : ℕ × Cube). r.0) rows i (m, e) 0 i_in
    ∙ ap (λ (r : ℕ × Cube). r.0) (get_or_from_slice_get rows i (m, e) (m, e) here) in
    let at_j = get_or-map (λ (r : ℕ × Cube). r.0) rows j (n, f) 0 j_in
    ∙ ap (λ (r : ℕ × Cube). r.0) (get_or_from_slice_get rows j (n, f) (n, f) there) in
    let up = AllPairs-from_increasing (map (λ (r : ℕ × Cube). r.0) rows) rising i j 0 less
    (omega (arith, size, j_in)) in
    omega (arith, at_i, at_j, up)

-- two events of one number are the same
same_number : (rows : List (ℕ × Cube)) (m n : ℕ) (e f : Event) → IsStrictlyIncreasing (map (λ r. r.0) rows)
    → slice_get rows e.unit ≡ Some (m, e.cube) → slice_get rows f.unit ≡ Some (n, f.cube) → m ≡ n → e ≡ f
same_number rows m n e f rising here there same = elim (cases_order e.unit f.unit) [
  | inl unit ↦
      let row : ◌≡◌ {A = ℕ × Cube} (m, e.cube) (n, f.cube) =
      same_Some (m, e.cube) (n, f.cube) (sym here ∙ ap (slice_get rows) unit ∙ there) in
      ap₂ (λ (u : ℕ) (c : Cube). let event : Event = record { unit = u; cube = c } in event) unit
      (ap (λ (r : ℕ × Cube). r.1) row)
  | inr (inl less) ↦
      let up = numbers_rise rows e.unit f.unit m n e.cube f.cube rising less here there in
      absurd (omega (arith, up, same))
  | inr (inr more) ↦
      let up = numbers_rise rows f.unit e.unit n m f.cube e.cube rising more there here in
      absurd (omega (arith, up, same))
]

-- the events of sinks are extremal
pub sinks_extremal : (g : GraphOf) (rows : List (ℕ × Cube)) → AreSinksOf g rows → IsExtremal (Listed rows)
sinks_extremal g rows are e f (m, e_at) (n, f_at) differ (v, x, y, e_has, f_has) =
    let e_sink = (are.exact m e.cube).0 (row_is_member rows e.unit m e.cube e_at) in
    let f_sink = (are.exact n f.cube).0 (row_is_member rows f.unit n f.cube f_at) in
    let apart : m ≢ n = λ same. differ (same_number rows m n e f are.rising e_at f_at same) in (
      v,
      x,
      y,
      e_has,
      f_has,
      sinks_differ g m n v x y apart ((e_sink.sink.exact v x).0 e_has) ((f_sink.sink.exact v y).0 f_has),
    )
