-- Listed events: their numbers rise with their places, so that a number is that of one place, and an index has places
-- of them alone.
use Rattle.std.proofs.Common.{inl, inr, ◌≡◌, ℕ, ◌<◌, List, [], length, map, get_or, refl, sym, arith, All}
use Rattle.std.proofs.lemmas.Bool.{cases_lt}
use Rattle.std.proofs.lemmas.List.{length-map, get_or-map}
use Rattle.std.proofs.lemmas.Option.{get_or_from_slice_get, slice_get_read, slice_get_within}
use Rattle.std.proofs.lemmas.List.Elements.{Contains-get_or}
use Rattle.std.proofs.lemmas.List.Kept.{AllPairs-from_increasing}
use Rattle.pop_model.specs.Popping.{Cube}
use Rattle.pop_model.specs.Families.{AreEvents}
use Rattle.pop_model.specs.Families.Family.{Listed}
use Rattle.pop_instance.specs.Events.{event_number, HasCube}
use Rattle.pop_instance.specs.Family.{HasEvent}
use Rattle.pop_instance.specs.Index.{IsIndex}

-- numbers of events rise
pub number_rises : (rows : List (ℕ × Cube)) (u w : ℕ) → AreEvents rows → u < w → w < length rows
    → event_number rows u < event_number rows w
number_rises rows u w are less within =
    let keys : List ℕ = map (λ (r : ℕ × Cube). r.0) rows in
    let size = length-map rows (λ (r : ℕ × Cube). r.0) in
    let up = AllPairs-from_increasing keys are.rising u w 0 less (omega (arith, size, within)) in
    let low = get_or-map (λ (r : ℕ × Cube). r.0) rows u (0, []) 0 (omega (arith, less, within)) in
    let high = get_or-map (λ (r : ℕ × Cube). r.0) rows w (0, []) 0 within in
    omega (arith, up, low, high)

-- a number is that of one place
pub same_place : (rows : List (ℕ × Cube)) (u w : ℕ) → AreEvents rows → u < length rows → w < length rows
    → event_number rows u ≡ event_number rows w → u ≡ w
same_place rows u w are within within' same =
    elim (cases_lt u w) [
      | inl less ↦ let up = number_rises rows u w are less within' in absurd (omega (arith, up, same))
      | inr most ↦ elim (cases_lt w u) [
        | inl less ↦ let up = number_rises rows w u are less within in absurd (omega (arith, up, same))
        | inr most' ↦ omega (arith, most, most')
      ]
    ]

-- the index has units alone
pub index_units : (rows : List (ℕ × Cube)) (index : List (List ℕ)) → IsIndex rows index → (v : ℕ) → v < length index
    → All (λ u. u < length rows) (get_or index v [])
index_units rows index is v below k d h =
    ((is.exact v (get_or (get_or index v []) k d) below).0 (Contains-get_or (get_or index v []) k d h)).0

-- a row's cube is that of an event, whose unit is the place of the row
pub row_is_event : (rows : List (ℕ × Cube)) (e : Cube) → HasCube rows e → HasEvent (Listed rows) e
row_is_event rows e has =
    (has.1.0, (has.0, slice_get_read rows (length rows) has.1.0 (has.0, e) refl has.1.1 (sym has.1.2)))

-- and an event's cube is that of a row
pub event_is_row : (rows : List (ℕ × Cube)) (e : Cube) → HasEvent (Listed rows) e → HasCube rows e
event_is_row rows e has =
    let row : ℕ × Cube = (has.1.0, e) in (
      has.1.0,
      (has.0, slice_get_within rows has.0 row has.1.1, get_or_from_slice_get rows has.0 row row has.1.1),
    )
