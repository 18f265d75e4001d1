-- The numbers of the events that occur, as they are printed. An event is among those that occur if and only if it is
-- one of the family and occurs. Units increase, and so do the first numbers.
use Rattle.std.proofs.Common.{◌≡◌, ℕ, ◌+◌, ◌<◌, List, [], length, map, get_or, slice_index, slice_get, Some, ap, subst, ◌∙◌, arith, Contains}
use Rattle.std.specs.List.Sorted.{IsStrictlyIncreasing}
use Rattle.std.proofs.lemmas.List.{length-map, get_or-map}
use Rattle.std.proofs.lemmas.List.Elements.{Contains-get_or}
use Rattle.std.proofs.lemmas.List.Kept.{AllPairs-from_increasing}
use Rattle.std.proofs.lemmas.Option.{slice_get_within, slice_get-get_or, get_or_from_slice_get}
use Rattle.pop_model.specs.Popping.{Cube, Occurs}
use Rattle.pop_model.specs.Families.{Event, IsEvent}
use Rattle.pop_model.specs.Families.Family.{Listed}
use Rattle.pop_model.specs.Instances.{Instance}
use Rattle.pop_model.specs.Runs.{IsFinished, IsStuckList}
use Rattle.pop_instance.specs.Events.{event_number}
use Rattle.graph_read.proofs.Numbering.{contains_map, contains_map_from}
use Rattle.pop_print.specs.declared.facts.Facts.{Facts}
use Rattle.pop_print.specs.Names.{event_names}
use Rattle.printed_samples.specs.Stuck.{AreStuck}
use Rattle.printed_samples.specs.Laws.{numbers_of}

-- the first of some numbers
abbrev pub first_number : List ℕ → ℕ
first_number numbers = slice_index numbers 0

-- the numbers of an event of the family that occurs
pub record IsNamed (facts : Facts) (i : Instance) (c numbers : List ℕ) : Type 0 where
  pub event : Event
  pub event_is : IsEvent i.family event
  pub occurs : Occurs i.stacks c event.cube
  pub numbers_are : event_names facts i.family event ≡ numbers

-- numbers are told just of the events that occur
pub record Tells (facts : Facts) (i : Instance) (c : List ℕ) (Is : List ℕ → Type 0) : Type 0 where
  -- first numbers rise by units
  pub rise : (e f : Event) → IsEvent i.family e → IsEvent i.family f → e.unit < f.unit
      → first_number (event_names facts i.family e) < first_number (event_names facts i.family f)
  pub there : (e : Event) → IsEvent i.family e → Occurs i.stacks c e.cube → Is (event_names facts i.family e)
  pub back : (numbers : List ℕ) → Is numbers → IsNamed facts i c numbers

-- so the printed numbers are those that are told
pub are_stuck : (facts : Facts) (i : Instance) (c : List ℕ) (stuck : List Event) (Is : List ℕ → Type 0)
    → Tells facts i c Is → IsStuckList i c stuck → 0 < length stuck → AreStuck Is (numbers_of facts i.family stuck)
are_stuck facts i c stuck Is tells list some = record {
  some = omega (arith, length-map stuck names, some);
  rising = λ k within. first_rises k (omega (arith, firsts_count, within));
  exact = λ numbers. (
    λ has.
        let (e, inside, is) = contains_map_from names stuck no_event numbers has in
        let event = (list.exact e).0 inside in
        subst Is is (tells.there e event.0 event.1),
    λ told.
        let named = tells.back numbers told in
        subst (Contains (map names stuck)) named.numbers_are
        (contains_map names stuck named.event ((list.exact named.event).1 (named.event_is, named.occurs))),
  );
}
  where
    names : Event → List ℕ
    names e = event_names facts i.family e

    no_event : Event
    no_event = record { unit = 0; cube = [] }

    firsts_count : length (map first_number (map names stuck)) ≡ length stuck
    firsts_count = length-map (map names stuck) first_number ∙ length-map stuck names

    event_at : ℕ → Event
    event_at k = get_or stuck k no_event

    first_there : (k : ℕ) → k < length stuck
        → slice_index (map first_number (map names stuck)) k ≡ first_number (names (event_at k))
    first_there k within =
        get_or-map first_number (map names stuck) k (names no_event) 0 (omega (arith, length-map stuck names, within))
        ∙ ap first_number (get_or-map names stuck k no_event (names no_event) within)

    unit_there : (k : ℕ) → k < length stuck → slice_index (map (λ (e : Event). e.unit) stuck) k ≡ (event_at k).unit
    unit_there k within = get_or-map (λ (e : Event). e.unit) stuck k no_event 0 within

    is_event : (k : ℕ) → k < length stuck → IsEvent i.family (event_at k)
    is_event k within = ((list.exact (event_at k)).0 (Contains-get_or stuck k no_event within)).0

    first_rises : (k : ℕ) → k + 1 < length stuck
        → slice_index (map first_number (map names stuck)) k < slice_index (map first_number (map names stuck)) (k + 1)
    first_rises k within =
        let here : k < length stuck = omega (arith, within) in
        let units = list.rising k (omega (arith, length-map stuck (λ (e : Event). e.unit), within)) in
        let rises = tells.rise (event_at k) (event_at (k + 1)) (is_event k here) (is_event (k + 1) within)
        (omega (arith, units, unit_there k here, unit_there (k + 1) within)) in
        omega (arith, rises, first_there k here, first_there (k + 1) within)

-- where no event stands among those that occur, none occurs
pub empty_finished : (i : Instance) (c : List ℕ) → IsStuckList i c [] → IsFinished i c
empty_finished i c list e event occurs =
    let (k, within, at) = (list.exact e).1 (event, occurs) in absurd (omega (arith, within))

-- the number of a listed event
pub number_there : (rows : List (ℕ × Cube)) (u n : ℕ) (e : Cube) → slice_get rows u ≡ Some (n, e) → event_number rows u
    ≡ n
number_there rows u n e at = ap (λ (r : ℕ × Cube). r.0) (get_or_from_slice_get rows u (n, e) (0, []) at)

-- a row is that of a listed event
pub row_event : (rows : List (ℕ × Cube)) (n : ℕ) (e : Cube) → Contains rows (n, e)
    → (u : ℕ) × (slice_get rows u ≡ Some (n, e))
row_event rows n e (u, within, at) = (u, slice_get-get_or rows u (n, e) within ∙ ap (λ r. Some r) at)

-- a listed event has a row
pub event_row : (rows : List (ℕ × Cube)) (u n : ℕ) (e : Cube) → slice_get rows u ≡ Some (n, e) → Contains rows (n, e)
event_row rows u n e at = (u, slice_get_within rows u (n, e) at, get_or_from_slice_get rows u (n, e) (n, e) at)

-- their numbers rise by units
pub numbers_rise : (rows : List (ℕ × Cube)) → IsStrictlyIncreasing (map (λ r. r.0) rows) → (e f : Event)
    → IsEvent (Listed rows) e → IsEvent (Listed rows) f → e.unit < f.unit
    → event_number rows e.unit < event_number rows f.unit
numbers_rise rows rising e f (n, at_e) (m, at_f) less =
    let numbers : List ℕ = map (λ (r : ℕ × Cube). r.0) rows in
    let size = length-map rows (λ (r : ℕ × Cube). r.0) in
    let below_e = slice_get_within rows e.unit (n, e.cube) at_e in
    let below_f = slice_get_within rows f.unit (m, f.cube) at_f in
    let rises : slice_index numbers e.unit < slice_index numbers f.unit =
    AllPairs-from_increasing numbers rising e.unit f.unit 0 less (omega (arith, size, below_f)) in
    let here = get_or-map (λ (r : ℕ × Cube). r.0) rows e.unit (0, []) 0 below_e in
    let there = get_or-map (λ (r : ℕ × Cube). r.0) rows f.unit (0, []) 0 below_f in
    omega (arith, rises, here, there)
