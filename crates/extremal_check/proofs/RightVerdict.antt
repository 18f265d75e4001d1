-- Why the verdict is right. The events of a listed family are its rows, each under its place. Two
-- different events stand at different places, so where no two places clash, those that share a
-- variable exclude each other: whether they do can be told. Two places that clash are two different
-- events that share a variable and don't. Numbers rise with places, so the least pair of places is
-- the least pair of numbers.
use Rattle.std.proofs.Common.{inl, inr, ◌≡◌, ◌≢◌, ℕ, ◌<◌, ◌≤◌, List, [], length, Contains, sym, ap, ap₂, subst, ◌∙◌, arith}
use Rattle.std.proofs.lemmas.Bool.{cases_order}
use Rattle.std.proofs.lemmas.List.{get_or_default}
use Rattle.std.proofs.lemmas.List.Elements.{Contains-get_or}
use Rattle.std.proofs.lemmas.Option.{get_or_from_slice_get, slice_get_within, slice_get-get_or}
use Rattle.pop_model.specs.Popping.{Cube}
use Rattle.pop_model.specs.Families.{Event, IsEvent, AreEvents}
use Rattle.pop_model.specs.Families.Family.{Listed}
use Rattle.pop_model.specs.Extremal.{Share, Exclude, IsExtremal}
use Rattle.pop_model.specs.Places.{IsLeast, IsLeastPair}
use Rattle.pop_model.proofs.Sharing.{Share-sym}
use Rattle.pop_instance.specs.Events.{event_number, cube_at}
use Rattle.pop_instance.proofs.ListedEvents.{number_rises, same_place}
use Rattle.extremal_check.specs.Clashes.{Clash, AreClashing, ClashAt, HasNoClash}
use Rattle.extremal_check.proofs.Exclusions.{Exclude-sym, cases_exclude}

-- an event of the family is the row at its place
cube_of_event : (rows : List (ℕ × Cube)) (e : Event) → IsEvent (Listed rows) e
    → (e.unit < length rows) × (cube_at rows e.unit ≡ e.cube)
cube_of_event rows e (number, row) =
    let read = get_or_from_slice_get rows e.unit (number, e.cube) (0, []) row in
    (slice_get_within rows e.unit (number, e.cube) row, ap (λ (r : ℕ × Cube). r.1) read)

-- and each row is an event
event_at : List (ℕ × Cube) → ℕ → Event
event_at rows i = record { unit = i; cube = cube_at rows i }

-- that is so
is_event_at : (rows : List (ℕ × Cube)) (i : ℕ) → i < length rows → IsEvent (Listed rows) (event_at rows i)
unfolding event_at
is_event_at rows i within = (event_number rows i, slice_get-get_or rows i (0, []) within)

-- events at one place are the same
same_event : (e f : Event) → e.unit ≡ f.unit → e.cube ≡ f.cube → e ≡ f
same_event e f unit cube = ap₂ (λ (u : ℕ) (c : Cube). record { unit = u; cube = c }) unit cube

-- where no two places clash, two events at rising places that share a variable exclude each other
apart_in_order : (rows : List (ℕ × Cube)) → ((i : ℕ) → HasNoClash rows i) → (i j : ℕ) → i < j → j < length rows
    → Share (cube_at rows i) (cube_at rows j) → Exclude (cube_at rows i) (cube_at rows j)
apart_in_order rows none i j rising within share = elim (cases_exclude (cube_at rows i) (cube_at rows j)) [
  | inl exclude ↦ exclude
  | inr agree ↦
      absurd (none i j (record { rising = rising; within = within; clash = record { share = share; agree = agree } }))
]

-- where no two places clash the family is extremal
pub extremal_if_none : (rows : List (ℕ × Cube)) → ((i : ℕ) → HasNoClash rows i) → IsExtremal (Listed rows)
extremal_if_none rows none e f e_is f_is differ share =
    let here = cube_of_event rows e e_is in
    let there = cube_of_event rows f f_is in
    let shared : Share (cube_at rows e.unit) (cube_at rows f.unit) =
    subst (λ (c : Cube). Share c (cube_at rows f.unit)) (sym here.1) (subst (Share e.cube) (sym there.1) share) in
    let back : Exclude (cube_at rows e.unit) (cube_at rows f.unit) → Exclude e.cube f.cube = λ exclude.
    subst (λ (c : Cube). Exclude c f.cube) here.1 (subst (Exclude (cube_at rows e.unit)) there.1 exclude) in
    elim (cases_order e.unit f.unit) [
      | inl same ↦ absurd (differ (same_event e f same (sym here.1 ∙ ap (cube_at rows) same ∙ there.1)))
      | inr apart ↦ elim apart [
        | inl less ↦ back (apart_in_order rows none e.unit f.unit less there.0 shared)
        | inr more ↦ back (Exclude-sym (cube_at rows f.unit) (cube_at rows e.unit)
            (apart_in_order rows none f.unit e.unit more here.0
            (Share-sym (cube_at rows e.unit) (cube_at rows f.unit) shared)))
      ]
    ]

-- where two places clash it isn't
pub not_extremal : (rows : List (ℕ × Cube)) (i j : ℕ) → ClashAt rows i j → IsExtremal (Listed rows) → ⊥
unfolding event_at
not_extremal rows i j clash extremal =
    let rising = clash.rising in
    let within = clash.within in
    let differ : event_at rows i ≢ event_at rows j = λ same. let units : i ≡ j =
    ap (λ (e : Event). e.unit) same in absurd (omega arith) in
    clash.clash.agree (extremal (event_at rows i) (event_at rows j) (is_event_at rows i (omega arith))
    (is_event_at rows j within) differ clash.clash.share)

-- places rise with numbers
places_rise : (rows : List (ℕ × Cube)) → AreEvents rows → (i j : ℕ) → i < length rows → j < length rows
    → event_number rows i < event_number rows j → i < j
places_rise rows are i j i_within j_within less = elim (cases_order i j) [
  | inl same ↦ let numbers : event_number rows i ≡ event_number rows j =
      ap (event_number rows) same in absurd (omega arith)
  | inr apart ↦ elim apart [
    | inl before ↦ before
    | inr behind ↦ let numbers = number_rises rows j i are behind i_within in absurd (omega (arith, numbers, less))
  ]
]

-- two places that clash have numbers that clash
numbers_clash : (rows : List (ℕ × Cube)) → AreEvents rows → (i j : ℕ) → ClashAt rows i j
    → AreClashing rows (event_number rows i) (event_number rows j)
numbers_clash rows are i j clash =
    let rising = clash.rising in
    let within = clash.within in
    record {
      rising = number_rises rows i j are rising within;
      events = (
        cube_at rows i,
        cube_at rows j,
        Contains-get_or rows i (0, []) (omega arith),
        Contains-get_or rows j (0, []) within,
        clash.clash,
      );
    }

-- the place of a member
pub record IsPlaceOf (rows : List (ℕ × Cube)) (number : ℕ) (e : Cube) (i : ℕ) : Type 0 where
  pub within : i < length rows
  pub number_is : event_number rows i ≡ number
  pub cube_is : cube_at rows i ≡ e

-- a member has its place
place_of_member : (rows : List (ℕ × Cube)) (number : ℕ) (e : Cube) (has : Contains rows (number, e))
    → IsPlaceOf rows number e has.0
place_of_member rows number e has =
    let row = get_or_default rows has.0 (0, []) (number, e) has.1 ∙ has.2 in
    record { within = has.1; number_is = ap (λ (r : ℕ × Cube). r.0) row; cube_is = ap (λ (r : ℕ × Cube). r.1) row }

-- numbers that clash stand at places that clash
pub record ClashingPlaces (rows : List (ℕ × Cube)) (number other : ℕ) : Type 0 where
  pub i : ℕ
  pub j : ℕ
  pub clash : ClashAt rows i j
  pub first : event_number rows i ≡ number
  pub second : event_number rows j ≡ other

-- so they do, in either order
places_clash : (rows : List (ℕ × Cube)) → AreEvents rows → (number other : ℕ) → AreClashing rows number other
    → ClashingPlaces rows number other
places_clash rows are number other clashing =
    let e : Cube = clashing.events.0 in
    let f : Cube = clashing.events.1 in
    let here = place_of_member rows number e clashing.events.2 in
    let there = place_of_member rows other f clashing.events.3 in
    let first = here.number_is in
    let second = there.number_is in
    let rising = clashing.rising in
    let clash : Clash (cube_at rows clashing.events.2.0) (cube_at rows clashing.events.3.0) =
    subst (λ (c : Cube). Clash c (cube_at rows clashing.events.3.0)) (sym here.cube_is)
    (subst (Clash e) (sym there.cube_is) clashing.events.4) in
    record {
      i = clashing.events.2.0;
      j = clashing.events.3.0;
      clash = record {
        rising = places_rise rows are clashing.events.2.0 clashing.events.3.0 here.within there.within
            (omega (arith, first, second, rising));
        within = there.within;
        clash = clash;
      };
      first = first;
      second = second;
    }

-- the numbers of the least pair of places that clash are the least pair of numbers that clash
pub least_numbers : (rows : List (ℕ × Cube)) → AreEvents rows → (i j : ℕ) → IsLeastPair (ClashAt rows) i j
    → IsLeastPair (AreClashing rows) (event_number rows i) (event_number rows j)
least_numbers rows are i j least =
    let rising = least.holds.rising in
    let j_within = least.holds.within in
    let i_within : i < length rows = omega arith in
    record {
      holds = numbers_clash rows are i j least.holds;
      none_before = λ number other before clashing.
          let places = places_clash rows are number other clashing in
          let places_rising = places.clash.rising in
          let q_within = places.clash.within in
          let p_within : places.i < length rows = omega arith in
          let first = places.first in
          let second = places.second in
          elim before [
            | inl less ↦ least.none_before places.i places.j
                (inl (places_rise rows are places.i i p_within i_within (omega (arith, first, less)))) places.clash
            | inr (same, less) ↦ least.none_before places.i places.j
                (inr (
                  same_place rows places.i i are p_within i_within (first ∙ same),
                  places_rise rows are places.j j q_within j_within (omega (arith, second, less)),
                ))
                places.clash
          ];
    }

-- places are found in order: no pair stands before the first place that has a clash, with its least
pub least_pair : (rows : List (ℕ × Cube)) (i j : ℕ) → ((k : ℕ) → k < i → HasNoClash rows k) → IsLeast (ClashAt rows i) j
    → IsLeastPair (ClashAt rows) i j
least_pair rows i j none least = record {
  holds = least.holds;
  none_before = λ k l before clash. elim before [
    | inl less ↦ none k less l clash
    | inr (same, less) ↦ least.none_before l less (subst (λ (p : ℕ). ClashAt rows p l) same clash)
  ];
}

-- at no place where there is no event
pub none_at_all : (rows : List (ℕ × Cube)) (count : ℕ) → ((i : ℕ) → i < count → HasNoClash rows i) → length rows ≤ count
    → (i : ℕ) → HasNoClash rows i
none_at_all rows count none far i j clash =
    let rising = clash.rising in
    let within = clash.within in
    none i (omega arith) j clash
