-- Events of a listed family by their places.
use Rattle.std.proofs.Common.{inl, inr, ◌≡◌, ℕ, ◌<◌, List, [], length, get_or, Some, refl, sym, ap, subst, ◌∙◌}
use Rattle.std.proofs.lemmas.Option.{get_or_from_slice_get, slice_get_within, slice_get-get_or}
use Rattle.std.proofs.lemmas.Bool.{cases_lt}
use Rattle.pop_model.specs.Stacks.{StackTable}
use Rattle.pop_model.specs.Popping.{Cube, IsPoppable}
use Rattle.pop_model.specs.Families.{Event, IsEvent}
use Rattle.pop_model.specs.Families.Family.{Listed}
use Rattle.pop_model.specs.Instances.{Instance}
use Rattle.pop_model.specs.Logs.{IsLegalAt}
use Rattle.pop_model.specs.Runs.{IsEnd, IsFirstPoppable}
use Rattle.pop_instance.specs.Events.{cube_at}
use Rattle.confluence_core.specs.Records.{record_at}
use Rattle.confluence_core.specs.Search.{NoneBefore}

-- the instance of listed events
abbrev pub listed : StackTable → List (ℕ × Cube) → Instance
listed s rows = record { stacks = s; family = Listed rows }

-- the event at a place
abbrev pub event_at : List (ℕ × Cube) → ℕ → Event
event_at rows place = record { unit = place; cube = cube_at rows place }

-- an event's unit is a place, and its cube stands there
pub record StandsIn (rows : List (ℕ × Cube)) (e : Event) : Type 0 where
  pub within : e.unit < length rows
  pub cube : cube_at rows e.unit ≡ e.cube

-- what stands in the rows is an event
pub event_from : (rows : List (ℕ × Cube)) (e : Event) → e.unit < length rows → cube_at rows e.unit ≡ e.cube
    → IsEvent (Listed rows) e
event_from rows e below is =
    let row : ℕ × Cube = get_or rows e.unit (0, []) in
    (row.0, slice_get-get_or rows e.unit (0, []) below ∙ ap (λ (x : Cube). Some (row.0, x)) is)

-- an event stands in the rows
pub event_to : (rows : List (ℕ × Cube)) (e : Event) → IsEvent (Listed rows) e → StandsIn rows e
event_to rows e (number, at) = record {
  within = slice_get_within rows e.unit (number, e.cube) at;
  cube = ap (λ (r : ℕ × Cube). r.1) (get_or_from_slice_get rows e.unit (number, e.cube) (0, []) at);
}

-- where no place has a poppable event, there is an end
pub end_from : (s : StackTable) (c : List ℕ) (rows : List (ℕ × Cube)) → NoneBefore s c rows (length rows)
    → IsEnd (listed s rows) c
end_from s c rows none e is pop =
    let at = event_to rows e is in none e.unit at.within (subst (IsPoppable s c) (sym at.cube) pop)

-- the event at the first place that is poppable is the first poppable one
pub first_from : (s : StackTable) (c : List ℕ) (rows : List (ℕ × Cube)) (place : ℕ) → place < length rows
    → IsPoppable s c (cube_at rows place) → NoneBefore s c rows place
    → IsFirstPoppable (listed s rows) c (event_at rows place)
first_from s c rows place within poppable none = record {
  event = event_from rows (event_at rows place) within refl;
  poppable = poppable;
  least = λ f is pop. elim (cases_lt f.unit place) [
    | inl before ↦
        let at = event_to rows f is in absurd (none f.unit before (subst (IsPoppable s c) (sym at.cube) pop))
    | inr after ↦ after
  ];
}

-- a poppable event of the rows may stand next in a log
pub legal_at : (s : StackTable) (c : List ℕ) (rows : List (ℕ × Cube)) (place : ℕ) → place < length rows
    → IsPoppable s c (cube_at rows place) → IsLegalAt (listed s rows) c (record_at place (cube_at rows place) c)
legal_at s c rows place within poppable = record {
  event = event_from rows (event_at rows place) within refl;
  poppable = poppable;
  entries = refl;
}
