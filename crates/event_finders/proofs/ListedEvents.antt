-- The event of a unit of a listed family: which variables it names.
use Rattle.std.proofs.Common.{◌≡◌, ℕ, ◌<◌, List, length, Option, Some, sym, subst}
use Rattle.pop_model.specs.Stacks.{variables_of}
use Rattle.pop_model.specs.Popping.{Cube, NamesBelow}
use Rattle.pop_model.specs.Families.{Family, IsEvent, units_of}
use Rattle.pop_model.specs.Families.Family.{Listed}
use Rattle.pop_model.specs.Instances.{Instance}
use Rattle.pop_model.proofs.Members.{all_at}
use Rattle.pop_instance.specs.Events.{cube_at}
use Rattle.confluence_core.proofs.Places.{event_from}
use Rattle.claim_words.specs.declared.view.View.{View}
use Rattle.claim_words.specs.declared.opening.Opening.{Opening}
use Rattle.claim_words.specs.Openings.{count_in}
use Rattle.event_finders.specs.UnitConditions.{Indexes, IsListedEvent}

-- the event names variables that the board has
pub below_count : (k : Opening) (i : Instance) (d : View) (u : ℕ) (cube : Cube) → k.instance.value ≡ i
    → d.opening ≡ Some k → IsListedEvent i u cube → NamesBelow cube (count_in d.opening)
below_count k i d u cube same live event = subst (λ (o : Option Opening). NamesBelow cube (count_in o)) (sym live)
    (subst (λ (x : Instance). NamesBelow cube (variables_of x.stacks)) (sym same) event.below)

-- and those that the index has
pub below_index : {i : Instance} {index : List (List ℕ)} {u : ℕ} {cube : Cube} → Indexes i index
    → IsListedEvent i u cube → NamesBelow cube (length index)
below_index {index = index} {u = u} {cube = cube} indexes event =
    let rows : List (ℕ × Cube) = indexes.0 in
    let listed : IsEvent (Listed rows) (record { unit = u; cube = cube }) =
    subst (λ (f : Family). IsEvent f (record { unit = u; cube = cube })) indexes.1 event.event in
    all_at (λ (r : ℕ × Cube). NamesBelow r.1 (length index)) rows u (listed.0, cube) listed.1 indexes.2.below

-- the cube at a place of a listed family is that of its unit's event
pub unit_event : (i : Instance) (rows : List (ℕ × Cube)) (u : ℕ) (cube : Cube) → i.family ≡ Listed rows
    → u < units_of i.family → cube ≡ cube_at rows u → IsEvent i.family (record { unit = u; cube = cube })
unit_event i rows u cube family known at =
    let within : u < length rows = subst (λ (f : Family). u < units_of f) family known in
    subst (λ (f : Family). IsEvent f (record { unit = u; cube = cube })) (sym family)
    (event_from rows (record { unit = u; cube = cube }) within (sym at))
