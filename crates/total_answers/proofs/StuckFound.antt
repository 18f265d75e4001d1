-- At any cursors the events that occur are listed by their units, of which each has one at most; and it is found
-- whether one is poppable. So a run goes on to an end.
use Rattle.std.proofs.Common.{inl, inr, ◌≡◌, ℕ, ◌<◌, List, length, refl, sym, ap, ap₂, subst, ◌∙◌, arith}
use Rattle.std.proofs.lemmas.Bool.{cases_Bool, cases_lt, false≢true}
use Rattle.pop_model.specs.Stacks.{StackTable, variables_of}
use Rattle.pop_model.specs.Popping.{Cube, Occurs}
use Rattle.pop_model.specs.Cycles.{first_of}
use Rattle.pop_model.specs.Families.{Event, Family, IsEvent, IsFamily, units_of}
use Rattle.pop_model.specs.Families.Family.{Listed, Cycles}
use Rattle.pop_model.specs.Instances.{Instance, FamilyFits}
use Rattle.pop_model.specs.Runs.{IsStuckList}
use Rattle.pop_model.proofs.CycleFamily.{first_named}
use Rattle.pop_instance.specs.Events.{cube_at}
use Rattle.confluence_core.specs.CycleTables.{CycleTable}
use Rattle.confluence_core.proofs.CycleVariables.{cycle_below}
use Rattle.confluence_core.proofs.LeastCycles.{one_cycle}
use Rattle.confluence_core.proofs.Places.{event_at, event_from, event_to}
use Rattle.prs_rounds.proofs.StuckEvents.{occurs_test, test_occurs, occurs_tested}
use Rattle.pop_samples.proofs.Ending.{Ends, Found, found_listed, run_to_end}
use Rattle.pop_samples.proofs.FoundCycles.{found_cycles}
use Rattle.total_answers.proofs.CyclesAt.{cycle_at}
use Rattle.total_answers.proofs.Deciding.{Finds}
use Rattle.total_answers.proofs.Numbered.{listed}

-- the instance of these parts
abbrev pub over : StackTable → Family → Instance
over s family = record { stacks = s; family = family }

-- an event of the family that occurs
abbrev pub OccursAt : StackTable → Family → List ℕ → Event → Type 0
OccursAt s family c e = IsEvent family e × Occurs s c e.cube

-- an event of these parts
abbrev made : ℕ → Cube → Event
made u e = record { unit = u; cube = e }

-- two of one unit are one
one_at_unit : (s : StackTable) (family : Family) (c : List ℕ) (e f : Event) → OccursAt s family c e
    → OccursAt s family c f → e.unit ≡ f.unit → e ≡ f
one_at_unit s (Listed rows) c e f (is, occurs) (is', occurs') same =
    ap₂ made same (sym (event_to rows e is).cube ∙ ap (cube_at rows) same ∙ (event_to rows f is').cube)
one_at_unit s (Cycles heads) c e f (is, occurs) (is', occurs') same =
    let t : CycleTable = record { stacks = s; heads = heads } in
    ap₂ made same (one_cycle t c e.cube f.cube is.0 is'.0 occurs occurs' (sym is.1 ∙ same ∙ is'.1))

-- it is found whether one of this unit occurs
at_unit : (s : StackTable) (family : Family) (c : List ℕ) (u : ℕ)
    → Finds (λ (e : Event). OccursAt s family c e × (e.unit ≡ u))
at_unit s (Listed rows) c u = elim (cases_lt u (length rows)) [
  | inr past ↦ inr (λ e ((is, occurs), at). let within = (event_to rows e is).within in omega (arith, within, at, past))
  | inl within ↦ elim (cases_Bool (occurs_test s c (cube_at rows u))) [
    | inl passes ↦ inl (
      event_at rows u,
      ((event_from rows (event_at rows u) within refl, test_occurs s c (cube_at rows u) passes), refl),
    )
    | inr fails ↦ inr (λ e ((is, occurs), at).
        let cube : e.cube ≡ cube_at rows u = sym (event_to rows e is).cube ∙ ap (cube_at rows) at in
        false≢true (sym fails ∙ occurs_tested s c (cube_at rows u) (subst (Occurs s c) cube occurs)))
  ]
]
at_unit s (Cycles heads) c u = elim (cycle_at s heads c u) [
  | inl (e, ((is, occurs), first)) ↦ inl (made u e, (((is, sym first), occurs), refl))
  | inr none ↦ inr (λ e ((is, occurs), at). none e.cube ((is.0, occurs), sym is.1 ∙ at))
]

-- the units are those of the family
unit_below : (family : Family) (e : Event) → IsEvent family e → e.unit < units_of family
unit_below (Listed rows) e is = (event_to rows e is).within
unit_below (Cycles heads) e (is, at) =
    let less = cycle_below heads e.cube (first_of e.cube) is (first_named e.cube is.cube) in omega (arith, less, at)

-- so the events that occur are listed
stuck_over : (s : StackTable) (family : Family) (c : List ℕ)
    → (stuck : List Event) × IsStuckList (over s family) c stuck
stuck_over s family c =
    let key : Event → ℕ = λ e. e.unit in
    let all = listed key (OccursAt s family c) (one_at_unit s family c) (at_unit s family c) (units_of family) in (
      all.0,
      record {
        rising = all.1.rising;
        exact = λ e. (λ has. ((all.1.exact e).0 has).0, λ is. (all.1.exact e).1 (is, unit_below family e is.0));
      },
    )

pub stuck_found : (i : Instance) (c : List ℕ) → (stuck : List Event) × IsStuckList i c stuck
stuck_found i c = stuck_over i.stacks i.family c

-- a poppable event is found, or none is
found_over : (s : StackTable) (family : Family) → IsFamily family → (c : List ℕ) → Found (over s family) c
found_over s (Listed rows) are c = found_listed s rows c
found_over s (Cycles heads) are c = found_cycles s heads are c

pub poppable_found : (i : Instance) → IsFamily i.family → (c : List ℕ) → Found i c
poppable_found i are c = found_over i.stacks i.family are c

-- so a legal log leads from any cursors to an end
pub runs_out : (i : Instance) → IsFamily i.family → FamilyFits i.stacks i.family → (c : List ℕ)
    → length c ≡ variables_of i.stacks → Ends i c
runs_out i are fits c size = run_to_end i are fits (poppable_found i are) c size
