-- What is found from a unit. A listed event stands at its place. Current arrows that come to a cycle that occurs stay on
-- it, so they come to no root and to no other cycle; and where they come to no root, they come to a cycle.
use Rattle.std.proofs.Common.{inl, inr, ◌≡◌, ◌↔◌, ℕ, ◌+◌, ◌<◌, true, List, length, Some, refl, sym, ap, ap₂, ◌∙◌, arith}
use Rattle.std.proofs.lemmas.Option.{none-some, same_Some}
use Rattle.pop_model.specs.Stacks.{StackTable}
use Rattle.pop_model.specs.Popping.{Cube, Occurs, names}
use Rattle.pop_model.specs.Cycles.{IsCycle, ReachesRoot, arrow_at, follow, first_of}
use Rattle.pop_model.specs.Families.{Event, Family, IsEvent, IsFamily, units_of}
use Rattle.pop_model.specs.Families.Family.{Listed, Cycles}
use Rattle.pop_model.specs.Instances.{Instance, IsInstance}
use Rattle.pop_model.proofs.Diamond.{named, occur_together}
use Rattle.pop_model.proofs.UniqueEnd.{same_event}
use Rattle.pop_model.proofs.Following.{cases_Option, follow_more, follow_none}
use Rattle.pop_model.proofs.CycleFamily.{Heads, cycles_extremal}
use Rattle.pop_model.proofs.TreeEnd.{follows_in, never_root}
use Rattle.confluence_core.specs.CycleTables.{CycleTable}
use Rattle.confluence_core.specs.ArrowWalks.{LeadsInto}
use Rattle.confluence_core.proofs.PassedTwice.{long_on_cycle}
use Rattle.lock_board.specs.Attempts.{IsFoundFrom, IsEventFrom, HasNoneAt}

-- where more steps lead from the unit, once they are on the cycle
record StaysOn (heads : Heads) (s : StackTable) (c : List ℕ) (unit n : ℕ) (e : Cube) : Type 0 where
  at : ℕ
  leads : follow (arrow_at heads s c) n unit ≡ Some at
  on : names e at ≡ true

-- current arrows that came to a cycle that occurs stay on it
stays_on : (heads : Heads) (s : StackTable) (c : List ℕ) (unit j : ℕ) (e : Cube) → IsCycle heads e → Occurs s c e
    → (into : LeadsInto heads s c unit e) → StaysOn heads s c unit (into.0 + j) e
stays_on heads s c unit j e cycle occurs into =
    let next = never_root heads s c e into.1 j cycle occurs into.3 in
    record {
      at = next.0;
      leads = follow_more (arrow_at heads s c) into.0 j unit into.1 into.2 ∙ next.1;
      on = follows_in heads s c e into.1 j next.0 cycle occurs into.3 next.1;
    }

-- so they don't come to the root
no_root : (heads : Heads) (s : StackTable) (c : List ℕ) (unit : ℕ) (e : Cube) → IsCycle heads e → Occurs s c e
    → LeadsInto heads s c unit e → ReachesRoot (arrow_at heads s c) unit → ⊥
no_root heads s c unit e cycle occurs into root =
    let on = stays_on heads s c unit root.0 e cycle occurs into in
    let swap : root.0 + into.0 ≡ into.0 + root.0 = omega arith in
    let none = follow_none (arrow_at heads s c) root.0 into.0 unit root.1 in
    none-some on.at (sym none ∙ ap (λ n. follow (arrow_at heads s c) n unit) swap ∙ on.leads)

-- a unit of a family has none exactly where no event that is found from there occurs
none_in : (family : Family) (s : StackTable) → IsFamily family → (c : List ℕ) (unit : ℕ) → unit < units_of family
    → HasNoneAt family s c unit
    ↔ ((e : Event) → IsEvent family e → IsFoundFrom family s c unit e → Occurs s c e.cube → ⊥)
none_in (Listed rows) s are c unit below = (λ none. none, λ none. none)
none_in (Cycles heads) s are c unit below = (
  λ root e event found occurs. no_root heads s c unit e.cube event.0 occurs found.1 root,
  λ none. elim (cases_Option (follow (arrow_at heads s c) (length heads) unit)) [
    | inl root ↦ (length heads, root)
    | inr on ↦
        let t : CycleTable = record { stacks = s; heads = heads } in
        let cycle = long_on_cycle t c unit (length heads) on.0 on.1 are below refl in
        let e : Event = record { unit = first_of cycle.cube; cube = cycle.cube } in
        absurd (none e (cycle.cycle, refl) (cycle.occurs, (length heads, on.0, on.1, cycle.named)) cycle.occurs)
  ],
)

-- a unit has none exactly where no event that is found from there occurs
pub none_at : (i : Instance) → IsInstance i → (c : List ℕ) (unit : ℕ) → unit < units_of i.family
    → HasNoneAt i.family i.stacks c unit
    ↔ ((e : Event) → IsEventFrom i c unit e → Occurs i.stacks c e.cube → ⊥)
none_at i instance c unit below =
    let both = none_in i.family i.stacks instance.family c unit below in (
      λ none e from occurs. both.0 none e from.event from.found occurs,
      λ none. both.1 (λ e event found occurs. none e (record { event = event; found = found }) occurs),
    )

-- cycles that occur and are found from one variable are one
one_cycle : (heads : Heads) (s : StackTable) (c : List ℕ) (unit : ℕ) (e f : Event) → IsEvent (Cycles heads) e
    → IsEvent (Cycles heads) f → IsFoundFrom (Cycles heads) s c unit e → IsFoundFrom (Cycles heads) s c unit f → e ≡ f
one_cycle heads s c unit e f is_e is_f from_e from_f = elim (same_event e f) [
  | inl same ↦ same
  | inr differ ↦
      let on_e = stays_on heads s c unit from_f.1.0 e.cube is_e.0 from_e.0 from_e.1 in
      let on_f = stays_on heads s c unit from_e.1.0 f.cube is_f.0 from_f.0 from_f.1 in
      let swap : from_e.1.0 + from_f.1.0 ≡ from_f.1.0 + from_e.1.0 = omega arith in
      let same : on_f.at ≡ on_e.at = same_Some on_f.at on_e.at
      (sym on_f.leads ∙ ap (λ n. follow (arrow_at heads s c) n unit) (sym swap) ∙ on_e.leads) in
      let x = named e.cube on_e.at on_e.on in
      let y = named f.cube on_e.at (ap (names f.cube) (sym same) ∙ on_f.on) in
      absurd (occur_together s c e.cube f.cube from_e.0 from_f.0
      (cycles_extremal heads e f is_e is_f differ (on_e.at, x.0, y.0, x.1, y.1)))
]

-- at most one event of a family is found from a unit
one_in : (family : Family) (s : StackTable) (c : List ℕ) (unit : ℕ) (e f : Event) → IsEvent family e
    → IsEvent family f → IsFoundFrom family s c unit e → IsFoundFrom family s c unit f → e ≡ f
one_in (Listed rows) s c unit e f is_e is_f from_e from_f =
    let same : e.unit ≡ f.unit = from_e ∙ sym from_f in
    let at : ◌≡◌ {A = ℕ × Cube} (is_e.0, e.cube) (is_f.0, f.cube) =
    cc in
    ap₂ (λ (u : ℕ) (r : ℕ × Cube). record { unit = u; cube = r.1 }) same at
one_in (Cycles heads) s c unit e f is_e is_f from_e from_f =
    one_cycle heads s c unit e f is_e is_f from_e from_f

-- at most one event is found from a unit
pub one_found : (i : Instance) (c : List ℕ) (unit : ℕ) (e f : Event) → IsEventFrom i c unit e
    → IsEventFrom i c unit f → e ≡ f
one_found i c unit e f from_e from_f =
    one_in i.family i.stacks c unit e f from_e.event from_f.event from_e.found from_f.found
