-- The stuck list grows unit by unit.
use Rattle.std.proofs.Common.{inl, inr, ◌≡◌, ℕ, ◌+◌, ◌<◌, List, [], ◌∷◌, ◌++◌, length, map, get_or, refl, sym, ap, ap₂, subst, ◌∙◌, arith, Contains}
use Rattle.std.specs.List.Sorted.{IsStrictlyIncreasing}
use Rattle.std.proofs.lemmas.List.{map_push}
use Rattle.std.proofs.lemmas.List.Elements.{All-map, Contains-get_or, Contains-push, Contains-push_cases, Contains-append_left}
use Rattle.std.proofs.lemmas.Bool.{cases_eq}
use Rattle.pop_model.specs.Stacks.{StackTable}
use Rattle.pop_model.specs.Popping.{Cube, Occurs}
use Rattle.pop_model.specs.Families.{Event, IsEvent}
use Rattle.pop_model.specs.Families.Family.{Listed}
use Rattle.pop_model.specs.Instances.{Instance, FamilyFits}
use Rattle.pop_model.specs.Runs.{IsStuckList}
use Rattle.pop_instance.specs.Events.{cube_at}
use Rattle.pop_instance.proofs.Increasing.{increasing_push}
use Rattle.confluence_core.specs.Search.{IsStuckBelow, AllHaveNext}
use Rattle.confluence_core.specs.Stuck.{event_of}
use Rattle.confluence_core.specs.Stretches.{CanGoOn}
use Rattle.confluence_core.specs.declared.reached.Reached.{Reached}
use Rattle.confluence_core.proofs.EventVariables.{event_known}
use Rattle.confluence_core.proofs.Places.{listed, event_at, event_from, event_to}
use Rattle.confluence_core.proofs.Reaching.{unsuspected_end}

module _ {s : StackTable} {c : List ℕ} {rows : List (ℕ × Cube)} {n : ℕ} {stuck : List Event}
    (old : IsStuckBelow s c rows n stuck) where
  -- what occurs below a unit occurs below the next
  later : (e : Event) → Contains stuck e → (e.unit < n + 1) × IsEvent (Listed rows) e × Occurs s c e.cube
  later e has = let is = (old.exact e).0 has in (omega (arith, is.0), is.1, is.2)

  -- the event at the next place occurs
  pub stuck_more : n < length rows → Occurs s c (cube_at rows n)
      → IsStuckBelow s c rows (n + 1) (stuck ++ event_at rows n ∷ [])
  stuck_more within occurs = record {
    rising = subst IsStrictlyIncreasing (sym (map_push (λ (e : Event). e.unit) stuck (event_at rows n)))
        (increasing_push (map (λ (e : Event). e.unit) stuck) n old.rising
        (All-map (λ x. x < n) (λ (e : Event). e.unit) stuck (λ k d less.
        ((old.exact (get_or stuck k d)).0 (Contains-get_or stuck k d less)).0)));
    exact = λ e. (
      λ has. elim (Contains-push_cases stuck (event_at rows n) e has) [
        | inl before ↦ later e before
        | inr is ↦ subst (λ (f : Event). (f.unit < n + 1) × IsEvent (Listed rows) f × Occurs s c f.cube) is
            (omega arith, event_from rows (event_at rows n) within refl, occurs)
      ],
      λ (below, is, occurs). elim (cases_eq e.unit n) [
        | inl last ↦
            let cube : cube_at rows n ≡ e.cube = ap (cube_at rows) (sym last) ∙ (event_to rows e is).cube in
            let same : event_at rows n ≡ e = ap₂ (λ u x. event_of (u, x)) (sym last) cube in
            subst (λ x. Contains (stuck ++ event_at rows n ∷ []) x) same (Contains-push stuck (event_at rows n))
        | inr other ↦
            Contains-append_left stuck (event_at rows n ∷ []) e ((old.exact e).1 (omega (arith, below, other), is, occurs))
      ],
    );
  }

  -- the event at the next place doesn't occur
  pub stuck_same : (Occurs s c (cube_at rows n) → ⊥) → IsStuckBelow s c rows (n + 1) stuck
  stuck_same none = record {
    rising = old.rising;
    exact = λ e. (
      later e,
      λ (below, is, occurs). elim (cases_eq e.unit n) [
        | inl last ↦
            let cube : cube_at rows n ≡ e.cube = ap (cube_at rows) (sym last) ∙ (event_to rows e is).cube in
            absurd (none (subst (Occurs s c) (sym cube) occurs))
        | inr other ↦ (old.exact e).1 (omega (arith, below, other), is, occurs)
      ],
    );
  }

-- the events below all units are the stuck list
pub stuck_list : {s : StackTable} {c : List ℕ} {rows : List (ℕ × Cube)} {n : ℕ} {stuck : List Event} → n ≡ length rows
    → IsStuckBelow s c rows n stuck → IsStuckList (listed s rows) c stuck
stuck_list {rows = rows} all h = record {
  rising = h.rising;
  exact = λ e. (
    λ has. let is = (h.exact e).0 has in (is.1, is.2),
    λ (is, occurs).
        let within = (event_to rows e is).within in (h.exact e).1 (omega (arith, within, all), is, occurs),
  );
}

-- where a run has come to an end and each variable has a next entry, no event occurs
pub none_stuck : (i : Instance) (reached : Reached) → FamilyFits i.stacks i.family → CanGoOn i reached
    → reached.suspects ≡ [] → AllHaveNext i.stacks reached.cursors → IsStuckList i reached.cursors []
none_stuck i reached fits can unsuspected next = record {
  rising = λ k h. absurd (omega arith);
  exact = λ e. (λ (k, inside, is). absurd (omega (arith, inside)), λ (is, occurs). absurd (none e is occurs));
}
  where
    none : (e : Event) → IsEvent i.family e → Occurs i.stacks reached.cursors e.cube → ⊥
    none e is occurs =
        let known = event_known i e reached.cursors fits is can.count in
        unsuspected_end i reached.cursors reached.suspects unsuspected can.suspects e is (record {
          occurs = occurs;
          next = λ k p less. next _ (omega (arith, known k p less, can.count));
        })
