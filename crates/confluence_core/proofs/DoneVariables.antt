-- Variables that are done. The arrows lead from them to such or to the root, and the cycles through them that occur are
-- noted. A pop leaves that as it is, since it moves no variable that is done: a cycle that it makes occur and
-- that has such a variable would have them alone. When a walk is over, what it met is done too: its last arrow leads to
-- what is done, or closes a cycle that is noted.
use Rattle.std.proofs.Common.{inl, inr, ◌≡◌, ◌≢◌, ℕ, zero, suc, ◌+◌, ◌<◌, true, false, List, [], ◌∷◌, ◌++◌, get_or, Some, refl, sym, ap, subst, ◌∙◌, arith, All, Contains}
use Rattle.std.proofs.lemmas.Bool.{cases_eq}
use Rattle.std.proofs.lemmas.Option.{same_Some}
use Rattle.std.proofs.lemmas.List.Elements.{Contains-get_or, Contains-push, Contains-push_cases, Contains-append_left}
use Rattle.std.proofs.lemmas.List.Quantifiers.{all_pairs_push}
use Rattle.pop_model.specs.Stacks.{value_at, height_of}
use Rattle.pop_model.specs.Popping.{Cube, Occurs, HasNext, names, cursor, pop}
use Rattle.pop_model.specs.Families.{Event}
use Rattle.pop_model.specs.Cycles.{IsCycle, head_of, follow, first_of}
use Rattle.pop_model.proofs.PopLemmas.{cursor-pop_other}
use Rattle.pop_model.proofs.Diamond.{names_it}
use Rattle.pop_model.proofs.Following.{follow_last}
use Rattle.pop_model.proofs.CycleFamily.{first_named, same_cycle, Agree}
use Rattle.pop_model.proofs.TreeEnd.{stays_at, leads_at, occurs_demand}
use Rattle.confluence_core.specs.CycleTables.{CycleTable, current_head}
use Rattle.confluence_core.specs.Walks.{settled, IsSettled, IsMet, AreDone, IsStuckCycle, IsPath, Closes, cycle_event}
use Rattle.confluence_core.proofs.LoopCubes.{cube_occurs}
use Rattle.confluence_core.proofs.PathsLemmas.{on_later, settled_off}
use Rattle.confluence_core.proofs.ClosedLoops.{IsClosed}

-- what holds of a cube by its cursors holds by others that are the same for its variables
by_cursors : (P : ℕ × ℕ → ℕ → Type 0) (c d : List ℕ) (e : Cube)
    → ((v : ℕ) → names e v ≡ true → cursor d v ≡ cursor c v) → All (λ p. P p (cursor c p.0)) e
    → All (λ p. P p (cursor d p.0)) e
by_cursors P c d e same all k p below =
    let pair : ℕ × ℕ = get_or e k p in
    let at = same pair.0 (names_it e pair (Contains-get_or e k p below)) in
    subst (P pair) (sym at) (all k p below)

-- the arrows from what is done stay there
pub done_follow : (t : CycleTable) (c : List ℕ) (Done : ℕ → Type 0)
    → ((v w : ℕ) → Done v → current_head t c v ≡ Some w → Done w)
    → (k v w : ℕ) → Done v → follow (current_head t c) k v ≡ Some w → Done w
done_follow t c Done closed zero v w at leads = subst Done (same_Some v w leads) at
done_follow t c Done closed (suc k) v w at leads =
    let last = follow_last (current_head t c) k v w leads in
    closed last.0 w (done_follow t c Done closed k v last.0 at last.1) last.2

-- so a cycle that occurs and has one such variable has them alone
pub done_cycle : (t : CycleTable) (c : List ℕ) (Done : ℕ → Type 0)
    → ((v w : ℕ) → Done v → current_head t c v ≡ Some w → Done w)
    → (e : Cube) (v w : ℕ) → IsCycle t.heads e → Occurs t.stacks c e → Done v → names e v ≡ true → names e w ≡ true
    → Done w
done_cycle t c Done closed e v w cycle occurs at v_in w_in =
    let leads = leads_at t.heads t.stacks c e v w cycle occurs v_in w_in in
    done_follow t c Done closed leads.0 v w at leads.1

-- the same variables under another name
pub done_same : {t : CycleTable} {c : List ℕ} {Done Other : ℕ → Type 0} {stuck : List Event}
    → ((v : ℕ) → Done v → Other v) → ((v : ℕ) → Other v → Done v) → AreDone t c Done stuck → AreDone t c Other stuck
done_same to from old = record {
  closed = λ v w at leads. to w (old.closed v w (from v at) leads);
  found = λ v e at cycle named occurs. old.found v e (from v at) cycle named occurs;
  are_stuck = λ e has. let is = old.are_stuck e has in
      record { event = is.event; occurs = is.occurs; done = λ v named. to v (is.done v named) };
  differ = old.differ;
}

-- a variable that a pop leaves keeps its arrow
pub arrow_kept : (t : CycleTable) (c : List ℕ) (e : Cube) (v : ℕ) → names e v ≡ false
    → current_head t (pop c e) v ≡ current_head t c v
arrow_kept t c e v other = ap (λ k. head_of t.heads v (value_at t.stacks v k)) (cursor-pop_other c e v other)

-- a pop of a cube that has none of them
module _ {t : CycleTable} {c : List ℕ} {Done : ℕ → Type 0} {stuck : List Event} (e : Cube)
    (off : (v : ℕ) → Done v → names e v ≡ false) (old : AreDone t c Done stuck) where
  -- leaves the cursors of the noted cycles
  noted_kept : (f : Event) → Contains stuck f → (v : ℕ) → names f.cube v ≡ true → cursor (pop c e) v ≡ cursor c v
  noted_kept f has v named = cursor-pop_other c e v (off v ((old.are_stuck f has).done v named))

  popped_closed : (v w : ℕ) → Done v → current_head t (pop c e) v ≡ Some w → Done w
  popped_closed v w at leads = old.closed v w at (sym (arrow_kept t c e v (off v at)) ∙ leads)

  -- leaves the done variables so
  pub done_popped : AreDone t (pop c e) Done stuck
  done_popped = record {
    closed = popped_closed;
    found = λ v f at cycle named occurs.
        old.found v f at cycle named (by_cursors (λ p n. value_at t.stacks p.0 n ≡ p.1) (pop c e) c f
        (λ w w_in. sym (cursor-pop_other c e w (off w
        (done_cycle t (pop c e) Done popped_closed f v w cycle occurs at named w_in)))) occurs);
    are_stuck = λ f has.
        let is = old.are_stuck f has in
        record {
          event = is.event;
          occurs = by_cursors (λ p n. value_at t.stacks p.0 n ≡ p.1) c (pop c e) f.cube (noted_kept f has) is.occurs;
          done = is.done;
        };
    differ = old.differ;
  }

  -- and none of the noted cycles can be popped after it, where none could before
  pub last_popped : ((f : Event) → Contains stuck f → HasNext t.stacks c f.cube → ⊥)
      → (f : Event) → Contains stuck f → HasNext t.stacks (pop c e) f.cube → ⊥
  last_popped last f has next = last f has (by_cursors (λ p n. n + 1 < height_of t.stacks p.0) (pop c e) c f.cube
      (λ v named. sym (noted_kept f has v named)) next)

-- what a walk met that is over
module _ {t : CycleTable} {c marks path : List ℕ} {stuck : List Event} (depth : ℕ)
    (is : IsPath t c marks path (depth + 1)) (old : AreDone t c (IsSettled marks) stuck) where
  -- the arrows stay there, where the last one does
  met_closed : ((w : ℕ) → current_head t c (get_or path depth 0) ≡ Some w → IsMet marks path (depth + 1) w)
      → (v w : ℕ) → IsMet marks path (depth + 1) v → current_head t c v ≡ Some w → IsMet marks path (depth + 1) w
  met_closed ends v w met leads = elim met [
    | inl at ↦ inl (old.closed v w at leads)
    | inr (k, less, at) ↦
        let here : current_head t c (get_or path k 0) ≡ Some w = ap (current_head t c) at ∙ leads in
        elim (cases_eq k depth) [
          | inl last ↦ ends w (ap (λ n. current_head t c (get_or path n 0)) (sym last) ∙ here)
          | inr more ↦
              inr (suc k, omega arith, same_Some (get_or path (suc k) 0) w (sym (is.leads k (omega arith)) ∙ here))
        ]
  ]

  -- and the cycles that were noted are of it
  met_stuck : (e : Event) → Contains stuck e → IsStuckCycle t c (IsMet marks path (depth + 1)) e
  met_stuck e has = let s = old.are_stuck e has in
      record { event = s.event; occurs = s.occurs; done = λ v named. inl (s.done v named) }

  -- the last arrow leads to a settled variable or to the root
  pub done_rests : ((v : ℕ) → current_head t c (get_or path depth 0) ≡ Some v → IsSettled marks v)
      → AreDone t c (IsMet marks path (depth + 1)) stuck
  done_rests rests = record {
    closed = met_closed (λ w leads. inl (rests w leads));
    found = λ v e met cycle named occurs. elim met [
      | inl at ↦ old.found v e at cycle named occurs
      | inr (k, less, at) ↦
          let last = on_later is e cycle occurs k depth (omega arith) (omega arith) (ap (names e) at ∙ named) in
          let on = stays_at t.heads t.stacks c e (get_or path depth 0) cycle occurs last in
          old.found on.next e (rests on.next on.leads) cycle on.named occurs
    ];
    are_stuck = met_stuck;
    differ = old.differ;
  }

  -- the path closes a cycle, which is noted
  pub done_stuck : {place : ℕ} {e : Cube} → depth + 1 < settled → Closes t c marks path depth place
      → IsClosed t c path depth place e → AreDone t c (IsMet marks path (depth + 1)) (stuck ++ cycle_event e ∷ [])
  done_stuck {place = place} {e = e} few closes loop =
      let order = closes.order in
      record {
        closed = met_closed (λ w leads.
            inr (place, omega arith, same_Some (get_or path place 0) w (sym closes.back ∙ leads)));
        found = λ v f met cycle named occurs. elim met [
          | inl at ↦
              Contains-append_left stuck (cycle_event e ∷ []) (cycle_event f) (old.found v f at cycle named occurs)
          | inr (k, less, at) ↦
              let end = on_later is f cycle occurs k depth (omega arith) (omega arith) (ap (names f) at ∙ named) in
              let agree : Agree e f = λ u x y a b.
              sym (occurs_demand t.stacks c e u x (cube_occurs t c _ e loop.cube) a)
              ∙ occurs_demand t.stacks c f u y occurs b in
              let same : e ≡ f = same_cycle t.heads e f loop.cycle cycle agree (get_or path depth 0)
              (loop.on depth order (omega arith)) end in
              subst (λ g. Contains (stuck ++ cycle_event e ∷ []) (cycle_event g)) same
              (Contains-push stuck (cycle_event e))
        ];
        are_stuck = λ f has. elim (Contains-push_cases stuck (cycle_event e) f has) [
          | inl before ↦ met_stuck f before
          | inr this ↦ subst (IsStuckCycle t c (IsMet marks path (depth + 1))) this (record {
            event = (loop.cycle, refl);
            occurs = cube_occurs t c _ e loop.cube;
            done = λ v named.
                let there = loop.on_only v named in
                let below = there.2 in
                inr (there.0, omega arith, there.3);
          })
        ];
        differ = all_pairs_push (λ (f g : Event). f.unit ≢ g.unit) stuck (cycle_event e) old.differ (λ k d less same.
            let f : Event = get_or stuck k d in
            let s = old.are_stuck f (Contains-get_or stuck k d less) in
            let at = s.done (first_of f.cube) (first_named f.cube s.event.0.cube) in
            let there = loop.on_only (first_of e) (first_named e loop.cycle.cube) in
            let below = there.2 in
            settled_off is (first_of f.cube) few at there.0 (omega arith) (there.3 ∙ sym same ∙ s.event.1));
      }
