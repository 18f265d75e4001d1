use Rattle.std.proofs.Common.{◌≡◌, ◌<◌, ◌+◌, ◌++◌, ◌∷◌, [], ℕ, refl, sym, ap, subst, ◌∙◌, arith, length}
use Rattle.std.proofs.lemmas.Bool.{false≢true}
use Rattle.pop_model.specs.Popping.{Cube, Occurs}
use Rattle.pop_instance.specs.Events.{cube_at}
use Rattle.confluence_core.specs.Stuck.{event_of}
use Rattle.confluence_core.specs.Search.{IsStuckBelow}
use Rattle.confluence_core.proofs.Places.{event_at}
use Rattle.confluence_core.proofs.StuckLists.{stuck_more, stuck_same, stuck_list}
use Rattle.confluence_core.proofs.listed_search.occurring_listed.Goals as goal
use Rattle.confluence_core.proofs.listed_search.occurring_listed.Goals.{then-occurs+in_ok-copy+in_ok-push, else-occurs}

pub loop-unit-preserved : goal.loop-unit-preserved
loop-unit-preserved c =
    let s = c.args.stacks.now in
    let at = c.args.cursors.now in
    let rows = c.args.events.now in
    let n : ℕ = c.loop-unit.unit in
    let old = c.loop-unit.invariant in
    let within : n < length rows = omega (arith, c.count-unit-end.ensures.count, c.loop-unit-test.true) in
    elim c.if-occurs.branch [
      | then-occurs+in_ok-copy+in_ok-push w ↦
          let occurs : Occurs s at (cube_at rows n) =
          subst (Occurs s at) c.cube-cube.ensures (w.if-occurs.ensures.occurs.0 refl) in
          let cube : w.in_ok-copy.field-0 ≡ cube_at rows n = w.in_ok-copy.ensures ∙ c.cube-cube.ensures in
          let is : c.if-occurs.stuck ≡ c.loop-unit.stuck ++ event_at rows n ∷ [] =
          w.stuck-is ∙ w.in_ok-push.ensures.pushed
          ∙ ap (λ (e : Cube). c.loop-unit.stuck ++ event_of (n, e) ∷ []) cube in
          record {
            stuck = subst (IsStuckBelow s at rows (n + 1)) (sym is)
                (stuck_more old.stuck within occurs);
            reader = w.if-occurs.ensures.reader ∙ old.reader;
          }
      | else-occurs w ↦
          let none : Occurs s at (cube_at rows n) → ⊥ =
          λ h. false≢true (w.if-occurs.ensures.occurs.1 (subst (Occurs s at) (sym c.cube-cube.ensures) h)) in
          record {
            stuck = subst (IsStuckBelow s at rows (n + 1)) (sym w.stuck-is)
                (stuck_same old.stuck none);
            reader = w.if-occurs.ensures.reader ∙ old.reader;
          }
    ]

pub returns-clause-stuck_list : goal.returns-clause-stuck_list
returns-clause-stuck_list c =
    stuck_list (omega (arith, c.count-unit-end.ensures.count, c.loop-unit-test.false)) c.loop-unit.invariant.stuck
