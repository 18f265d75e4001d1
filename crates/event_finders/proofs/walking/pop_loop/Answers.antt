use Rattle.std.proofs.Common.{ℕ, subst, sym, ap, ◌∙◌}
use Rattle.claim_words.specs.Maps.{In}
use Rattle.claim_words.specs.Conditions.{CanPop}
use Rattle.claim_words.specs.Steps.{popped_by}
use Rattle.claim_words.specs.Tells.{SoleKnows}
use Rattle.claim_words.specs.declared.view.View.{View}
use Rattle.claim_words.specs.Passes.{view, instance_of}
use Rattle.event_finders.proofs.LoopCursors.{back_to}
use Rattle.event_finders.proofs.LoopPops.{can, popped}
use Rattle.event_finders.proofs.walking.pop_loop.Goals as goal

pub loop_cube-requires-clause-back : goal.loop_cube-requires-clause-back
loop_cube-requires-clause-back c = back_to c.requires.walking _ c.requires.place c.requires.closes

pub returns-in-Err-clause-sole : goal.returns-in-Err-clause-sole
returns-in-Err-clause-sole c = subst SoleKnows (sym c.reserve.ensures.view) c.requires.walking.sole

pub pop-ticket-requires-clause-poppable : goal.pop-ticket-requires-clause-poppable
pop-ticket-requires-clause-poppable c =
    let back = back_to c.requires.walking _ c.requires.place c.requires.closes in
    let p : ℕ × ℕ = c.pair-unit.result in
    subst (λ (v : View). CanPop (instance_of c.args.board.now) v p.0 c.in_ok-cube.cube) (sym c.reserve.ensures.view)
    (can back c.in_ok-cube.cube c.in_ok-cube.ensures.cube p.0 p.1 c.pair-unit.ensures)

pub returns-clause-popped : goal.returns-clause-popped
returns-clause-popped c =
    let back = back_to c.requires.walking _ c.requires.place c.requires.closes in
    let p : ℕ × ℕ = c.pair-unit.result in
    let ticket : ℕ = c.pop-ticket.result in
    let to = c.pop-ticket.ensures.step
    ∙ ap (λ (v : View). popped_by v p.0 c.in_ok-cube.cube ticket) c.reserve.ensures.view in
    popped back c.in_ok-cube.cube c.in_ok-cube.ensures.cube (view c.pop-ticket.new.pass) p.0 p.1 ticket
    c.pair-unit.ensures to c.requires.pass.0.1
    (λ q i. c.pop-ticket.ensures.newer q (subst (λ (v : View). In q v.mine) (sym c.reserve.ensures.view) i))
