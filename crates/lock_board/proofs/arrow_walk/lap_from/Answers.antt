use Rattle.std.proofs.Common.{◌≡◌, suc, Some, refl, sym, ap, ◌∙◌, arith}
use Rattle.pop_model.specs.Cycles.{follow}
use Rattle.pop_model.proofs.Following.{follow_next}
use Rattle.confluence_core.specs.CycleTables.{current_head}
use Rattle.confluence_core.proofs.PassedTwice.{back_on_cycle}
use Rattle.lock_board.proofs.arrow_walk.lap_from.Goals as goal

pub returns-in_default-clause-laps : goal.returns-in_default-clause-laps
returns-in_default-clause-laps c =
    let step = current_head c.args.current.now c.args.cursors.now in
    let root = sym c.head.ensures.head ∙ c.in_default.is in
    (suc c.steps.counter, follow_next step c.steps.counter c.args.start c.steps.v c.steps.invariant.leads ∙ root)

pub returns-then-w-start-clause-laps : goal.returns-then-w-start-clause-laps
returns-then-w-start-clause-laps c =
    let t = c.args.current.now in
    let step = current_head t c.args.cursors.now in
    let leads = sym c.head.ensures.head ∙ c.in-Some.is in
    let start = c.args.start in
    let back : follow step (suc c.steps.counter) start ≡ Some start =
    follow_next step c.steps.counter start c.steps.v c.steps.invariant.leads ∙ leads
    ∙ ap (λ u. Some u) c.if-w-start.true in
    back_on_cycle t c.args.cursors.now start (suc c.steps.counter) start back (omega arith) refl
