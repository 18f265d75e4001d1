use Rattle.std.proofs.Common.{sym, ap, subst, ◌∙◌}
use Rattle.std.proofs.lemmas.Result.{IfOk-weaker}
use Rattle.pop_model.specs.Instances.{Instance, IsInstance}
use Rattle.confluence_core.specs.Kept.{keeps_log}
use Rattle.confluence_core.specs.Stretches.{IsReached}
use Rattle.confluence_core.specs.declared.reached.Reached.{Reached}
use Rattle.confluence_core.proofs.Reaching.{come_can}
use Rattle.claim_words.specs.Passes.{keep_of, opening_of}
use Rattle.pop_workers.proofs.ClosedBoards.{closed_reached, tickets_numbered}
use Rattle.pop_workers.proofs.makers.Makers.claim.Goals as goal

pub start-requires-clause-count : goal.start-requires-clause-count
start-requires-clause-count g c = sym (come_can c.args.instance.now c.args.reached.now c.requires.reached).count

pub start-requires-clause-within : goal.start-requires-clause-within
start-requires-clause-within g c = (come_can c.args.instance.now c.args.reached.now c.requires.reached).within

pub left_by-requires : goal.left_by-requires
left_by-requires g c = record {
  numbered = tickets_numbered c.in_ok-board.board c.work_on.new.pass c.in-Ok.closed c.in-Ok.ensures.closed
      c.in-Ok.ensures.log;
}

-- the board is one of the instance, opens where the run has come, and keeps tickets where the run keeps a log
pub returns-in-Ok-clause-more : goal.returns-in-Ok-clause-more
returns-in-Ok-clause-more g c =
    let opened = c.in_ok-board.ensures in
    let start = (opening_of c.in_ok-board.board).start.value in
    let keeps = keeps_log (keep_of c.in_ok-board.board) in
    IfOk-weaker c.left_by.result _ _ (λ (more : Reached) left.
    let reached = closed_reached c.in_ok-board.board c.work_on.new.pass c.in-Ok.closed c.in-Ok.ensures.closed
    c.in-Ok.ensures.log more c.in-Ok.ensures.left c.in-Ok.ensures.count
    (subst IsInstance (sym opened.instance) c.units-units.ensures.instance) left in
    subst (λ k. IsReached c.args.instance.now c.args.reached.now.cursors k more)
    (ap keeps_log opened.keep ∙ c.keep-keep.ensures)
    (subst (λ at. IsReached c.args.instance.now at keeps more) opened.start
    (subst (λ (i : Instance). IsReached i start keeps more) opened.instance reached))) c.left_by.ensures
