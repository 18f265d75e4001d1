use Rattle.std.proofs.Common.{List, ℕ, false, subst, ltb-true}
use Rattle.confluence_core.specs.Stretches.{IsReached, before_pops}
use Rattle.confluence_core.proofs.Reaching.{goes_then}
use Rattle.pop_batch.proofs.StoppedRuns.{open_by_pop}
use Rattle.pop_batch.proofs.stopping.can_pop.Goals as goal

pub returns-clause-poppable : goal.returns-clause-poppable
returns-clause-poppable c =
    let i = c.args.sample.now in
    let left = c.in_ok-left.left in
    let whole : IsReached i c.in_ok-copy.copy false left =
    goes_then i (before_pops c.in_ok-copy.copy false) c.in_ok-begun.begun left c.in_ok-begun.ensures.reached
    c.in_ok-left.ensures.on in
    λ some. open_by_pop i c.args.cursors.now left
    (subst (λ (at : List ℕ). IsReached i at false left) c.in_ok-copy.ensures whole) (ltb-true 0 left.pops some)
