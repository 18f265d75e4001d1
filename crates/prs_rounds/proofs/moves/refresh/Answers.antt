use Rattle.prs_rounds.proofs.MovesLemmas.{values_moved}
use Rattle.prs_rounds.proofs.moves.refresh.Goals as goal

pub returns : goal.returns
returns g c at are raises =
    values_moved c.args.stacks.now at c.args.cursors.now c.args.variables.now c.deref.result.now
    c.args.values.now.items c.put.new.values.items
    are raises (rw c.deref.ensures.value c.in_ok-now.ensures.read)
    (rw c.deref.ensures.value c.in_ok-now.ensures.len) c.put.ensures
