use Rattle.std.proofs.Common.{sym, ap, subst}
use Rattle.pop_model.specs.Instances.{Instance}
use Rattle.confluence_core.specs.Runs.{IsEndOver}
use Rattle.run_tests.proofs.batches.is_that_of_first.Goals as goal

pub ends_as_first-requires : goal.ends_as_first-requires
ends_as_first-requires g c =
    let stacks = ap (λ (i : Instance). i.stacks) (rw c.expect-sample.ensures at c.for_sample.ensures) in
    let end = c.requires.ends.1.each c.args.j c.at-end.result.now c.at-end.ensures in
    subst (λ s. IsEndOver s c.at-end.result.now) (sym stacks) end.over
