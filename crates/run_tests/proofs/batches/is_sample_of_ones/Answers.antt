use Rattle.std.proofs.Common.{sym, ap, subst, ◌∙◌}
use Rattle.pop_model.specs.Stacks.{stacks_for}
use Rattle.confluence_core.specs.Runs.{IsEndOver}
use Rattle.run_tests.proofs.batches.is_sample_of_ones.Goals as goal

pub are_first_ones-requires : goal.are_first_ones-requires
are_first_ones-requires g c =
    let own = (rw c.expect-own.ensures at c.for_sample.ensures) ∙ ap (stacks_for c.args.j) c.stacks.ensures in
    let end = c.requires.ends.1.each c.args.j c.at-end.result.now c.at-end.ensures in
    record { over = subst (λ s. IsEndOver s c.at-end.result.now) (sym own) end.over }
