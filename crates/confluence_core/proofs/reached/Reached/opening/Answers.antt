use Rattle.std.proofs.Common.{replicate, ap, ◌∙◌}
use Rattle.std.specs.List.{range_with_len}
use Rattle.pop_model.specs.Stacks.{variables_of}
use Rattle.confluence_core.proofs.Reaching.{reached_opening}
use Rattle.confluence_core.proofs.reached.Reached.opening.Goals as goal

pub returns-clause-reached : goal.returns-clause-reached
returns-clause-reached c =
    rw c.at.ensures (reached_opening c.args.instance.now _ _ _ c.units.ensures.instance
    (c.in_ok-zeros.ensures ∙ ap (λ n. replicate n 0) (c.count.ensures.count ∙ ap variables_of c.stacks.ensures))
    (c.in_ok-suspects.ensures ∙ ap (range_with_len 0) c.units.ensures.units))
