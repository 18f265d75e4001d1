use Rattle.std.proofs.Common.{ap, ◌∙◌}
use Rattle.std.specs.List.{range_with_len}
use Rattle.confluence_core.proofs.Reaching.{reached_starting}
use Rattle.confluence_core.proofs.reached.Reached.starting.Goals as goal

pub returns-clause-reached : goal.returns-clause-reached
returns-clause-reached c =
    rw c.at.ensures (reached_starting c.args.instance.now _ c.args.from _ c.requires.count c.requires.within
    (c.in_ok-suspects.ensures ∙ ap (range_with_len 0) c.units.ensures.units))
