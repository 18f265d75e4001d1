use Rattle.std.proofs.Common.{length, ap, ◌∙◌}
use Rattle.std.specs.List.{range_with_len}
use Rattle.confluence_core.proofs.Suspects.{all_known}
use Rattle.prs_rounds.proofs.ShownLemmas.{values_of_all}
use Rattle.prs_rounds.proofs.sight.all_values.Goals as goal

pub read-requires-clause-known : goal.read-requires-clause-known
read-requires-clause-known g c =
    all_known (length c.args.cursors.now) c.deref.result.now
    (c.deref.ensures.value ∙ c.in_ok-variables.ensures ∙ ap (range_with_len 0) (c.count.ensures.count
    ∙ c.requires.count))

pub returns : goal.returns
returns g c =
    values_of_all c.args.stacks.now c.args.cursors.now c.deref.result.now c.in_ok-values.values.items
    (c.deref.ensures.value ∙ c.in_ok-variables.ensures ∙ ap (range_with_len 0) (c.count.ensures.count
    ∙ c.requires.count))
    c.in_ok-values.ensures.len c.in_ok-values.ensures.read
