use Rattle.std.proofs.Common.{length, ap, ◌∙◌}
use Rattle.std.specs.List.{range_with_len}
use Rattle.confluence_core.proofs.Suspects.{all_known}
use Rattle.prs_rounds.specs.Values.{shown_among}
use Rattle.prs_rounds.proofs.sight.all_shown.Goals as goal

pub occurring-requires-clause-known : goal.occurring-requires-clause-known
occurring-requires-clause-known g c =
    all_known (length c.args.events.now) c.deref.result.now
    (c.deref.ensures.value ∙ c.in_ok-places.ensures ∙ ap (range_with_len 0) c.count.ensures.count)

pub returns : goal.returns
returns g c =
    c.in_ok-found.ensures ∙ ap (shown_among c.args.values.now c.args.events.now)
    (c.deref.ensures.value ∙ c.in_ok-places.ensures ∙ ap (range_with_len 0) c.count.ensures.count)
