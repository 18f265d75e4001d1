use Rattle.std.proofs.Common.{sym, ◌∙◌}
use Rattle.told_runs.specs.Tellings.{records_of}
use Rattle.told_runs.proofs.ToldRuns.{nothing_result}
use Rattle.told_runs.proofs.running.tell_in_layers.Goals as goal

-- the records aren't looked at
pub returns-then-not-looks : goal.returns-then-not-looks
returns-then-not-looks g c =
    nothing_result c.args.asked _ c.args.names.now c.args.instance.now (records_of c.args.placed.now) c.nothing.result
    (sym c.looks.ensures ∙ c.if-not-looks.true) c.nothing.ensures.there c.nothing.ensures.none

-- or those of the copy are
pub tell_records-told-requires-clause-legal : goal.tell_records-told-requires-clause-legal
tell_records-told-requires-clause-legal g c = rw c.in_ok-layered.ensures c.requires.legal

pub tell_records-told-requires-clause-leads : goal.tell_records-told-requires-clause-leads
tell_records-told-requires-clause-leads g c = rw c.in_ok-layered.ensures c.requires.leads

pub returns : goal.returns
returns g c = rw c.in_ok-layered.ensures at c.tell_records-told.ensures
