use Rattle.told_runs.proofs.ToldRuns.{told_so, told_ended, told_history, told_history_with}
use Rattle.told_runs.proofs.running.tell_end.Goals as goal

-- what is told of the run of an extremal instance is told of the one-thread run, and else of the run itself
pub returns : goal.returns
returns g c =
    let so = told_so c.args.asked _ c.args.facts.now c.args.instance.now c.names_of-names.result c.args.run.now
    c.in_ok-told.told.missing c.status_with.result c.in_ok-text.text.items _ c.units-units.ensures.instance
    c.requires.within c.requires.run c.names_of-names.ensures c.in_ok-text.ensures c.in_ok-told.ensures
    c.status_with.ensures in
    record { ended = told_ended so; history = told_history so; kept = told_history_with so }
