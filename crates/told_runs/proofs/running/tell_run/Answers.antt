use Rattle.told_runs.specs.Tellings.{asks_for_log}
use Rattle.told_runs.proofs.ToldRuns.{kept_result, unkept_behind}
use Rattle.told_runs.proofs.running.tell_run.Goals as goal

-- the run kept its log
pub returns-in-Some : goal.returns-in-Some
returns-in-Some g c =
    let named = c.args.named.now in
    kept_result c.args.asked _ named.names.now named.instance.now (asks_for_log c.args.asked) c.args.run.now
    c.in-Some.log c.args.text.items c.text_of_log.result c.in-Some.is c.requires c.text_of_log.ensures

-- it didn't, since nothing of it is asked for
pub returns-in-None : goal.returns-in-None
returns-in-None g c =
    let named = c.args.named.now in
    unkept_behind c.args.asked _ named.names.now named.instance.now c.args.run.now c.args.text.items c.in-None.is
    c.requires
