use Rattle.pop_model.specs.Runs.{start_of}
use Rattle.confluence_core.specs.Kept.{keeps_log}
use Rattle.told_runs.specs.Tellings.{asks_for_log}
use Rattle.top_call.proofs.ResumedCerts.{kept_reached, whole_run, goes_on_joined, resumed_result}
use Rattle.top_call.proofs.resuming.go_on.Goals as goal

-- the certificate's run has come so far, with its log where it is to be kept
pub finish-went_on-requires-clause-may : goal.finish-went_on-requires-clause-may
finish-went_on-requires-clause-may g c =
    let a = c.args.accepted in
    let start = start_of a.instance in
    let keeps = keeps_log c.keep.result in
    let (cert, held) = c.requires.held in
    record {
      index = tt;
      reached = (start, keeps, kept_reached a.instance start keeps a.reached c.kept-log.result c.kept-log.ensures held.run);
    }

-- so what it goes on to is a run
pub tell_end-told-requires-clause-run : goal.tell_end-told-requires-clause-run
tell_end-told-requires-clause-run g c =
    let a = c.args.accepted in
    let (cert, held) = c.requires.held in
    whole_run a.instance (keeps_log c.keep.result) (asks_for_log c.of_line-asked.result) a.reached c.kept-log.result
    c.in-Ok.whole c.kept-log.ensures held.run c.keep.ensures c.in-Ok.ensures.run

-- the end of both parts is told as the line of the certificate's command tells it
pub returns : goal.returns
returns g c cert held =
    let a = c.args.accepted in
    let asked = c.of_line-asked.result in
    let keeps = keeps_log c.keep.result in
    let whole = c.in-Ok.whole in
    resumed_result cert a _ asked whole c.tell_end-told.result held c.of_line-asked.ensures
    (whole_run a.instance keeps (asks_for_log asked) a.reached c.kept-log.result whole c.kept-log.ensures held.run
    c.keep.ensures c.in-Ok.ensures.run)
    (goes_on_joined a.instance keeps a.reached c.kept-log.result held.run whole c.kept-log.ensures
    c.in-Ok.ensures.on)
    c.tell_end-told.ensures.ended c.tell_end-told.ensures.kept
