use Rattle.top_call.proofs.PausedComes.{open_part, full_part, paused_result, ended_result}
use Rattle.top_call.proofs.pausing.run_up_to.Goals as goal

-- an event is poppable still
pub tell_pause-requires-clause-open : goal.tell_pause-requires-clause-open
tell_pause-requires-clause-open g c =
    open_part c.args.instance.now c.from.result c.in_ok-part.part c.in_ok-part.ensures.part c.in-Open.is

pub returns-in-Open : goal.returns-in-Open
returns-in-Open g c =
    paused_result c.args.job.now _ c.args.input.now c.args.facts.now c.args.instance.now _ c.args.pops
    c.tell_pause.result c.requires.made c.requires.may c.requires.pops
    (full_part c.args.instance.now c.from.result c.args.pops c.in_ok-part.part c.in_ok-part.ensures.part c.from.ensures
    c.in-Open.is)
    c.tell_pause.ensures

-- none is, and the run came to an end
pub ended-requires : goal.ended-requires
ended-requires g c =
    let stopped = c.in_ok-part.ensures.part in
    record {
      part = stopped.run;
      count = c.in_ok-part.ensures.count;
      within = c.in_ok-part.ensures.within;
      end = λ e is poppable. c.in_default.not-Open (stopped.run.seen.look.open_is.1 (e, is, poppable));
    }

pub returns-in_ok-run-in_default : goal.returns-in_ok-run-in_default
returns-in_ok-run-in_default g c =
    ended_result c.args.job.now _ c.args.input.now c.args.facts.now c.args.instance.now c.of-asked.result
    c.tell_end-told.result c.requires.made c.of-asked.ensures c.requires.may c.requires.extremal
    c.tell_end-told.ensures.ended c.tell_end-told.ensures.history
