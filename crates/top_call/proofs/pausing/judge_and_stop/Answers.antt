use Rattle.std.proofs.Common.{inl, ℕ, List, Some, Ok, Err, ap}
use Rattle.job_subjects.proofs.MadeExtremal.{made_short}
use Rattle.job_subjects.proofs.RefusedTexts.{no_rise}
use Rattle.top_call.specs.Answers.{ComesOf}
use Rattle.top_call.proofs.Carrying.{stopped_result}
use Rattle.top_call.proofs.PauseWords.{not_made, paused_samples, paused_no_rounds, may_stop}
use Rattle.top_call.proofs.Statuses.{job_result}
use Rattle.top_call.proofs.pausing.judge_and_stop.Goals as goal

pub made_for-requires-clause-command : goal.made_for-requires-clause-command
made_for-requires-clause-command g c =
    let has = (may_stop c.args.job.now c.requires.asked c.args.pops c.requires.pops).command in
    paused_samples c.args.job.now.command has

pub run_up_to-told-requires-clause-may : goal.run_up_to-told-requires-clause-may
run_up_to-told-requires-clause-may g c =
    may_stop c.args.job.now c.requires.asked c.args.pops c.requires.pops

-- nothing is made of the bytes
pub returns-in_err-made-clause-answer : goal.returns-in_err-made-clause-answer
returns-in_err-made-clause-answer g c =
    stopped_result (ComesOf c.args.job.now _ c.args.input.now) c.from_residual.result c.in_err-made.field-0.0
    c.from_residual.ensures.1
    (c.in_err-made.ensures.refused c.args.input.now (inl (ap (λ (l : List ℕ). Some l) c.new-source.ensures)))
    (λ is. no_rise (c.in_err-made.ensures.fault (ap (λ q. Err q) is)))

-- what is made is what the job wants, at its last height
pub run_up_to-told-requires-clause-made : goal.run_up_to-told-requires-clause-made
run_up_to-told-requires-clause-made g c =
    rw c.raised-instance.ensures
    (c.in_ok-made.ensures.made c.args.input.now (inl (ap (λ (l : List ℕ). Some l) c.new-source.ensures)))

pub run_up_to-told-requires-clause-told : goal.run_up_to-told-requires-clause-told
run_up_to-told-requires-clause-told g c = rw c.raised-instance.ensures c.in_ok-made.ensures.told

-- it is extremal, where it isn't resampled
pub run_up_to-told-requires-clause-extremal : goal.run_up_to-told-requires-clause-extremal
run_up_to-told-requires-clause-extremal g c ordered =
    let has = (may_stop c.args.job.now c.requires.asked c.args.pops c.requires.pops).command in
    rw c.raised-instance.ensures
    (c.in_ok-made.ensures.extremal ordered (paused_no_rounds c.args.job.now.command has))

-- of a text within the limit
pub run_up_to-told-requires-clause-short : goal.run_up_to-told-requires-clause-short
run_up_to-told-requires-clause-short g c =
    let has = (may_stop c.args.job.now c.requires.asked c.args.pops c.requires.pops).command in
    made_short _ c.args.input.now _ _ (not_made c.args.job.now.command has)
    (c.in_ok-made.ensures.made c.args.input.now (inl (ap (λ (l : List ℕ). Some l) c.new-source.ensures)))

pub returns-clause-short : goal.returns-clause-short
returns-clause-short g c has =
    let has = (may_stop c.args.job.now c.requires.asked c.args.pops c.requires.pops).command in
    made_short _ c.args.input.now _ _ (not_made c.args.job.now.command has)
    (c.in_ok-made.ensures.made c.args.input.now (inl (ap (λ (l : List ℕ). Some l) c.new-source.ensures)))

-- what is told of its run is told with a status of a text
pub returns-clause-status : goal.returns-clause-status
returns-clause-status g c =
    job_result c.args.job.now _ c.args.input.now (Ok c.in_ok-told.field-0) c.in_ok-told.ensures
