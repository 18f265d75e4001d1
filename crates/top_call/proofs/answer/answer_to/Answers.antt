use Rattle.std.proofs.Common.{inl, inr, Ok, Err, map, string_bytes, subst}
use Rattle.pop_words.specs.declared.job.Job.{Job}
use Rattle.top_call.specs.Answers.{ComesBy, IsOutcome, WasReadWhole}
use Rattle.job_subjects.specs.Refusals.{IsPastWords}
use Rattle.pop_words.proofs.OneJob.{same_job}
use Rattle.pop_words.proofs.JobsInRange.{asked_workers}
use Rattle.top_call.proofs.Carrying.{carried}
use Rattle.top_call.proofs.Lifting.{of_words, input_of_job, grid_job}
use Rattle.top_call.proofs.WordResults.{words_refused, words_bad, words_only, words_judged, words_no_fault}
use Rattle.top_call.proofs.ToldRefusals.{err_is, told_answer, told_low, told_high, told_usage, told_words, told_fault, told_judged}
use Rattle.top_call.proofs.answer.answer_to.Goals as goal

-- the words are no command line, which is told
pub returns-in-Err-clause-answer : goal.returns-in-Err-clause-answer
returns-in-Err-clause-answer g c text input =
    told_answer (IsOutcome (map string_bytes c.args.words.now) _ text) c.from.result c.told.result c.told.ensures
    (λ read. words_refused (map string_bytes c.args.words.now) _ text c.in-Err.fault c.from.result c.from.ensures
    c.in-Err.ensures.fault)

pub returns-in-Err-clause-status : goal.returns-in-Err-clause-status
returns-in-Err-clause-status g c = told_low c.from.result c.told.result c.told.ensures

pub returns-in-Err-clause-usage : goal.returns-in-Err-clause-usage
returns-in-Err-clause-usage g c =
    told_usage (map string_bytes c.args.words.now) c.from.result c.told.result
    (λ place. words_bad (map string_bytes c.args.words.now) c.in-Err.fault c.from.result place c.from.ensures
    c.in-Err.ensures.fault) c.told.ensures

pub returns-in-Err-clause-only_usage : goal.returns-in-Err-clause-only_usage
returns-in-Err-clause-only_usage g c outside =
    told_words c.from.result c.told.result (words_only c.in-Err.fault c.from.result c.from.ensures) c.told.ensures

pub returns-in-Err-clause-whole : goal.returns-in-Err-clause-whole
returns-in-Err-clause-whole g c = told_high _ c.from.result c.told.result c.told.ensures

pub returns-in-Err-clause-read_fault : goal.returns-in-Err-clause-read_fault
returns-in-Err-clause-read_fault g c failed =
    absurd (words_no_fault c.in-Err.fault c.from.result c.from.ensures
    (told_fault c.from.result c.told.result c.told.ensures failed))

pub returns-in-Err-clause-read : goal.returns-in-Err-clause-read
returns-in-Err-clause-read g c job asks =
    told_judged _ c.from.result c.told.result c.told.ensures
    (words_judged _ (map string_bytes c.args.words.now) job c.in-Err.fault c.from.result c.from.ensures
    c.in-Err.ensures.fault asks)

-- the words ask for the job, so that what comes of it comes of them
pub returns-in-Ok-answered-clause-answer : goal.returns-in-Ok-answered-clause-answer
returns-in-Ok-answered-clause-answer g c text input =
    carried (ComesBy c.in-Ok.job.command c.in-Ok.job _ text) (IsOutcome (map string_bytes c.args.words.now) _ text)
    (Ok c.in-Ok-answered.answer)
    (of_words (map string_bytes c.args.words.now) c.in-Ok.job _ text c.in-Ok.ensures.job)
    (c.in-Ok-answered.ensures.answer text
    (input_of_job (map string_bytes c.args.words.now) c.in-Ok.job _ text c.in-Ok.ensures.job input)
    (λ failed. absurd (cc)))

pub returns-in-Ok-answered-clause-unread : goal.returns-in-Ok-answered-clause-unread
returns-in-Ok-answered-clause-unread g c (inl outside) = absurd (outside (c.in-Ok.job, c.in-Ok.ensures.job))
returns-in-Ok-answered-clause-unread g c (inr grid) =
    c.in-Ok-answered.ensures.unread (grid_job (map string_bytes c.args.words.now) c.in-Ok.job c.in-Ok.ensures.job grid)

pub returns-in-Ok-answered-clause-read : goal.returns-in-Ok-answered-clause-read
returns-in-Ok-answered-clause-read g c job asks =
    subst (λ (j : Job). WasReadWhole j.pops j.command (g.S.Source.left c.args.source.now)
    (g.S.Source.left c.answer_job-answered.new.source))
    (same_job (map string_bytes c.args.words.now) c.in-Ok.job job c.in-Ok.ensures.job asks)
    (c.in-Ok-answered.ensures.read tt)

-- a refusal of the job is told
pub returns-in-Err-answered-clause-answer : goal.returns-in-Err-answered-clause-answer
returns-in-Err-answered-clause-answer g c text input =
    told_answer (IsOutcome (map string_bytes c.args.words.now) _ text) c.in-Err-answered.refusal
    c.told-in-Err-answered.result c.told-in-Err-answered.ensures
    (λ read. carried (ComesBy c.in-Ok.job.command c.in-Ok.job _ text)
    (IsOutcome (map string_bytes c.args.words.now) _ text) (Err c.in-Err-answered.refusal)
    (of_words (map string_bytes c.args.words.now) c.in-Ok.job _ text c.in-Ok.ensures.job)
    (c.in-Err-answered.ensures.answer text
    (input_of_job (map string_bytes c.args.words.now) c.in-Ok.job _ text c.in-Ok.ensures.job input)
    (λ failed. read (err_is _ _ failed))))

pub returns-in-Err-answered-clause-usage : goal.returns-in-Err-answered-clause-usage
returns-in-Err-answered-clause-usage g c =
    told_usage (map string_bytes c.args.words.now) c.in-Err-answered.refusal c.told-in-Err-answered.result
    (λ place is. absurd (subst IsPastWords is c.in-Err-answered.ensures.status)) c.told-in-Err-answered.ensures

pub returns-in-Err-answered-clause-unread : goal.returns-in-Err-answered-clause-unread
returns-in-Err-answered-clause-unread g c (inl outside) = absurd (outside (c.in-Ok.job, c.in-Ok.ensures.job))
returns-in-Err-answered-clause-unread g c (inr grid) =
    c.in-Err-answered.ensures.unread (grid_job (map string_bytes c.args.words.now) c.in-Ok.job c.in-Ok.ensures.job grid)

pub returns-in-Err-answered-clause-whole : goal.returns-in-Err-answered-clause-whole
returns-in-Err-answered-clause-whole g c =
    told_high _ c.in-Err-answered.refusal c.told-in-Err-answered.result c.told-in-Err-answered.ensures

pub returns-in-Err-answered-clause-read : goal.returns-in-Err-answered-clause-read
returns-in-Err-answered-clause-read g c job asks =
    told_judged _ c.in-Err-answered.refusal c.told-in-Err-answered.result c.told-in-Err-answered.ensures
    (λ judged. subst (λ (j : Job). WasReadWhole j.pops j.command (g.S.Source.left c.args.source.now)
    (g.S.Source.left c.answer_job-answered.new.source))
    (same_job (map string_bytes c.args.words.now) c.in-Ok.job job c.in-Ok.ensures.job asks)
    (c.in-Err-answered.ensures.read judged))

pub answer_job-answered-requires-clause-asked : goal.answer_job-answered-requires-clause-asked
answer_job-answered-requires-clause-asked g c = (map string_bytes c.args.words.now, c.in-Ok.ensures.job)

-- from 1 to 64 workers are asked for
pub new-crew-requires-clause-one : goal.new-crew-requires-clause-one
new-crew-requires-clause-one g c =
    (asked_workers (map string_bytes c.args.words.now) c.in-Ok.job c.in-Ok.ensures.job).0

pub new-crew-requires-clause-few : goal.new-crew-requires-clause-few
new-crew-requires-clause-few g c =
    (asked_workers (map string_bytes c.args.words.now) c.in-Ok.job c.in-Ok.ensures.job).1
