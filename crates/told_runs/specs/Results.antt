-- The result of a command: an answer or an error.
use Rattle.std.specs.Prelude.{Result, Ok, Err}
use Rattle.job_subjects.specs.declared.answer.Answer.{Answer}
use Rattle.job_subjects.specs.declared.refusal.Refusal.{Refusal}
use Rattle.job_subjects.specs.Refusals.{IsRefusal, IsPastWords}
use Rattle.told_runs.specs.Outcomes.{Outcome, AnswersBy, IsTextStatus}
use Rattle.told_runs.specs.Outcomes.Outcome.{Refused}

-- the error is an outcome with this property; memory may run out at any time
abbrev pub ComesRefused : (Outcome → Type 0) → Refusal → Type 0
ComesRefused Comes refusal = IsRefusal (λ r. Comes (Refused r)) refusal

-- an answer or an error for an outcome with this property
abbrev pub IsResultOf : (Outcome → Type 0) → Result Answer Refusal → Type 0
IsResultOf Comes (Ok a) = AnswersBy Comes a.status a.text.items
IsResultOf Comes (Err refusal) = ComesRefused Comes refusal

-- the status does not concern the arguments, and neither does the error
abbrev pub IsTextResult : Result Answer Refusal → Type 0
IsTextResult (Ok a) = IsTextStatus a.status
IsTextResult (Err refusal) = IsPastWords refusal
