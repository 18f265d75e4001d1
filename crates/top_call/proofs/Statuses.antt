-- The statuses of the answers to an input: each up to 6 except that of invalid arguments. No error of an input is one
-- of arguments.
use Rattle.std.proofs.Common.{inl, inr, ◌≡◌, ◌⊎◌, ◌≤◌, ◌<◌, ℕ, List, [], ◌∷◌, Result, Ok, Err, refl, sym, subst, arith}
use Rattle.pop_model.specs.Families.{Event}
use Rattle.confluence_core.specs.declared.end.End.{End}
use Rattle.pop_words.specs.declared.job.Job.{Job}
use Rattle.pop_watch.specs.Telling.{Watcher}
use Rattle.run_cert.specs.declared.look_kind.Look.{Look}
use Rattle.run_cert.specs.declared.look_kind.Look.TheVariants.{Finished, Exhausted, Open}
use Rattle.job_subjects.specs.declared.answer.Answer.{Answer}
use Rattle.job_subjects.specs.declared.refusal.Refusal.{Refusal}
use Rattle.job_subjects.specs.declared.refusal.Refusal.TheVariants.{Usage as BadWord, NotLegal, Stopped}
use Rattle.job_subjects.specs.Refusals.{refusal_status, IsPastWords}
use Rattle.job_subjects.proofs.TextRefusals.{IsOfInput}
use Rattle.told_runs.specs.Batches.{batch_status}
use Rattle.told_runs.specs.ReplayTexts.{look_status}
use Rattle.told_runs.specs.Witnesses.{Witness}
use Rattle.told_runs.specs.Witnesses.Witness.{Unasked, Missing, Shown}
use Rattle.told_runs.specs.Outcomes.{Outcome, AnswersBy, IsTextStatus, status_of, end_status, resampled_status}
use Rattle.told_runs.specs.Outcomes.Outcome.{Refused, Extremal, Ended, Resampled, Rounded, Batched, Paused, Replayed}
use Rattle.told_runs.specs.Results.{IsResultOf, IsTextResult}
use Rattle.top_call.specs.Answers.{ComesOf}
use Rattle.top_call.proofs.BatchEnds.{batch_low}
use Rattle.top_call.proofs.ByCommand.{line_input}

-- the status of an end is one of a text
end_status_is : (stuck : List Event) → IsTextStatus (end_status stuck)
end_status_is [] = record { answers = inl (omega arith); no_usage = λ h. absurd (omega arith) }
end_status_is (e ∷ stuck) = record { answers = inl (omega arith); no_usage = λ h. absurd (omega arith) }

-- a status above 2
known_status : (n : ℕ) → 2 < n → n ≤ 6 → IsTextStatus n
known_status n high low = record { answers = inl low; no_usage = λ h. absurd (omega arith) }

-- the status of a run with its log
resampled_status_is : (stuck : List Event) (w : Witness) → IsTextStatus (resampled_status stuck w)
resampled_status_is stuck Unasked = end_status_is stuck
resampled_status_is stuck (Missing name entry c) = known_status 6 (omega arith) (omega arith)
resampled_status_is stuck (Shown tree) = end_status_is stuck

-- the status of a batch
batch_status_is : (ends : List End) → (batch_status ends ≡ 0) ⊎ (batch_status ends ≡ 1)
    → IsTextStatus (batch_status ends)
batch_status_is ends (inl is) = record { answers = inl (omega (arith, is)); no_usage = λ h. absurd (omega (arith, h, is)) }
batch_status_is ends (inr is) = record { answers = inl (omega (arith, is)); no_usage = λ h. absurd (omega (arith, h, is)) }

-- the status of a replay
pub look_status_is : (k : Look) → IsTextStatus (look_status k)
look_status_is Finished = record { answers = inl (omega arith); no_usage = λ h. absurd (omega (arith, h)) }
look_status_is Exhausted = record { answers = inl (omega arith); no_usage = λ h. absurd (omega (arith, h)) }
look_status_is Open = record { answers = inr (inl refl); no_usage = λ h. absurd (omega (arith, h)) }

-- the status of a refusal of the input
refused_status_is : (r : Refusal) → IsOfInput r → IsTextStatus (refusal_status r)
refused_status_is (BadWord p) of = absurd of
refused_status_is (Stopped s) of = absurd of
refused_status_is (NotLegal p) of = record { answers = inr (inr refl); no_usage = λ h. absurd (omega arith) }
refused_status_is r of = known_status (refusal_status r) (omega arith) (omega arith)

-- the status of what comes so, where its refusals are of the input
told_status : (Comes : Outcome → Type 0) → ((r : Refusal) → Comes (Refused r) → IsOfInput r) → (o : Outcome) → Comes o
    → IsTextStatus (status_of o)
told_status Comes of (Refused r) h = refused_status_is r (of r h)
told_status Comes of (Extremal n) h = record { answers = inl (omega arith); no_usage = λ h'. absurd (omega arith) }
told_status Comes of (Ended t i c n s a) h = end_status_is s
told_status Comes of (Resampled t i l s a) h = resampled_status_is s a.witness
told_status Comes of (Rounded t i c n s v) h = end_status_is s
told_status Comes of (Batched t i es) h = batch_status_is es (batch_low es)
told_status Comes of (Paused j w t i l) h = record { answers = inr (inl refl); no_usage = λ h'. absurd (omega arith) }
told_status Comes of (Replayed i c n k) h = look_status_is k

-- so is that of an answer that tells it
pub told_is : (Comes : Outcome → Type 0) (status : ℕ) (out : List ℕ) → ((r : Refusal) → Comes (Refused r) → IsOfInput r)
    → AnswersBy Comes status out → IsTextStatus status
told_is Comes status out of (o, comes, tells) =
    subst IsTextStatus (sym tells.status_is) (told_status Comes of o comes)

-- a refusal of the input is none of words
pub past_words : (r : Refusal) → IsOfInput r → IsPastWords r
past_words (BadWord p) of = of
past_words r of = tt

-- so the result of a job is one to a text
pub job_result : (job : Job) (ws : List Watcher) (text : List ℕ) (r : Result Answer Refusal)
    → IsResultOf (ComesOf job ws text) r → IsTextResult r
job_result job ws text (Ok a) told = told_is (ComesOf job ws text) a.status a.text.items (line_input job ws text) told
job_result job ws text (Err r) (inl memory) = subst IsPastWords (sym memory) tt
job_result job ws text (Err r) (inr comes) = past_words r (line_input job ws text r comes)
