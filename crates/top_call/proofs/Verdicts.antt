-- The outcome of a formula is that of its input, and so that of the job that checks it.
use Rattle.std.proofs.Common.{inl, inr, ◌≡◌, ℕ, List, Result, Ok, Err, sym, subst}
use Rattle.std.specs.Result.{IsErrAnd}
use Rattle.dimacs_read.specs.Cnf.{Cnf}
use Rattle.dimacs_read.specs.CnfText.{AnswersCnf}
use Rattle.pop_words.specs.declared.command.Command.TheVariants.{Check}
use Rattle.pop_words.specs.declared.job.Job.{Job}
use Rattle.pop_watch.specs.Telling.{Watcher}
use Rattle.job_subjects.specs.declared.answer.Answer.{Answer}
use Rattle.job_subjects.specs.declared.stop.Stop.TheVariants.{ReadFault}
use Rattle.job_subjects.specs.declared.refusal.Refusal.{Refusal}
use Rattle.job_subjects.specs.declared.refusal.Refusal.TheVariants.{Stopped}
use Rattle.job_subjects.specs.Refused.{IsRefusalOf, RefusesBy}
use Rattle.told_runs.specs.Outcomes.{Outcome}
use Rattle.told_runs.specs.Outcomes.Outcome.{Refused, Extremal}
use Rattle.told_runs.specs.Results.{IsResultOf}
use Rattle.top_call.specs.Checks.{ComesOfFormula, ComesOfChecking}
use Rattle.top_call.specs.Answers.{wanted_by, ComesOf}
use Rattle.top_call.proofs.Carrying.{carried, stopped_result}

-- of the text that spells it
of_spelled : (text : List ℕ) (f : Cnf) → AnswersCnf text (Ok f) → (o : Outcome) → ComesOfFormula f o
    → ComesOfChecking text o
of_spelled text f spelled (Refused r) h = inr (f, spelled, h)
of_spelled text f spelled (Extremal n) h = record { formula = f; spelled = spelled; verdict = h }
of_spelled text f spelled o h = absurd h

pub spelled_result : (text : List ℕ) (f : Cnf) (r : Result Answer Refusal) → AnswersCnf text (Ok f)
    → IsResultOf (ComesOfFormula f) r → IsResultOf (ComesOfChecking text) r
spelled_result text f r spelled = carried (ComesOfFormula f) (ComesOfChecking text) r (of_spelled text f spelled)

-- a refusal of the text by its grammar does, but where the source failed
pub unread_result : (text : List ℕ) (r : Result Answer Refusal) (e : Refusal) → IsErrAnd r (λ x. x ≡ e)
    → IsRefusalOf (λ cause. AnswersCnf text (Err cause)) e → (e ≡ Stopped ReadFault → ⊥)
    → IsResultOf (ComesOfChecking text) r
unread_result text r e is h = stopped_result (ComesOfChecking text) r e is (elim h [
  | inl stop ↦ inl stop
  | inr unread ↦ inr (inl unread)
])

-- what comes of the text comes of the job
of_text : (job : Job) (ws : List Watcher) (text : List ℕ) → job.command ≡ Check → (o : Outcome) → ComesOfChecking text o
    → ComesOf job ws text o
of_text job ws text is (Refused r) h = subst (λ k. RefusesBy k (wanted_by job) text r) (sym is) h
of_text job ws text is (Extremal n) h = (is, h)
of_text job ws text is o h = absurd h

pub verdict_result : (job : Job) (ws : List Watcher) (text : List ℕ) (r : Result Answer Refusal) → job.command ≡ Check
    → IsResultOf (ComesOfChecking text) r → IsResultOf (ComesOf job ws text) r
verdict_result job ws text r is = carried (ComesOfChecking text) (ComesOf job ws text) r (of_text job ws text is)
