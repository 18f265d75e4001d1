-- A result for a part of the question, or its error, is one for the whole.
use Rattle.std.proofs.Common.{inl, inr, ◌≡◌, ℕ, List, Result, Ok, Err, IfOk, subst, sym}
use Rattle.std.specs.Result.{IsErrAnd}
use Rattle.std.proofs.lemmas.Result.{IfOk-weaker}
use Rattle.job_subjects.specs.declared.answer.Answer.{Answer}
use Rattle.job_subjects.specs.declared.stop.Stop.TheVariants.{ReadFault, OutOfMemory}
use Rattle.job_subjects.specs.declared.refusal.Refusal.{Refusal}
use Rattle.job_subjects.specs.declared.refusal.Refusal.TheVariants.{Stopped}
use Rattle.job_subjects.proofs.Carrying.{passed_on, refused_by}
use Rattle.job_subjects.specs.Refused.{IsStopOr}
use Rattle.told_runs.specs.Outcomes.{Outcome, AnswersBy}
use Rattle.told_runs.specs.Outcomes.Outcome.{Refused}
use Rattle.told_runs.specs.Results.{ComesRefused, IsResultOf}

-- an answer that tells what comes in one way tells what comes in another
pub answered : (Comes Goes : Outcome → Type 0) (status : ℕ) (out : List ℕ) → ((o : Outcome) → Comes o → Goes o)
    → AnswersBy Comes status out → AnswersBy Goes status out
answered Comes Goes status out goes (o, comes, tells) = (o, goes o comes, tells)

-- so does one that is handed on, if there is one
pub answers_more : {E : Type 0} (Comes Goes : Outcome → Type 0) (r : Result Answer E)
    → ((o : Outcome) → Comes o → Goes o) → IfOk r (λ a. AnswersBy Comes a.status a.text.items)
    → IfOk r (λ a. AnswersBy Goes a.status a.text.items)
answers_more Comes Goes r goes = IfOk-weaker r _ _ (λ a. answered Comes Goes a.status a.text.items goes)

-- what comes in one way comes in another
pub carried : (Comes Goes : Outcome → Type 0) (r : Result Answer Refusal) → ((o : Outcome) → Comes o → Goes o)
    → IsResultOf Comes r → IsResultOf Goes r
carried Comes Goes (Ok a) goes comes = answered Comes Goes a.status a.text.items goes comes
carried Comes Goes (Err r) goes comes =
    refused_by (λ q. Comes (Refused q)) (λ q. Goes (Refused q)) r (λ q h. goes (Refused q) h) comes

-- a refusal that is passed on is the result
pub refused_result : (Comes : Outcome → Type 0) (r : Result Answer Refusal) (e : Refusal) → IsErrAnd r (λ x. x ≡ e)
    → ComesRefused Comes e → IsResultOf Comes r
refused_result Comes r e is comes = subst (IsResultOf Comes) (sym (passed_on r e is)) comes

-- so is one that is passed on where the call was stopped, or the refusal comes so, but where the source failed
pub stopped_result : (Comes : Outcome → Type 0) (r : Result Answer Refusal) (e : Refusal) → IsErrAnd r (λ x. x ≡ e)
    → IsStopOr (λ q. Comes (Refused q)) e → (e ≡ Stopped ReadFault → ⊥) → IsResultOf Comes r
stopped_result Comes r e is (inl (ReadFault, stop)) read = absurd (read stop)
stopped_result Comes r e is (inl (OutOfMemory, stop)) read = refused_result Comes r e is (inl stop)
stopped_result Comes r e is (inr h) read = refused_result Comes r e is (inr h)
