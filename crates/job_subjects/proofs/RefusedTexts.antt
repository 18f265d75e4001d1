-- The error of an input that its grammar rejects, and of one that is lent.
use Rattle.std.proofs.Common.{inl, inr, ◌≡◌, Result, Ok, Err, IfErr, MatchResult, refl, sym, ap, subst, arith}
use Rattle.std.specs.Result.{IsErrAnd, IsErrOf}
use Rattle.pop_model.specs.Faults.{Rose}
use Rattle.pop_edge.specs.declared.refusal.ReadRefusal.{ReadRefusal}
use Rattle.pop_edge.specs.declared.refusal.ReadRefusal.TheVariants.{Malformed, Count, EmptyClause, Limit, ReadFault, OutOfMemory}
use Rattle.job_subjects.specs.declared.stop.Stop.{Stop}
use Rattle.job_subjects.specs.declared.stop.Stop.TheVariants.{ReadFault as Failed, OutOfMemory as Memory}
use Rattle.job_subjects.specs.declared.refusal.Refusal.{Refusal}
use Rattle.job_subjects.specs.declared.refusal.Refusal.TheVariants.{Stopped}
use Rattle.job_subjects.specs.Refusals.{IsRefusal, unread}
use Rattle.job_subjects.specs.Refused.{IsStopOr, IsRefusalOf}
use Rattle.job_subjects.proofs.Carrying.{passed_on}

-- a text that is refused with this cause
refusal_of : (Refused : ReadRefusal → Type 0) (cause : ReadRefusal) → Refused cause
    → IsRefusalOf Refused (unread cause)
refusal_of Refused (Malformed l code) h =
    inr (record { cause = Malformed l code; of_text = tt; refused = h; is = refl })
refusal_of Refused (Count declared found) h =
    inr (record { cause = Count declared found; of_text = tt; refused = h; is = refl })
refusal_of Refused (EmptyClause number) h =
    inr (record { cause = EmptyClause number; of_text = tt; refused = h; is = refl })
refusal_of Refused (Limit kind l) h =
    inr (record { cause = Limit kind l; of_text = tt; refused = h; is = refl })
refusal_of Refused ReadFault h = inl (Failed, refl)
refusal_of Refused OutOfMemory h = inl (Memory, refl)

-- so a cause that is passed on answers for the text
pub text_refused : {X : Type 0} (Answers : Result X ReadRefusal → Type 0) (r : Result X Refusal) (cause : ReadRefusal)
    → IsErrAnd r (λ x. x ≡ unread cause) → Answers (Err cause)
    → MatchResult r (λ x. Answers (Ok x)) (IsRefusalOf (λ k. Answers (Err k)))
text_refused Answers r cause is h =
    subst (λ q. MatchResult q (λ x. Answers (Ok x)) (IsRefusalOf (λ k. Answers (Err k))))
    (sym (passed_on r (unread cause) is)) (refusal_of (λ k. Answers (Err k)) cause h)

-- a source that never fails doesn't rise
pub no_rise : Rose 0 0 → ⊥
no_rise (inl rose) = absurd (omega (arith, rose))
no_rise (inr last) = absurd (omega (arith, last))

-- what stops the reading of a text that is lent is want of memory
stopped_by : (stop : Stop) (r : Refusal) → r ≡ Stopped stop → (r ≡ Stopped Failed → Rose 0 0) → r ≡ Stopped Memory
stopped_by Failed r is fault = absurd (no_rise (fault is))
stopped_by Memory r is fault = is

-- so what is asked of a text that is lent is refused, or memory runs out
pub lent_refused : (Refuses : Refusal → Type 0) (r : Refusal) → (r ≡ Stopped Failed → Rose 0 0)
    → IsStopOr Refuses r → IsRefusal Refuses r
lent_refused Refuses r fault (inl (stop, is)) = inl (stopped_by stop r is fault)
lent_refused Refuses r fault (inr h) = inr h

-- the same of a result
pub lent_result : {X : Type 0} (Refuses : Refusal → Type 0) (r : Result X Refusal)
    → (IsErrOf r (Stopped Failed) → Rose 0 0) → IfErr r (IsStopOr Refuses) → IfErr r (IsRefusal Refuses)
lent_result Refuses (Ok a) fault h = tt
lent_result Refuses (Err e) fault h = lent_refused Refuses e (λ is. fault (ap (λ q. Err q) is)) h

-- where memory runs out the call is stopped
stop_or : (Refuses : Refusal → Type 0) (r : Refusal) → IsRefusal Refuses r → IsStopOr Refuses r
stop_or Refuses r (inl memory) = inl (Memory, memory)
stop_or Refuses r (inr h) = inr h

-- so a refusal, or want of memory, is a stop or a refusal
pub stop_or_refused : {X : Type 0} (Refuses : Refusal → Type 0) (r : Result X Refusal) → IfErr r (IsRefusal Refuses)
    → IfErr r (IsStopOr Refuses)
stop_or_refused Refuses (Ok a) h = tt
stop_or_refused Refuses (Err e) h = stop_or Refuses e h
