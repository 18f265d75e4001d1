-- An error that is printed: its status and its line are those of the outcome.
use Rattle.std.proofs.Common.{inl, inr, refl, ◌≡◌, ◌⊎◌, ◌≤◌, ℕ, List, Result, Ok, Err, IfOk, MatchResult, ap, sym, subst, ◌∙◌, arith}
use Rattle.std.specs.Prelude.{⊤}
use Rattle.pop_words.specs.CommandLines.{IsBadPlace}
use Rattle.job_subjects.specs.declared.answer.Answer.{Answer}
use Rattle.job_subjects.specs.declared.stop.Stop.{Stop}
use Rattle.job_subjects.specs.declared.stop.Stop.TheVariants.{ReadFault, OutOfMemory}
use Rattle.job_subjects.specs.declared.refusal.Refusal.{Refusal}
use Rattle.job_subjects.specs.declared.refusal.Refusal.TheVariants.{Usage, NotLegal, Stopped}
use Rattle.job_subjects.specs.Refusals.{refusal_status, refusal_line, IsTold, IsJudged}
use Rattle.told_runs.specs.Outcomes.{Outcome, AnswersBy, IsAnswerStatus, HasRun}
use Rattle.told_runs.specs.Outcomes.Outcome.{Refused}
use Rattle.told_runs.specs.Results.{ComesRefused}

-- one that is told is no stop
no_stop : (r : Refusal) (a : Answer) → IsTold r (Ok a) → (s : Stop) → r ≡ Stopped s → ⊥
no_stop r a told s is = let gone = told.none s is in absurd (cc)

-- the answer that tells one that comes so
pub told_answer : (Comes : Outcome → Type 0) (r : Refusal) (t : Result Answer Stop) → IsTold r t
    → ((r ≡ Stopped ReadFault → ⊥) → ComesRefused Comes r) → IfOk t (λ a. AnswersBy Comes a.status a.text.items)
told_answer Comes r (Ok a) told comes = elim (comes (no_stop r a told ReadFault)) [
  | inl memory ↦ absurd (no_stop r a told OutOfMemory memory)
  | inr h ↦ (Refused r, h, record { status_is = told.status; out_is = told.line })
]
told_answer Comes r (Err s) told comes = tt

-- the statuses of refusals
record IsRefusedStatus (status : ℕ) : Type 0 where
  low : (status ≤ 6) ⊎ (status ≡ 11)
  high : 2 ≤ status

-- each but a stop has one of them
refused_status : (r : Refusal) → ((s : Stop) → r ≡ Stopped s → ⊥) → IsRefusedStatus (refusal_status r)
refused_status (NotLegal p) told = record { low = inr refl; high = omega arith }
refused_status (Stopped s) told = absurd (told s refl)
refused_status r told = record { low = inl (omega arith); high = omega arith }

-- each is one of an answer
pub told_low : (r : Refusal) (t : Result Answer Stop) → IsTold r t → IfOk t (λ a. IsAnswerStatus a.status)
told_low r (Ok a) told =
    subst IsAnswerStatus (sym told.status) (elim (refused_status r (no_stop r a told)).low [
      | inl low ↦ inl low
      | inr illegal ↦ inr (inr illegal)
    ])
told_low r (Err s) told = tt

-- no status of a run
no_run : (status : ℕ) → IsRefusedStatus status → HasRun status → ⊥
no_run status is (inl low) = let high = is.high in absurd (omega (arith, high, low))
no_run status is (inr ten) = elim is.low [
  | inl few ↦ absurd (omega (arith, few, ten))
  | inr illegal ↦ absurd (omega (arith, illegal, ten))
]

pub told_high : (Q : Answer → Type 0) (r : Refusal) (t : Result Answer Stop) → IsTold r t
    → IfOk t (λ a. HasRun a.status → Q a)
told_high Q r (Ok a) told =
    λ has. absurd (no_run (refusal_status r) (refused_status r (no_stop r a told)) (subst HasRun told.status has))
told_high Q r (Err s) told = tt

-- status 2 is that of words
of_words : (r : Refusal) → refusal_status r ≡ 2 → (place : ℕ) × (r ≡ Usage place)
of_words (Usage p) two = (p, refl)
of_words (Stopped ReadFault) two = absurd (omega (arith, two))
of_words r two = absurd (omega (arith, two))

-- so it comes with the line of the first bad word
pub told_usage : (words : List (List ℕ)) (r : Refusal) (t : Result Answer Stop)
    → ((place : ℕ) → r ≡ Usage place → IsBadPlace words place) → IsTold r t
    → IfOk t (λ a. a.status ≡ 2 → (place : ℕ) × IsBadPlace words place × (a.text.items ≡ refusal_line (Usage place)))
told_usage words r (Ok a) bad told = λ two.
    let (place, is) = of_words r (sym told.status ∙ two) in
    (place, bad place is, told.line ∙ ap refusal_line is)
told_usage words r (Err s) bad told = tt

-- a refusal of words, or want of memory
abbrev pub IsOfWords : Refusal → Type 0
IsOfWords (Usage place) = ⊤
IsOfWords (Stopped OutOfMemory) = ⊤
IsOfWords refusal = ⊥

-- words outside the grammar are told of, or memory runs out
pub told_words : (r : Refusal) (t : Result Answer Stop) → IsOfWords r → IsTold r t
    → MatchResult t (λ a. a.status ≡ 2) (λ s. s ≡ OutOfMemory)
told_words (Usage p) (Ok a) of told = told.status
told_words (Usage p) (Err s) of told = elim told.stopped [ inl is ↦ absurd (cc) | inr is ↦ is ]
told_words (Stopped OutOfMemory) (Ok a) of told = absurd (no_stop (Stopped OutOfMemory) a told OutOfMemory refl)
told_words (Stopped OutOfMemory) (Err s) of told = elim told.stopped [ inl is ↦ cc | inr is ↦ is ]
told_words r t of told = absurd of

-- a fault of the source is told as one
pub told_fault : (r : Refusal) (t : Result Answer Stop) → IsTold r t → t ≡ Err ReadFault → r ≡ Stopped ReadFault
told_fault r (Ok a) told is = absurd (cc)
told_fault r (Err s) told is = elim told.stopped [ inl same ↦ cc | inr memory ↦ absurd (cc) ]

-- a result that is an error is one error
pub err_is : (r q : Refusal) → ◌≡◌ {A = Result Answer Refusal} (Err r) (Err q) → r ≡ q
err_is r q is = cc

-- a refusal that is no stop is one of what was read
judged : (r : Refusal) → ((s : Stop) → r ≡ Stopped s → ⊥) → IsJudged {T = Answer} (Err r)
judged (Stopped s) told = told s refl
judged r told = tt

pub told_judged : (Q : Type 0) (r : Refusal) (t : Result Answer Stop) → IsTold r t
    → (IsJudged {T = Answer} (Err r) → Q) → IfOk t (λ a. Q)
told_judged Q r (Ok a) told read = read (judged r (no_stop r a told))
told_judged Q r (Err s) told read = tt
