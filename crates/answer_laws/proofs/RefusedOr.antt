-- Outcomes that are errors, or others. Suppose that the input has at most one error, and none if there is any other
-- outcome. Then two outcomes are alike if the others are. No error has a status of a run: each is at least 2, and none
-- is 10.
use Rattle.std.proofs.Common.{inl, inr, ◌≡◌, ◌⊎◌, ℕ, ◌≤◌, arith, List, refl, sym, ap, ◌∙◌}
use Rattle.pop_watch.specs.Telling.{Watcher}
use Rattle.job_subjects.specs.declared.stop.Stop.TheVariants.{ReadFault, OutOfMemory}
use Rattle.job_subjects.specs.declared.refusal.Refusal.{Refusal}
use Rattle.job_subjects.specs.declared.refusal.Refusal.TheVariants.{NotLegal, Stopped}
use Rattle.job_subjects.specs.Refusals.{refusal_status}
use Rattle.told_runs.specs.Outcomes.{HasRun, Outcome}
use Rattle.told_runs.specs.Outcomes.Outcome.{Refused}
use Rattle.top_call.specs.Replays.{ComesOfCert, IsRefused, IsReplayed, ComesOfReplaying}
use Rattle.top_call.specs.Resumes.{ByLine, IsResumed, ComesOfResuming}
use Rattle.answer_laws.proofs.RefusedStacks.{IsOneRefusal}

-- ---- statuses of refusals

-- a status of no run
abbrev IsOfNone : ℕ → Type 0
IsOfNone status = (2 ≤ status) × (status ≡ 10 → ⊥)

-- those from 2 to 9 are, and 11 is
to_nine : (n : ℕ) → 2 ≤ n → n ≤ 9 → IsOfNone n
to_nine n high low = (high, λ is. omega (arith, is, low))

of_none : (r : Refusal) → IsOfNone (refusal_status r)
of_none (Stopped ReadFault) = to_nine 7 (omega arith) (omega arith)
of_none (Stopped OutOfMemory) = to_nine 9 (omega arith) (omega arith)
of_none (NotLegal p) = (omega arith, λ is. omega (arith, is))
of_none r = to_nine (refusal_status r) (omega arith) (omega arith)

-- no refusal has a status below 2
pub refusal_high : (r : Refusal) → 2 ≤ refusal_status r
refusal_high r = (of_none r).0

-- nor that of a run that stopped
pub refusal_not_ten : (r : Refusal) → refusal_status r ≡ 10 → ⊥
refusal_not_ten r = (of_none r).1

-- so none has that of a run
pub refusal_no_run : (r : Refusal) → HasRun (refusal_status r) → ⊥
refusal_no_run r (inl low) = let high = refusal_high r in omega (arith, high, low)
refusal_no_run r (inr ten) = refusal_not_ten r ten

-- a status from 2 on is none of a sample or an exhausted end
pub not_low : (n : ℕ) → 2 ≤ n → (n ≡ 0) ⊎ (n ≡ 1) → ⊥
not_low n high (inl is) = absurd (omega (arith, high, is))
not_low n high (inr is) = absurd (omega (arith, high, is))

-- so a refusal has none of these
pub refusal_not_low : (r : Refusal) → (refusal_status r ≡ 0) ⊎ (refusal_status r ≡ 1) → ⊥
refusal_not_low r low = not_low (refusal_status r) (refusal_high r) low

-- ---- refusals and other outcomes

-- the outcome is such a refusal, or comes so
abbrev pub RefusedOr : (Refusal → Type 0) → (Outcome → Type 0) → Outcome → Type 0
RefusedOr Refuses Comes o = ((r : Refusal) × (o ≡ Refused r) × Refuses r) ⊎ Comes o

-- what is refused doesn't come
abbrev pub IsApart : (Refusal → Type 0) → (Outcome → Type 0) → Type 0
IsApart Refuses Comes = (r : Refusal) → Refuses r → (o : Outcome) → Comes o → ⊥

-- such outcomes are alike
pub alike_or : (Alike : Outcome → Outcome → Type 0) → ((o p : Outcome) → o ≡ p → Alike o p)
    → (Refuses : Refusal → Type 0) → IsOneRefusal Refuses → (Comes Others : Outcome → Type 0)
    → IsApart Refuses Comes → IsApart Refuses Others → ((o p : Outcome) → Comes o → Others p → Alike o p)
    → (o p : Outcome) → RefusedOr Refuses Comes o → RefusedOr Refuses Others p → Alike o p
alike_or Alike same Refuses one Comes Others apart apart' alike o p (inl (r, o_is, h)) (inl (s, p_is, h')) =
    same o p (o_is ∙ ap Refused (one r s h h') ∙ sym p_is)
alike_or Alike same Refuses one Comes Others apart apart' alike o p (inl (r, o_is, h)) (inr comes') =
    absurd (apart' r h p comes')
alike_or Alike same Refuses one Comes Others apart apart' alike o p (inr comes) (inl (s, p_is, h')) =
    absurd (apart s h' o comes)
alike_or Alike same Refuses one Comes Others apart apart' alike o p (inr comes) (inr comes') =
    alike o p comes comes'

-- what comes of bytes that are replayed is such an outcome
pub replaying_cases : (bytes : List ℕ) (o : Outcome) → ComesOfReplaying bytes o
    → RefusedOr (IsRefused bytes) (ComesOfCert IsReplayed bytes) o
replaying_cases bytes (Refused r) h = inl (r, refl, h)
replaying_cases bytes o h = inr h

-- and what comes of bytes that are resumed
pub resuming_cases : (Line : ByLine) (ws : List Watcher) (bytes : List ℕ) (o : Outcome)
    → ComesOfResuming Line ws bytes o → RefusedOr (IsRefused bytes) (ComesOfCert (IsResumed Line ws) bytes) o
resuming_cases Line ws bytes (Refused r) h = inl (r, refl, h)
resuming_cases Line ws bytes o h = inr h
