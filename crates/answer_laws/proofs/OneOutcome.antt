-- A job and an input have at most one outcome by the line of the command, or two runs if clashing events are resampled
-- or a run may stop. The input has at most one error, or one verdict, or one thing is made from it, and its runs have
-- the same end.
use Rattle.std.proofs.Common.{inl, inr, ◌≡◌, ◌≢◌, ◌⊎◌, ℕ, List, length, None, sym, ap, subst, ◌∙◌}
use Rattle.std.proofs.lemmas.Option.{none-some}
use Rattle.pop_model.specs.Instances.{Instance}
use Rattle.pop_model.specs.Extremal.{IsExtremal}
use Rattle.pop_words.specs.declared.command.Command.{Command}
use Rattle.pop_words.specs.declared.command.Command.TheVariants.{Resample, Check, Rounds}
use Rattle.pop_words.specs.declared.job.Job.{Job}
use Rattle.pop_words.specs.CommandLines.{AreWords, Asks, IsBadPlace}
use Rattle.pop_words.proofs.OneJob.{same_job, same_first_bad}
use Rattle.pop_log.proofs.UnitEvents.{HaveCubes}
use Rattle.pop_watch.specs.Telling.{Watcher}
use Rattle.pop_print.specs.declared.facts.Facts.{Facts}
use Rattle.job_subjects.specs.declared.refusal.Refusal.TheVariants.{Usage}
use Rattle.job_subjects.specs.declared.wanted.Wanted.{Wanted}
use Rattle.job_subjects.specs.Subjects.{IsSubjectOf}
use Rattle.job_subjects.specs.Made.{IsMade}
use Rattle.job_subjects.specs.Refused.{RefusesText}
use Rattle.told_runs.specs.declared.asked.Asked.{Asked}
use Rattle.told_runs.specs.Asking.{asked_by}
use Rattle.told_runs.specs.Outcomes.{Outcome, status_of}
use Rattle.told_runs.specs.Outcomes.Outcome.{Refused, Extremal}
use Rattle.top_call.specs.Checks.{IsExtremalCnf, IsExtremalText}
use Rattle.top_call.specs.Pauses.{Pauses}
use Rattle.top_call.specs.Answers.{wanted_by, EndsAs, ComesOfRun, ComesOf, ComesBy, ComesOfJob, IsOutcome, IsOfLine}
use Rattle.top_call.proofs.ReadCases.{paused_as, read_cases}
use Rattle.top_call.proofs.ByCommand.{of_line}
use Rattle.answer_laws.specs.Orders.{HasOneEnd}
use Rattle.answer_laws.specs.Laws.{ReportAlike, Agree}
use Rattle.answer_laws.proofs.OneSubject.{one_events, moved}
use Rattle.answer_laws.proofs.OneRefusal.{one_text_refusal, made_unrefused, extremal_unrefused}
use Rattle.answer_laws.proofs.OneEnd.{made_cubes, made_unfree, made_ordered, AreOne, one_end, one_rounds, two_histories, one_history, pause_and_end, two_pauses}
use Rattle.answer_laws.proofs.RefusedOr.{IsApart, alike_or}

-- ---- a refusal, a verdict or a run

-- the text has one verdict
one_verdict : (text : List ℕ) (n m : ℕ) → IsExtremalText text n → IsExtremalText text m → n ≡ m
one_verdict text n m a b =
    let here : IsExtremalCnf b.formula n =
    subst (λ f. IsExtremalCnf f n) (a.spelled.1 ∙ sym b.spelled.1) a.verdict in
    let events =
    one_events b.formula.clauses here.events b.verdict.events here.of_formula b.verdict.of_formula in
    here.size ∙ ap length events ∙ sym b.verdict.size

-- and where it has one, nothing is made of it
nothing_made : (w : Wanted) (text : List ℕ) (facts : Facts) (i : Instance) → w.command ≡ Check → IsMade w text facts i
    → ⊥
nothing_made w text facts i is made = subst (λ k. IsSubjectOf k w text made.subject) is made.are

-- what comes of a text that isn't refused
abbrev Comes : Job → List Watcher → List ℕ → Outcome → Type 0
Comes job ws text o =
    ((n : ℕ) × (o ≡ Extremal n) × (job.command ≡ Check) × IsExtremalText text n) ⊎ ComesOfRun job ws text o

-- it isn't where that comes
unrefused : (job : Job) (ws : List Watcher) (text : List ℕ)
    → IsApart (RefusesText (wanted_by job) text) (Comes job ws text)
unrefused job ws text r refuses o (inl (n, is, check, verdict)) =
    extremal_unrefused (wanted_by job) text n r check verdict refuses
unrefused job ws text r refuses o (inr run) =
    made_unrefused (wanted_by job) text run.facts run.instance r run.made refuses

-- how the run of what is made is told: its end, or a pause
abbrev Runs : Job → List Watcher → List ℕ → Facts → Instance → Outcome → Type 0
Runs job ws text facts i o = EndsAs job.command (asked_by job) ws facts i o ⊎ Pauses job text facts i o

-- two runs of what is made of a text are alike
abbrev RunAlike : (Outcome → Outcome → Type 0) → Job → List Watcher → List Watcher → List ℕ → Type 0
RunAlike Alike job ws vs text = (facts : Facts) (i : Instance) (o p : Outcome) → IsMade (wanted_by job) text facts i
    → Runs job ws text facts i o → Runs job vs text facts i p → Alike o p

-- so are those of the job, since one thing is made
alike_runs : (Alike : Outcome → Outcome → Type 0) (job : Job) (ws vs : List Watcher) (text : List ℕ)
    → RunAlike Alike job ws vs text → (o p : Outcome) → ComesOfRun job ws text o → ComesOfRun job vs text p → Alike o p
alike_runs Alike job ws vs text alike o p a b =
    let run : Runs job ws text b.facts b.instance o =
    moved (λ t k. Runs job ws text t k o) (wanted_by job) text a.facts b.facts a.instance b.instance a.made b.made a.run in
    alike b.facts b.instance o p b.made run b.run

alike_comes : (Alike : Outcome → Outcome → Type 0) → ((o p : Outcome) → o ≡ p → Alike o p) → (job : Job)
    (ws vs : List Watcher) (text : List ℕ) → RunAlike Alike job ws vs text → (o p : Outcome) → Comes job ws text o
    → Comes job vs text p → Alike o p
alike_comes Alike same job ws vs text alike o p (inl (n, o_is, check, a)) (inl (m, p_is, check', b)) =
    same o p (o_is ∙ ap Extremal (one_verdict text n m a b) ∙ sym p_is)
alike_comes Alike same job ws vs text alike o p (inl (n, o_is, check, a)) (inr run) =
    absurd (nothing_made (wanted_by job) text run.facts run.instance check run.made)
alike_comes Alike same job ws vs text alike o p (inr run) (inl (m, p_is, check, b)) =
    absurd (nothing_made (wanted_by job) text run.facts run.instance check run.made)
alike_comes Alike same job ws vs text alike o p (inr a) (inr b) = alike_runs Alike job ws vs text alike o p a b

-- and its outcomes
alike_outcomes : (Alike : Outcome → Outcome → Type 0) → ((o p : Outcome) → o ≡ p → Alike o p) → (job : Job)
    (ws vs : List Watcher) (text : List ℕ) → RunAlike Alike job ws vs text → (o p : Outcome) → ComesOf job ws text o
    → ComesOf job vs text p → Alike o p
alike_outcomes Alike same job ws vs text alike o p h h' =
    alike_or Alike same (RefusesText (wanted_by job) text) (one_text_refusal (wanted_by job) text) (Comes job ws text)
    (Comes job vs text) (unrefused job ws text) (unrefused job vs text) (alike_comes Alike same job ws vs text alike)
    o p (read_cases job ws text o h) (read_cases job vs text p h')

-- ---- runs of one instance

-- one end, where all orders of pops lead to one
same_ends : (k : Command) (asked : Asked) (ws vs : List Watcher) (facts : Facts) (i : Instance)
    → ReportAlike asked.reports ws vs → HaveCubes i.family → (k ≢ Rounds → IsExtremal i.family)
    → AreOne (EndsAs k asked ws facts i) (EndsAs k asked vs facts i)
same_ends Resample asked ws vs facts i like cubes extremal o p a b =
    one_history asked ws vs facts i like cubes (extremal (λ is. absurd (cc))) o p a b
same_ends Rounds asked ws vs facts i like cubes extremal o p a b = one_rounds facts i o p a b
same_ends k asked ws vs facts i like cubes extremal o p a b =
    one_end asked ws vs facts i like cubes (extremal (λ is. absurd (cc))) o p a b

-- or two runs, where the order is free
alike_ends : (k : Command) (asked : Asked) (ws vs : List Watcher) (facts : Facts) (i : Instance)
    → (k ≢ Resample → ReportAlike asked.reports ws vs) → HaveCubes i.family
    → (k ≢ Resample → k ≢ Rounds → IsExtremal i.family) → (o p : Outcome) → EndsAs k asked ws facts i o
    → EndsAs k asked vs facts i p → Agree o p
alike_ends Resample asked ws vs facts i like cubes extremal o p a b = inr (two_histories asked ws vs facts i o p a b)
alike_ends k asked ws vs facts i like cubes extremal o p a b =
    inl (same_ends k asked ws vs facts i (like (λ is. absurd (cc))) cubes (extremal (λ is. absurd (cc))) o p a b)

-- with watchers that report alike but of a resampling
run_alike : (job : Job) (ws vs : List Watcher) (text : List ℕ)
    → (job.command ≢ Resample → ReportAlike job.reports ws vs) → RunAlike Agree job ws vs text
run_alike job ws vs text like facts i o p made (inl a) (inl b) =
    alike_ends job.command (asked_by job) ws vs facts i like (made_cubes (wanted_by job) text facts i made)
    (λ ordered other. made_unfree (wanted_by job) text facts i ordered other made) o p a b
run_alike job ws vs text like facts i o p made (inl a) (inr b) =
    inr (pause_and_end job ws text facts i p o made b a).1
run_alike job ws vs text like facts i o p made (inr a) (inl b) =
    inr (pause_and_end job vs text facts i o p made a b).0
run_alike job ws vs text like facts i o p made (inr a) (inr b) = inr (two_pauses job text facts i o p a b)

-- and one, where none may stop
run_once : (job : Job) (ws vs : List Watcher) (text : List ℕ) → HasOneEnd job.command text → job.pops ≡ None
    → ReportAlike job.reports ws vs → RunAlike (λ o p. o ≡ p) job ws vs text
run_once job ws vs text ordered out like facts i o p made (inl a) (inl b) =
    same_ends job.command (asked_by job) ws vs facts i like (made_cubes (wanted_by job) text facts i made)
    (λ other. made_ordered (wanted_by job) text facts i ordered other made) o p a b
run_once job ws vs text ordered out like facts i o p made (inl a) (inr b) =
    absurd (none-some b.pops (sym out ∙ b.asked))
run_once job ws vs text ordered out like facts i o p made (inr a) b = absurd (none-some a.pops (sym out ∙ a.asked))

-- outcomes are one, if neither stops before its end
abbrev EndAsOne : Outcome → Outcome → Type 0
EndAsOne o p = status_of o ≢ 10 → status_of p ≢ 10 → o ≡ p

-- one that stops has status 10
pause_status : (job : Job) (text : List ℕ) (facts : Facts) (i : Instance) (o : Outcome) → Pauses job text facts i o
    → status_of o ≡ 10
pause_status job text facts i o a =
    let (placed, o_is, pause) = paused_as job text facts i a.pops o a.at in
    ap status_of o_is

-- and one, of those that end
run_ended : (job : Job) (ws vs : List Watcher) (text : List ℕ) → HasOneEnd job.command text
    → ReportAlike job.reports ws vs → RunAlike EndAsOne job ws vs text
run_ended job ws vs text ordered like facts i o p made (inl a) (inl b) = λ ends end.
    same_ends job.command (asked_by job) ws vs facts i like (made_cubes (wanted_by job) text facts i made)
    (λ other. made_ordered (wanted_by job) text facts i ordered other made) o p a b
run_ended job ws vs text ordered like facts i o p made (inl a) (inr b) =
    λ ends end. absurd (end (pause_status job text facts i p b))
run_ended job ws vs text ordered like facts i o p made (inr a) b =
    λ ends end. absurd (ends (pause_status job text facts i o a))

-- ---- outcomes

-- two outcomes of a job and a text
pub alike_read : (job : Job) (ws vs : List Watcher) (text : List ℕ) (o p : Outcome)
    → (job.command ≢ Resample → ReportAlike job.reports ws vs) → ComesOf job ws text o → ComesOf job vs text p
    → Agree o p
alike_read job ws vs text o p like =
    alike_outcomes Agree (λ o p is. inl is) job ws vs text (run_alike job ws vs text like) o p

-- where no run may stop, and all orders of pops lead to one end, there is one
pub one_read : (job : Job) (ws vs : List Watcher) (text : List ℕ) (o p : Outcome) → HasOneEnd job.command text
    → job.pops ≡ None → ReportAlike job.reports ws vs → ComesOf job ws text o → ComesOf job vs text p → o ≡ p
one_read job ws vs text o p ordered out like =
    alike_outcomes (λ o p. o ≡ p) (λ o p is. is) job ws vs text (run_once job ws vs text ordered out like) o p

-- where runs may stop, there is one of those that end
pub one_ended : (job : Job) (ws vs : List Watcher) (text : List ℕ) (o p : Outcome) → HasOneEnd job.command text
    → ReportAlike job.reports ws vs → ComesOf job ws text o → ComesOf job vs text p → status_of o ≢ 10
    → status_of p ≢ 10 → o ≡ p
one_ended job ws vs text o p ordered like =
    alike_outcomes EndAsOne (λ o p is ends end. is) job ws vs text (run_ended job ws vs text ordered like) o p

-- what comes of words and a text is their first bad word, or comes of their job
pub word_cases : (words : List (List ℕ)) (ws : List Watcher) (text : List ℕ) (o : Outcome) → IsOutcome words ws text o
    → ((place : ℕ) × (o ≡ Refused (Usage place)) × IsBadPlace words place) ⊎ ComesOfJob words ws text o
word_cases words ws text (Refused r) (inl bad) = inl (bad.place, ap Refused bad.is, bad.bad)
word_cases words ws text (Refused r) (inr h) = inr h
word_cases words ws text o h = inr h

-- so what comes of words that ask for a job comes of this
pub asked_comes : (words : List (List ℕ)) (job : Job) (ws : List Watcher) (text : List ℕ) (o : Outcome)
    → Asks words job → IsOutcome words ws text o → ComesBy job.command job ws text o
asked_comes words job ws text o asks h = elim (word_cases words ws text o h) [
  | inl (place, is, bad) ↦ absurd (bad.outside (job, asks))
  | inr came ↦
      subst (λ (j : Job). ComesBy j.command j ws text o) (same_job words came.job job came.asks asks) came.comes
]

-- by the line of its command, where this reads no certificate
pub line_comes : (words : List (List ℕ)) (job : Job) (ws : List Watcher) (text : List ℕ) (o : Outcome)
    → Asks words job → IsOfLine job.command → IsOutcome words ws text o → ComesOf job ws text o
line_comes words job ws text o asks line h =
    of_line job.command job ws text o line (asked_comes words job ws text o asks h)

-- and outcomes of words are alike where those of their job are
pub alike_words : (Alike : Outcome → Outcome → Type 0) → ((o p : Outcome) → o ≡ p → Alike o p)
    → (words : List (List ℕ)) (ws vs : List Watcher) (text : List ℕ) → ((job : Job) → Asks words job → (o p : Outcome)
    → ComesBy job.command job ws text o → ComesBy job.command job vs text p → Alike o p) → (o p : Outcome)
    → IsOutcome words ws text o → IsOutcome words vs text p → Alike o p
alike_words Alike same words ws vs text alike o p h h' = elim (word_cases words ws text o h) [
  | inl (place, o_is, bad) ↦ elim (word_cases words vs text p h') [
    | inl (other, p_is, bad') ↦
        let places : place ≡ other = same_first_bad AreWords words place other bad bad' in
        same o p (o_is ∙ ap (λ n. Refused (Usage n)) places ∙ sym p_is)
    | inr came ↦ absurd (bad.outside (came.job, came.asks))
  ]
  | inr came ↦ alike came.job came.asks o p came.comes (asked_comes words came.job vs text p came.asks h')
]
