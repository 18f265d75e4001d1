-- Arguments and an input have at most one outcome, except for the order of pops of `resample` and the pops before a
-- pause. The arguments specify one job or have one invalid place, and the job has one outcome: by the line of its
-- command, or for a certificate. Two runs of one instance with one layered log print the same. So for arguments,
-- watchers and an input at most one outcome shows a given log.
use Rattle.std.proofs.Common.{inl, ◌≡◌, ◌≢◌, ℕ, List, None, refl, sym, subst, ap, ◌∙◌, inr, length}
use Rattle.std.proofs.lemmas.Option.{same_Some}
use Rattle.pop_model.specs.Families.{Event}
use Rattle.pop_model.specs.Instances.{Instance}
use Rattle.pop_model.specs.Logs.{replay}
use Rattle.pop_model.specs.Runs.{start_of}
use Rattle.pop_model.proofs.OneRun.{one_stuck_list}
use Rattle.pop_words.specs.declared.command.Command.{Command}
use Rattle.pop_words.specs.declared.command.Command.TheVariants.{Resample, Replay, Resume}
use Rattle.pop_words.specs.declared.job.Job.{Job}
use Rattle.pop_log.specs.Layers.{Placed}
use Rattle.pop_watch.specs.Telling.{Watcher}
use Rattle.pop_print.specs.declared.facts.Facts.{Facts}
use Rattle.told_runs.specs.Outcomes.{Outcome, status_of, text_of, Tells}
use Rattle.told_runs.specs.Asking.{asked_by}
use Rattle.told_runs.specs.Names.{names_for}
use Rattle.told_runs.specs.Tellings.{Telling, records_of, LeadsToEnd}
use Rattle.told_runs.specs.Outcomes.Outcome.{Resampled, Paused}
use Rattle.top_call.specs.Answers.{ComesBy, IsOutcome, ComesOf}
use Rattle.top_call.specs.Replays.{job_of}
use Rattle.top_call.specs.Pauses.{IsPause}
use Rattle.answer_laws.specs.Orders.{HasOneEnd, LeadsToOneEnd}
use Rattle.answer_laws.specs.Laws.{AskForOneEnd, AskForLikeReports, ReportAlike, AskForLike, Agree, OneEndedAnswer, shown_log}
use Rattle.answer_laws.proofs.OneOutcome.{alike_read, one_ended, one_read, alike_words, line_comes}
use Rattle.answer_laws.proofs.OneReplay.{one_replaying, alike_resuming, one_resuming, alike_resumed}
use Rattle.answer_laws.proofs.ToldLogs.{one_telling}
use Rattle.answer_laws.proofs.ToldSubjects.{IsHistoryOfMade, resampled_made}

-- ---- the outcome of words

-- two outcomes of a command, with watchers that report alike where one end is asked for
alike_by : (k : Command) (job : Job) (ws vs : List Watcher) (text : List ℕ) (o p : Outcome)
    → (job.command ≢ Resample → ReportAlike job.reports ws vs) → ComesBy k job ws text o → ComesBy k job vs text p
    → Agree o p
alike_by Replay job ws vs text o p like h h' = inl (one_replaying text o p h h')
alike_by Resume job ws vs text o p like h h' = alike_resuming ws vs text o p h h'
alike_by k job ws vs text o p like h h' = alike_read job ws vs text o p like h h'

-- two outcomes of words and a text
pub one_outcome : (words : List (List ℕ)) (ws vs : List Watcher) (text : List ℕ) (o p : Outcome)
    → AskForLike words ws vs → IsOutcome words ws text o → IsOutcome words vs text p → Agree o p
one_outcome words ws vs text o p like =
    alike_words Agree (λ o p is. inl is) words ws vs text
    (λ job asks o p. alike_by job.command job ws vs text o p (like job asks)) o p

-- of a command whose orders of pops lead to one end, and whose run doesn't stop, one thing comes
one_by : (k : Command) (job : Job) (ws vs : List Watcher) (text : List ℕ) (o p : Outcome) → job.command ≡ k
    → LeadsToOneEnd k text → job.pops ≡ None → ReportAlike job.reports ws vs → ComesBy k job ws text o
    → ComesBy k job vs text p → o ≡ p
one_by Replay job ws vs text o p is ordered out like h h' = one_replaying text o p h h'
one_by Resume job ws vs text o p is ordered out like h h' = one_resuming ws vs text o p ordered h h'
one_by k job ws vs text o p is ordered out like h h' =
    one_read job ws vs text o p (subst (λ c. HasOneEnd c text) (sym is) ordered) out like h h'

-- so words that ask for such a run have with a text one outcome
pub one_end : (words : List (List ℕ)) (ws vs : List Watcher) (text : List ℕ) (o p : Outcome) → AskForOneEnd words text
    → AskForLikeReports words ws vs → IsOutcome words ws text o → IsOutcome words vs text p → o ≡ p
one_end words ws vs text o p once like =
    alike_words (λ o p. o ≡ p) (λ o p is. is) words ws vs text
    (λ job asks o p. one_by job.command job ws vs text o p refl (once job asks).0 (once job asks).1 (like job asks)) o p

-- so two answers that tell one outcome are the same
pub told_alike : {status other : ℕ} {out out' : List ℕ} (o p : Outcome) → o ≡ p → Tells o status out → Tells p other out'
    → (status ≡ other) × (out ≡ out')
told_alike o p same tells tells' = (
  tells.status_is ∙ ap status_of same ∙ sym tells'.status_is,
  tells.out_is ∙ ap text_of same ∙ sym tells'.out_is,
)

-- ---- outcomes that show a log

-- two such outcomes with one log are the same
same_logged : (job : Job) (ws : List Watcher) (text : List ℕ) (facts : Facts) (i : Instance) (placed : List Placed)
    (s r : List Event) (a b : Telling) → IsHistoryOfMade job ws text facts i placed s a
    → IsHistoryOfMade job ws text facts i placed r b → Resampled facts i placed s a ≡ Resampled facts i placed r b
same_logged job ws text facts i placed s r a b h h' =
    let stuck : s ≡ r =
    one_stuck_list i (replay (start_of i) (records_of placed)) s r h.leads.stuck_list h'.leads.stuck_list in
    let told : a ≡ b =
    one_telling (asked_by job) ws ws (names_for facts) i placed a b (λ log. refl) h.leads.legal h.told h'.told in
    cc

-- a log that leads to an end leads to no pause
ends_or_pauses : (i : Instance) (pops : ℕ) (placed : List Placed) (stuck : List Event)
    → LeadsToEnd i (records_of placed) stuck → IsPause i pops placed → ⊥
ends_or_pauses i pops placed stuck leads pause =
    let (e, is, still) = pause.poppable in leads.end e is still

-- where outcomes that agree show one log, they are one
abbrev ShowOnce : Outcome → Outcome → Type 0
ShowOnce o p = shown_log o ≡ shown_log p → Agree o p → o ≡ p

-- so it is with those of a job, watchers and a text
line_logged : (job : Job) (ws : List Watcher) (text : List ℕ) (o p : Outcome) → ComesOf job ws text o
    → ComesOf job ws text p → ShowOnce o p
line_logged job ws text o p h h' shown (inl is) = is
line_logged job ws text (Resampled t i l s a) (Resampled u j m r b) h h' shown (inr runs) =
    let facts : t ≡ u = runs.0 in
    let instance : i ≡ j = runs.1 in
    let log : l ≡ m = same_Some l m shown in
    let one = resampled_made job ws text t i l s a h in
    let other = resampled_made job ws text u j m r b h' in
    let moved : IsHistoryOfMade job ws text u j m s a =
    subst (λ k. IsHistoryOfMade job ws text k j m s a) facts
    (subst (λ k. IsHistoryOfMade job ws text t k m s a) instance
    (subst (λ k. IsHistoryOfMade job ws text t i k s a) log one)) in
    let same : Resampled u j m s a ≡ Resampled u j m r b = same_logged job ws text u j m s r a b moved other in
    cc
line_logged job ws text (Resampled t i l s a) (Paused k x u j m) h h' shown
    (inr (facts, instance, (leads, most, pause))) =
    let log : l ≡ m = same_Some l m shown in
    absurd (ends_or_pauses i (length m) l s leads (subst (λ n. IsPause i (length m) n) (sym log) pause))
line_logged job ws text (Paused k x u j m) (Resampled t i l s a) h h' shown
    (inr (facts, instance, (leads, most, pause))) =
    let log : m ≡ l = same_Some m l shown in
    absurd (ends_or_pauses i (length m) l s leads (subst (λ n. IsPause i (length m) n) log pause))
line_logged job ws text (Paused k x t i l) (Paused n y u j m) h h' shown
    (inr (jobs, inputs, facts, instance, pause, other)) =
    let log : l ≡ m = same_Some l m shown in
    cc
line_logged job ws text o p h h' shown (inr runs) = absurd runs

-- and by each command, where a certificate is resumed by the line of its own
logged_by : (k : Command) (job : Job) (ws : List Watcher) (text : List ℕ) (o p : Outcome) → ComesBy k job ws text o
    → ComesBy k job ws text p → ShowOnce o p
logged_by Replay job ws text o p h h' = λ shown agree. one_replaying text o p h h'
logged_by Resume job ws text o p h h' =
    alike_resumed ShowOnce (λ o p is shown agree. is) ws ws text
    (λ cert is o p. line_logged (job_of cert.head) ws cert.input o p) o p h h'
logged_by k job ws text o p h h' = line_logged job ws text o p h h'

-- outcomes of words, watchers and a text that show one log are the same
pub one_logged : (words : List (List ℕ)) (ws : List Watcher) (text : List ℕ) (o p : Outcome) → IsOutcome words ws text o
    → IsOutcome words ws text p → shown_log o ≡ shown_log p → Agree o p → o ≡ p
one_logged words ws text o p =
    alike_words ShowOnce (λ o p is shown agree. is) words ws ws text
    (λ job asks o p. logged_by job.command job ws text o p) o p

-- ---- runs that may stop, and come to their end

-- the law
pub one_ended_answer : OneEndedAnswer
one_ended_answer job words ws vs text status other out out' asks line ordered like (o, comes, tells) (p, comes', tells') ends
    end =
    told_alike o p (one_ended job ws vs text o p ordered like (line_comes words job ws text o asks line comes)
    (line_comes words job vs text p asks line comes') (λ ten. ends (tells.status_is ∙ ten))
    (λ ten. end (tells'.status_is ∙ ten))) tells tells'
