-- The run of a certificate that continues to an end is the outcome of its bytes. Its end is printed as the command
-- line of the certificate prints it. If that prints the log, it is the log of both parts.
use Rattle.std.proofs.Common.{inl, inr, ◌≡◌, ◌≢◌, ℕ, Bool, true, false, if◌then◌else◌, List, [], ◌++◌, Option, None, Some, Result, IfOk, refl, sym, ap, subst, ◌∙◌}
use Rattle.std.proofs.lemmas.Bool.{cases_Bool, false≢true}
use Rattle.std.proofs.lemmas.Option.{none-some, same_Some}
use Rattle.pop_model.specs.Instances.{Instance}
use Rattle.pop_model.specs.Extremal.{IsExtremal}
use Rattle.pop_model.specs.Logs.{LogRecord, IsLegal}
use Rattle.pop_model.specs.Runs.{start_of}
use Rattle.confluence_core.proofs.Reaching.{leads_keeping}
use Rattle.confluence_core.specs.declared.reached.Reached.{Reached}
use Rattle.confluence_core.specs.declared.run.Run.{Run}
use Rattle.confluence_core.specs.Runs.{IsRunOf, ended}
use Rattle.confluence_core.specs.Stretches.{GoesOn, IsReached, with_more}
use Rattle.pop_words.specs.declared.command.Command.{Command}
use Rattle.pop_words.specs.declared.command.Command.TheVariants.{Resample}
use Rattle.pop_words.specs.Options.{default_job}
use Rattle.pop_watch.specs.Telling.{Watcher}
use Rattle.pop_print.specs.declared.facts.Facts.{Facts}
use Rattle.run_cert.specs.Certificates.{Certificate}
use Rattle.top_call.specs.declared.accepted.Accepted.{Accepted}
use Rattle.job_subjects.specs.declared.answer.Answer.{Answer}
use Rattle.told_runs.specs.declared.asked.Asked.{Asked}
use Rattle.told_runs.specs.Outcomes.{Outcome, AnswersBy}
use Rattle.told_runs.specs.Outcomes.Outcome.{Refused, Ended, Resampled, Batched}
use Rattle.told_runs.specs.Tellings.{asks_for_log}
use Rattle.told_runs.specs.Ends.{IsEndOf, IsHistoryWith}
use Rattle.top_call.specs.Replays.{job_of}
use Rattle.top_call.specs.Resumes.{IsJoined, IsJoinedLog, GoesOnFrom, IsResumed, ComesOfResuming}
use Rattle.top_call.specs.Accepted.{IsHeldBy, IsAccepted}
use Rattle.told_runs.specs.Asking.{has_free_order, asked_by}
use Rattle.top_call.specs.Answers.{ComesOf}
use Rattle.top_call.proofs.Carrying.{answered, answers_more}
use Rattle.top_call.proofs.MadeComes.{end_comes, ordered_end}
use Rattle.top_call.proofs.PauseWords.{paused_no_rounds}
use Rattle.top_call.proofs.ReplayedCerts.{held_log}

-- with its log where it is to be kept, a run has come as far
pub kept_reached : (i : Instance) (start : List ℕ) (keeps : Bool) (reached : Reached) (kept : Option (List LogRecord))
    → kept ≡ (if keeps then reached.log else None) → IsReached i start true reached
    → IsReached i start keeps (record reached { log = kept })
kept_reached i start keeps reached kept same is = record {
  leads = leads_keeping i start keeps reached kept reached.suspects same is.leads;
  can = record {
    count = is.can.count;
    within = is.can.within;
    units = is.can.units;
    suspects = is.can.suspects;
  };
}

-- what goes on from there to an end is a run
pub whole_run : (i : Instance) (keeps asked : Bool) (reached : Reached) (kept : Option (List LogRecord)) (whole : Run)
    → kept ≡ (if keeps then reached.log else None) → IsReached i (start_of i) true reached → keeps ≡ asked
    → ((start : List ℕ) → (b : Bool) → IsReached i start b (record reached { log = kept }) → IsRunOf i start b whole)
    → IsRunOf i (start_of i) asked whole
whole_run i keeps asked reached kept whole same is asks run =
    subst (λ b. IsRunOf i (start_of i) b whole) asks
    (run (start_of i) keeps (kept_reached i (start_of i) keeps reached kept same is))

-- a log that is kept is that of both parts
both_parts : (keeps : Bool) (log kept whole : Option (List LogRecord)) (first rest both : List LogRecord) → log ≡ Some first
    → kept ≡ (if keeps then log else None) → whole ≡ with_more kept rest → whole ≡ Some both → both ≡ first ++ rest
both_parts true log kept whole first rest both first_is same whole_is is =
    same_Some both (first ++ rest) (sym is ∙ whole_is ∙ ap (λ k. with_more k rest) (same ∙ first_is))
both_parts false log kept whole first rest both first_is same whole_is is =
    absurd (none-some both (sym (whole_is ∙ ap (λ k. with_more k rest) same) ∙ is))

-- so is that of a run that goes on from there
pub goes_on_joined : (i : Instance) (keeps : Bool) (reached : Reached) (kept : Option (List LogRecord))
    (is : IsReached i (start_of i) true reached) (whole : Run) → kept ≡ (if keeps then reached.log else None)
    → GoesOn i (record reached { log = kept }) (ended whole) → IsJoinedLog i is.leads.log whole.log
goes_on_joined i keeps reached kept is whole same on both both_is = (
  on.leads.log,
  both_parts keeps reached.log kept whole.log is.leads.log on.leads.log both is.leads.log_is same on.leads.log_is both_is,
  subst (λ c. IsLegal i c on.leads.log) is.leads.cursors_are on.leads.legal,
)

-- the order of pops is free where a formula is resampled
free_command : (k : Command) → has_free_order k ≡ true → k ≡ Resample
free_command Resample is = refl
free_command k is = absurd (false≢true is)

-- an end of one run goes on
end_goes_on : (log : List LogRecord) (asked : Asked) (ws : List Watcher) (facts : Facts) (i : Instance)
    → asked.count ≡ None → (o : Outcome) → IsEndOf asked ws facts i o → GoesOnFrom log o
end_goes_on log asked ws facts i once (Ended t j c n s a) h = tt
end_goes_on log asked ws facts i once (Batched t j es) h = absurd (none-some h.2.count (sym once ∙ h.2.asked_is))
end_goes_on log asked ws facts i once o h = absurd h

-- so does a history with the log of both parts
history_goes_on : (first log : List LogRecord) (asked : Asked) (ws : List Watcher) (facts : Facts) (i : Instance)
    → IsJoined i first log → (o : Outcome) → IsHistoryWith log asked ws facts i o → GoesOnFrom first o
history_goes_on first log asked ws facts i joined (Resampled t j l s a) h =
    (log, subst (λ k. IsJoined k first log) (sym h.0.1) joined, h.1)
history_goes_on first log asked ws facts i joined o h = absurd h.1

-- what is asked for of a certificate that is accepted
held_asked : (cert : Certificate) (a : Accepted) (asked : Asked) → IsHeldBy cert a
    → asked ≡ asked_by (default_job a.command) → asked ≡ asked_by (job_of cert.head)
held_asked cert a asked held is = is ∙ ap (λ k. asked_by (default_job k)) held.command_is

-- the end of a run that goes on
resumed_end : (cert : Certificate) (a : Accepted) (ws : List Watcher) (asked : Asked) → IsHeldBy cert a
    → asked ≡ asked_by (default_job a.command) → cert.head.command ≢ Resample → (o : Outcome)
    → IsEndOf asked ws a.facts a.instance o → IsResumed ComesOf ws cert o
resumed_end cert a ws asked held is ordered o end =
    let job = job_of cert.head in
    let k = cert.head.command in
    let own : IsEndOf (asked_by job) ws a.facts a.instance o =
    subst (λ q. IsEndOf q ws a.facts a.instance o) (held_asked cert a asked held is) end in
    record {
      has = held_log cert a held;
      goes_on = end_goes_on held.run.leads.log (asked_by job) ws a.facts a.instance refl o own;
      comes = end_comes job k ws cert.input a.facts a.instance refl held.certified.made o
          (ordered_end k ordered (paused_no_rounds k held.paused_is) (asked_by job) ws a.facts a.instance o own);
    }

-- its history
resumed_history : (cert : Certificate) (a : Accepted) (ws : List Watcher) (asked : Asked) (held : IsHeldBy cert a)
    → asked ≡ asked_by (default_job a.command) → cert.head.command ≡ Resample → (log : List LogRecord)
    → IsJoined a.instance held.run.leads.log log → (o : Outcome) → IsHistoryWith log asked ws a.facts a.instance o
    → IsResumed ComesOf ws cert o
resumed_history cert a ws asked held is free log joined o history =
    let job = job_of cert.head in
    let own : IsHistoryWith log (asked_by job) ws a.facts a.instance o =
    subst (λ q. IsHistoryWith log q ws a.facts a.instance o) (held_asked cert a asked held is) history in
    record {
      has = held_log cert a held;
      goes_on = history_goes_on held.run.leads.log log (asked_by job) ws a.facts a.instance joined o own;
      comes = end_comes job Resample ws cert.input a.facts a.instance free held.certified.made o own.0;
    }

-- the answer that tells it
pub resumed_result : {E : Type 0} (cert : Certificate) (a : Accepted) (ws : List Watcher) (asked : Asked) (whole : Run)
    (r : Result Answer E) (held : IsHeldBy cert a) → asked ≡ asked_by (default_job a.command)
    → IsRunOf a.instance (start_of a.instance) (asks_for_log asked) whole
    → IsJoinedLog a.instance held.run.leads.log whole.log
    → (asked.free ≡ false → asked.count ≡ None → IsExtremal a.instance.family
    → IfOk r (λ x. AnswersBy (IsEndOf asked ws a.facts a.instance) x.status x.text.items))
    → (asked.free ≡ true → (log : List LogRecord) → whole.log ≡ Some log
    → IfOk r (λ x. AnswersBy (IsHistoryWith log asked ws a.facts a.instance) x.status x.text.items))
    → IfOk r (λ x. AnswersBy (IsResumed ComesOf ws cert) x.status x.text.items)
resumed_result cert a ws asked whole r held is run joined ended history =
    elim (cases_Bool (has_free_order a.command)) [
      | inl free ↦
          let command : a.command ≡ Resample = free_command a.command free in
          let keeps : asks_for_log asked ≡ true = ap asks_for_log is ∙ ap (λ k. asks_for_log (asked_by (default_job k))) command in
          let log = run.reached.leads.log in
          let kept : whole.log ≡ Some log =
          run.reached.leads.log_is ∙ ap (λ b. with_more (if b then Some [] else None) log) keeps in
          answers_more (IsHistoryWith log asked ws a.facts a.instance) (IsResumed ComesOf ws cert) r
          (resumed_history cert a ws asked held is (sym held.command_is ∙ command) log (joined log kept))
          (history (ap (λ (q : Asked). q.free) is ∙ free) log kept)
      | inr ordered ↦
          let other : cert.head.command ≢ Resample =
          λ same. false≢true (sym ordered ∙ ap has_free_order (held.command_is ∙ same)) in
          answers_more (IsEndOf asked ws a.facts a.instance) (IsResumed ComesOf ws cert) r
          (resumed_end cert a ws asked held is other)
          (ended (ap (λ (q : Asked). q.free) is ∙ ordered) (ap (λ (q : Asked). q.count) is) (held.extremal other))
    ]

-- so it comes of the text that is the certificate
resumed_comes : (ws : List Watcher) (text : List ℕ) (a : Accepted) (accepted : IsAccepted text a) (o : Outcome)
    → IsResumed ComesOf ws accepted.cert o → ComesOfResuming ComesOf ws text o
resumed_comes ws text a accepted (Refused r) h = absurd h.goes_on
resumed_comes ws text a accepted o h =
    record { short = accepted.short; cert = accepted.cert; is = accepted.is; comes = h }

pub resumed_told : (ws : List Watcher) (text : List ℕ) (a : Accepted) (status : ℕ) (out : List ℕ) → IsAccepted text a
    → ((cert : Certificate) → IsHeldBy cert a → AnswersBy (IsResumed ComesOf ws cert) status out)
    → AnswersBy (ComesOfResuming ComesOf ws text) status out
resumed_told ws text a status out accepted told =
    answered (IsResumed ComesOf ws accepted.cert) (ComesOfResuming ComesOf ws text) status out
    (resumed_comes ws text a accepted) (told accepted.cert accepted.held)
