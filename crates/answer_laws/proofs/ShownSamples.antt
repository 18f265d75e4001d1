-- An output with status 0 or 1 is that of an end, and shows the sample, or the events that still occur.
use Rattle.std.proofs.Common.{inl, inr, ◌≡◌, ℕ, List, length, None, sym, ap, subst, ◌∙◌, arith, Option, ◌≤◌, refl, zero, suc}
use Rattle.pop_model.specs.Stacks.{Origin}
use Rattle.pop_model.specs.Families.{Event}
use Rattle.pop_model.specs.Instances.{Instance}
use Rattle.pop_model.specs.Logs.{LogRecord, replay}
use Rattle.pop_model.specs.Runs.{start_of}
use Rattle.confluence_core.specs.declared.end.End.{End}
use Rattle.pop_words.specs.declared.command.Command.{Command}
use Rattle.pop_words.specs.declared.command.Command.TheVariants.{Check, Replay, Resume}
use Rattle.pop_words.specs.declared.job.Job.{Job}
use Rattle.pop_words.specs.CommandLines.{Asks}
use Rattle.pop_log.specs.Layers.{Placed}
use Rattle.pop_watch.specs.Telling.{Watcher}
use Rattle.run_cert.specs.Certificates.{Certificate, IsCertOf}
use Rattle.pop_print.specs.declared.facts.Facts.{Facts}
use Rattle.pop_print.specs.Output.{end_text}
use Rattle.pop_print.specs.Rounds.{rounds_text}
use Rattle.pop_print.specs.Batches.{batch_text}
use Rattle.job_subjects.specs.Subjects.{Subject, instance_over, IsSubjectOf}
use Rattle.told_runs.specs.Names.{names_for}
use Rattle.told_runs.specs.Witnesses.{Witness}
use Rattle.told_runs.specs.Witnesses.Witness.{Unasked, Missing, Shown}
use Rattle.told_runs.specs.Tellings.{Telling, records_of, telling_text}
use Rattle.told_runs.specs.Outcomes.{Outcome, status_of, text_of, end_status, run_text, resampled_text, resampled_status}
use Rattle.told_runs.specs.Outcomes.Outcome.{Refused, Extremal, Ended, Resampled, Rounded, Batched, Paused, Replayed}
use Rattle.told_runs.specs.Batches.{batch_status}
use Rattle.top_call.specs.Replays.{job_of}
use Rattle.top_call.specs.Resumes.{GoesOnFrom, ComesOfResuming}
use Rattle.top_call.specs.Answers.{wanted_by, ComesOf, ComesBy, origin_for, IsAnswer}
use Rattle.top_call.proofs.BatchWords.{is_batched, uncounted}
use Rattle.top_call.proofs.ReadCases.{no_replay}
use Rattle.answer_laws.specs.Shown.{ShowsSample, ShowsEnd, ShowsSamples, ShowsStuckSamples, ShowsEndOf, ShowsStuckOf, SampleShown, ExhaustedShown}
use Rattle.answer_laws.proofs.ToldSubjects.{ended_subject, resampled_made, rounded_made}
use Rattle.answer_laws.proofs.OneOutcome.{word_cases}
use Rattle.answer_laws.proofs.ShownSubjects.{IsEndOver, made_over, log_size, first_over, subject_shows, rounds_show}
use Rattle.answer_laws.proofs.ShownBehind.{end_more, ShowsBy, as_told}
use Rattle.answer_laws.proofs.ShownBatches.{batch_samples, batch_exhausted}
use Rattle.answer_laws.proofs.RefusedOr.{refusal_high, resuming_cases}

-- what the whole text of an end of what a job samples shows, whatever is told behind it
told_shows : (job : Job) (text : List ℕ) (facts : Facts) (i : Instance) (c : List ℕ) (pops : ℕ) (stuck : List Event)
    (a : Telling) (s : Subject) → IsSubjectOf job.command (wanted_by job) text s → facts ≡ s.facts
    → i ≡ instance_over (origin_for job) s → IsEndOver (origin_for job) c stuck s
    → ShowsEnd job.command job (origin_for job) text stuck (run_text facts i c pops stuck a)
told_shows job text facts i c pops stuck a s is facts_are instance_is end =
    let k : Command = job.command in
    let origin : Origin = origin_for job in
    let own : ShowsEnd k job origin text stuck (end_text s.facts (instance_over origin s) c pops stuck) =
    subject_shows k job origin text s is c pops stuck end in
    end_more k job origin text stuck (end_text facts i c pops stuck) (telling_text (names_for facts) i a)
    (subst (λ t. ShowsEnd k job origin text stuck (end_text t i c pops stuck)) (sym facts_are)
    (subst (λ j. ShowsEnd k job origin text stuck (end_text s.facts j c pops stuck)) (sym instance_is) own))

-- of one on one thread
ended_shows : (job : Job) (ws : List Watcher) (text : List ℕ) (facts : Facts) (i : Instance) (c : List ℕ) (pops : ℕ)
    (stuck : List Event) (a : Telling) → ComesOf job ws text (Ended facts i c pops stuck a)
    → ShowsEnd job.command job (origin_for job) text stuck (run_text facts i c pops stuck a)
ended_shows job ws text facts i c pops stuck a h =
    let of = ended_subject job ws text facts i c pops stuck a h in
    told_shows job text facts i c pops stuck a of.subject of.is of.facts_are of.instance_is
    (first_over (origin_for job) of.subject c pops stuck of.sound of.end)

-- and of a resampling
resampled_shows : (job : Job) (ws : List Watcher) (text : List ℕ) (facts : Facts) (i : Instance) (placed : List Placed)
    (stuck : List Event) (a : Telling) → ComesOf job ws text (Resampled facts i placed stuck a)
    → ShowsEnd job.command job (origin_for job) text stuck (resampled_text facts i placed stuck a)
resampled_shows job ws text facts i placed stuck a h =
    let of = resampled_made job ws text facts i placed stuck a h in
    let made = of.made in
    let c : List ℕ = replay (start_of i) (records_of placed) in
    told_shows job text facts i c (length placed) stuck a made.subject made.are made.over.facts_are
    made.over.instance_is
    (made_over (wanted_by job) text facts i c stuck made (log_size i (records_of placed)) of.leads.stuck_list)

-- a resampling with status 0 or 1 tells no missing pop
end_told : (status : ℕ) → status ≤ 1 → (stuck : List Event) (w : Witness) → resampled_status stuck w ≡ status
    → end_status stuck ≡ status
end_told status low stuck Unasked is = is
end_told status low stuck (Missing name entry c) is = absurd (omega (arith, is, low))
end_told status low stuck (Shown tree) is = is

-- what a text shows with this status, where so many samples are asked for
abbrev ShowsAll : ℕ → Option ℕ → Job → List ℕ → List ℕ → Type 0
ShowsAll zero count job text out = ShowsSamples count job text out
ShowsAll (suc status) count job text out = ShowsStuckSamples count job text out

-- where no number is asked for, it is what one shows
one_shown : (status : ℕ) (count : Option ℕ) (job : Job) (text out : List ℕ) → count ≡ None
    → ShowsBy status job.command job (origin_for job) text out → ShowsAll status count job text out
one_shown zero count job text out once shows = subst (λ k. ShowsSamples k job text out) (sym once) shows
one_shown (suc status) count job text out once shows = subst (λ k. ShowsStuckSamples k job text out) (sym once) shows

-- a verdict has status 0, and shows nothing
verdict_shown : (status : ℕ) (job : Job) (text out : List ℕ) → job.command ≡ Check → 0 ≡ status
    → ShowsBy status job.command job (origin_for job) text out
verdict_shown zero job text out check is = subst (λ k. ShowsSample k job text out) (sym check) tt
verdict_shown (suc status) job text out check is = absurd (omega (arith, is))

-- a batch shows what is asked for
batch_shown : (status : ℕ) → status ≤ 1 → (words : List (List ℕ)) (job : Job) → Asks words job → (ws : List Watcher)
    (text : List ℕ) (facts : Facts) (i : Instance) (ends : List End) → ComesOf job ws text (Batched facts i ends)
    → batch_status ends ≡ status → ShowsAll status job.count job text (batch_text facts i ends)
batch_shown zero low words job asks ws text facts i ends h is = batch_samples words job asks ws text facts i ends h is
batch_shown (suc zero) low words job asks ws text facts i ends h is =
    batch_exhausted words job asks ws text facts i ends h is
batch_shown (suc (suc status)) low words job asks ws text facts i ends h is = absurd (omega (arith, low))

module _ (status : ℕ) (low : status ≤ 1) where
  -- what comes of a job's line and has this status
  line_shown : (words : List (List ℕ)) (job : Job) → Asks words job → (ws : List Watcher) (text : List ℕ) (o : Outcome)
      → ComesOf job ws text o → status_of o ≡ status → ShowsAll status job.count job text (text_of o)
  line_shown words job asks ws text (Refused r) h is = absurd (omega (arith, is, low, refusal_high r))
  line_shown words job asks ws text (Ended facts i c pops stuck a) h is =
      let out : List ℕ = run_text facts i c pops stuck a in
      one_shown status job.count job text out (ended_subject job ws text facts i c pops stuck a h).once
      (as_told status job.command job (origin_for job) text stuck out is (ended_shows job ws text facts i c pops stuck a h))
  line_shown words job asks ws text (Resampled facts i placed stuck a) h is =
      let out : List ℕ = resampled_text facts i placed stuck a in
      one_shown status job.count job text out
      (uncounted words job asks (ap is_batched (resampled_made job ws text facts i placed stuck a h).by))
      (as_told status job.command job (origin_for job) text stuck out (end_told status low stuck a.witness is)
      (resampled_shows job ws text facts i placed stuck a h))
  line_shown words job asks ws text (Rounded facts i c rounds stuck short) h is =
      let out : List ℕ = rounds_text facts i c rounds stuck short in
      one_shown status job.count job text out
      (uncounted words job asks (ap is_batched (rounded_made job ws text facts i c rounds stuck short h).by))
      (as_told status job.command job (origin_for job) text stuck out is
      (rounds_show job ws text facts i c rounds stuck short h))
  line_shown words job asks ws text (Batched facts i ends) h is =
      batch_shown status low words job asks ws text facts i ends h is
  line_shown words job asks ws text (Extremal n) (check, verdict) is =
      one_shown status job.count job text (text_of (Extremal n)) (uncounted words job asks (ap is_batched check))
      (verdict_shown status job text (text_of (Extremal n)) check is)
  line_shown words job asks ws text (Replayed i c n k) h is = absurd (no_replay job ws text i c n k h)
  line_shown words job asks ws text (Paused j w t i l) h is = absurd (omega (arith, is, low))

  -- what comes of a run that goes on and has it
  resumed_shown : (job : Job) (ws : List Watcher) (text : List ℕ) (log : List LogRecord) (o : Outcome)
      → GoesOnFrom log o → ComesOf job ws text o → status_of o ≡ status → ShowsAll status None job text (text_of o)
  resumed_shown job ws text log (Ended facts i c pops stuck a) goes h is =
      let out : List ℕ = run_text facts i c pops stuck a in
      one_shown status None job text out refl
      (as_told status job.command job (origin_for job) text stuck out is (ended_shows job ws text facts i c pops stuck a h))
  resumed_shown job ws text log (Resampled facts i placed stuck a) goes h is =
      let out : List ℕ = resampled_text facts i placed stuck a in
      one_shown status None job text out refl
      (as_told status job.command job (origin_for job) text stuck out (end_told status low stuck a.witness is)
      (resampled_shows job ws text facts i placed stuck a h))
  resumed_shown job ws text log o goes h is = absurd goes

  -- so it is with the run of a certificate
  cert_shown : (ws : List Watcher) (text : List ℕ) (o : Outcome) → ComesOfResuming ComesOf ws text o
      → status_of o ≡ status
      → (cert : Certificate) × IsCertOf text cert × ShowsAll status None (job_of cert.head) cert.input (text_of o)
  cert_shown ws text o h is = elim (resuming_cases ComesOf ws text o h) [
    | inl (r, o_is, refused) ↦
        let same = sym (ap status_of o_is) ∙ is in absurd (omega (arith, same, low, refusal_high r))
    | inr b ↦ (
      b.cert,
      b.is,
      resumed_shown (job_of b.cert.head) ws b.cert.input b.comes.has.log o b.comes.goes_on b.comes.comes is,
    )
  ]

  -- and so with the answer to words, where what each command shows is known
  pub answer_shown : (ShowsOf : Command → Job → List ℕ → List ℕ → Type 0)
      → ((k : Command) (words : List (List ℕ)) (job : Job) → Asks words job → (ws : List Watcher) (text : List ℕ)
      (o : Outcome) → ComesBy k job ws text o → status_of o ≡ status → ShowsOf k job text (text_of o))
      → (words : List (List ℕ)) (ws : List Watcher) (text out : List ℕ) → IsAnswer words ws text status out
      → (job : Job) × Asks words job × ShowsOf job.command job text out
  answer_shown ShowsOf shown words ws text out (o, comes, tells) = elim (word_cases words ws text o comes) [
    | inl (place, is, bad) ↦ let two = tells.status_is ∙ ap status_of is in absurd (omega (arith, two, low))
    | inr came ↦ (
      came.job,
      came.asks,
      subst (ShowsOf came.job.command came.job text) (sym tells.out_is)
          (shown came.job.command words came.job came.asks ws text o came.comes (sym tells.status_is)),
    )
  ]

-- what comes of a command and has status 0
sample_by : (k : Command) (words : List (List ℕ)) (job : Job) → Asks words job → (ws : List Watcher) (text : List ℕ)
    (o : Outcome) → ComesBy k job ws text o → status_of o ≡ 0 → ShowsEndOf k job text (text_of o)
sample_by Replay words job asks ws text o h is = tt
sample_by Resume words job asks ws text o h is = cert_shown 0 (omega arith) ws text o h is
sample_by k words job asks ws text o h is = line_shown 0 (omega arith) words job asks ws text o h is

-- and 1
exhausted_by : (k : Command) (words : List (List ℕ)) (job : Job) → Asks words job → (ws : List Watcher)
    (text : List ℕ) (o : Outcome) → ComesBy k job ws text o → status_of o ≡ 1 → ShowsStuckOf k job text (text_of o)
exhausted_by Replay words job asks ws text o h is = tt
exhausted_by Resume words job asks ws text o h is = cert_shown 1 (omega arith) ws text o h is
exhausted_by k words job asks ws text o h is = line_shown 1 (omega arith) words job asks ws text o h is

-- the law of samples
pub sample_shown : SampleShown
sample_shown = answer_shown 0 (omega arith) ShowsEndOf sample_by

-- the law of exhausted ends
pub exhausted_shown : ExhaustedShown
exhausted_shown = answer_shown 1 (omega arith) ShowsStuckOf exhausted_by
