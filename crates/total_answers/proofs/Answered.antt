-- Every line has an answer: words ask for a job or have a first bad place, and something comes of each job, by the line
-- of its command or of a certificate.
use Rattle.std.proofs.Common.{inl, inr, ◌≡◌, ◌≢◌, ◌⊎◌, ℕ, List, ◌++◌, length, Option, None, Some, Result, Ok, Err, refl, sym, subst, ◌∙◌, arith}
use Rattle.std.proofs.lemmas.Option.{none-some}
use Rattle.pop_model.specs.Instances.{Instance}
use Rattle.pop_model.specs.Logs.{LogRecord, IsLegal, replay}
use Rattle.pop_model.specs.Runs.{IsEnd, start_of}
use Rattle.pop_model.proofs.Replays.{length-replay, length-start}
use Rattle.confluence_core.proofs.LegalLogs.{legal_append, replay_append}
use Rattle.dimacs_read.specs.CnfText.{AnswersCnf}
use Rattle.pop_words.specs.declared.command.Command.{Command}
use Rattle.pop_words.specs.declared.command.Command.TheVariants.{Formula, Orient, Tree, Resample, Check, Make, Rounds, Replay, Resume}
use Rattle.pop_words.specs.declared.job.Job.{Job}
use Rattle.pop_words.specs.CommandLines.{Asks, AreWords, IsBadPlace}
use Rattle.pop_words.specs.Reading.{reading}
use Rattle.pop_words.proofs.JobsInRange.{asked_root, asked_size}
use Rattle.pop_words.proofs.ReadingLemmas.{IsReading, reading_is}
use Rattle.pop_log.specs.LogVersions.{IsReadAs}
use Rattle.pop_log.specs.declared.names.Names.{Names}
use Rattle.pop_watch.specs.Telling.{Watcher}
use Rattle.run_cert.specs.Certificates.{Certificate}
use Rattle.job_subjects.specs.declared.refusal.Refusal.TheVariants.{Usage}
use Rattle.job_subjects.specs.Refused.{RefusesBy}
use Rattle.job_subjects.specs.Subjects.{Subject, instance_over}
use Rattle.told_runs.specs.Outcomes.{Outcome, status_of, text_of}
use Rattle.told_runs.specs.Outcomes.Outcome.{Refused, Extremal}
use Rattle.top_call.specs.Answers.{ComesBy, ComesOf, IsOutcome, origin_for, wanted_by}
use Rattle.top_call.specs.Pauses.{MayStop}
use Rattle.top_call.specs.Replays.{job_of, wanted_of}
use Rattle.top_call.specs.Resumes.{ComesOfResuming, IsResumed}
use Rattle.top_call.proofs.Lifting.{of_words}
use Rattle.top_call.proofs.PauseWords.{paused_no_rounds, stopped_may}
use Rattle.answer_laws.proofs.MadeBounds.{AreShort, job_short, spec_short}
use Rattle.answer_laws.proofs.SubjectKinds.{formula_family}
use Rattle.total_answers.specs.Totality.{AlwaysAnswered}
use Rattle.total_answers.proofs.CertsRead.{AcceptedBytes, accepted_log, bytes_or_refused, replayed_comes}
use Rattle.total_answers.proofs.Clashes.{extremal_or_clashed}
use Rattle.total_answers.proofs.ClauseEvents.{clause_events}
use Rattle.total_answers.proofs.LinesFound.{batched, ended, history, resampled, rounded}
use Rattle.total_answers.proofs.Making.{CanBeMade, Samples, made_or_refused}
use Rattle.total_answers.proofs.StuckFound.{runs_out}
use Rattle.total_answers.proofs.Texts.{reads_cnf, unread_by}
use Rattle.job_subjects.specs.Refusals.{unread}

-- a command is another, or not
is_resample : (k : Command) → (k ≡ Resample) ⊎ (k ≢ Resample)
is_resample Resample = inl refl
is_resample k = inr (λ same. cc)

is_rounds : (k : Command) → (k ≡ Rounds) ⊎ (k ≢ Rounds)
is_rounds Rounds = inl refl
is_rounds k = inr (λ same. cc)

-- ---- certificates that are resumed

-- the log of a text that is read is legal
read_legal : (names : Names) (i : Instance) (text : List ℕ) (log : List LogRecord) → IsReadAs names i text log
    → IsLegal i (start_of i) log
read_legal names i text log (inl of) = of.legal
read_legal names i text log (inr of) = of.legal

-- what comes of a run that goes on comes of the bytes
resume_comes : (ws : List Watcher) (bytes : List ℕ) (b : AcceptedBytes bytes) (o : Outcome)
    → IsResumed ComesOf ws b.cert o → ComesOfResuming ComesOf ws bytes o
resume_comes ws bytes b (Refused r) h = absurd h.goes_on
resume_comes ws bytes b o h = record { short = b.short; cert = b.cert; is = b.is; comes = h }

-- a certificate that is accepted goes on to an end
goes_on : (ws : List Watcher) (bytes : List ℕ) (b : AcceptedBytes bytes) → (o : Outcome) × IsResumed ComesOf ws b.cert o
goes_on ws bytes b =
    let a = b.accepted in
    let cert : Certificate = b.cert in
    let head = b.is.is.head in
    let job : Job = job_of cert.head in
    let i : Instance = instance_over (wanted_of cert.head).origin a.subject in
    let start : List ℕ = start_of i in
    let short : AreShort (origin_for job) =
    spec_short cert.head.stacks cert.head.height head.stacks head.height in
    let stop : (pops : ℕ) → job.pops ≡ Some pops → MayStop job = λ pops is. absurd (none-some pops is) in
    let legal : IsLegal i start a.log = read_legal _ i cert.log_text a.log a.read in
    elim (is_resample cert.head.command) [
      | inl is ↦
          let size = length-replay start a.log ∙ length-start i in
          let rest = runs_out i a.certified.is.family a.certified.is.fits (replay start a.log) size in
          let whole : List LogRecord = a.log ++ rest.log in
          let end : IsEnd i (replay start whole) =
          subst (IsEnd i) (sym (replay_append start a.log rest.log)) rest.end in
          let told = history job ws cert.input a.subject a.can short stop is whole
          (legal_append i start a.log rest.log legal rest.legal) end tt in (
            told.0,
            record {
              has = accepted_log cert a;
              goes_on = told.2 a.log (rest.log, refl, rest.legal);
              comes = told.1;
            },
          )
      | inr ordered ↦
          let end = ended job ws cert.input a.subject a.can short stop ordered
          (paused_no_rounds cert.head.command head.command) refl in (
            end.outcome,
            record {
              has = accepted_log cert a;
              goes_on = end.goes_on refl a.log;
              comes = end.comes;
            },
          )
    ]

-- so something comes of bytes that are resumed
resumed_comes : (ws : List Watcher) (bytes : List ℕ) → (o : Outcome) × ComesOfResuming ComesOf ws bytes o
resumed_comes ws bytes = elim (bytes_or_refused bytes) [
  | inr (refusal, refused) ↦ (Refused refusal, refused)
  | inl b ↦ let told = goes_on ws bytes b in (told.0, resume_comes ws bytes b told.0 told.1)
]

-- ---- lines

-- a text that is checked
checked_comes : (job : Job) (ws : List Watcher) (text : List ℕ) → job.command ≡ Check
    → (o : Outcome) × ComesOf job ws text o
checked_comes job ws text is = elim (reads_cnf text) [
  | inr (cause, of, h) ↦ (
    Refused (unread cause),
    subst (λ k. RefusesBy k (wanted_by job) text (unread cause)) (sym is)
        (inl (unread_by (λ c. AnswersCnf text (Err c)) cause of h)),
  )
  | inl (f, spelled) ↦
      let (events, of) = clause_events f.clauses in
      elim (extremal_or_clashed events (formula_family f.clauses events of)) [
        | inl extremal ↦ (
          Extremal (length events),
          (
            is,
            record {
              formula = f;
              spelled = spelled;
              verdict = record { events = events; of_formula = of; extremal = extremal; size = refl };
            },
          ),
        )
        | inr (refusal, clash) ↦ (
          Refused refusal,
          subst (λ k. RefusesBy k (wanted_by job) text refusal) (sym is)
              (inr (f, spelled, record { events = events; of_formula = of; clash = clash })),
        )
      ]
]

module _ (words : List (List ℕ)) (job : Job) (asks : Asks words job) (ws : List Watcher) (text : List ℕ) where
  -- what is made runs to an end, or to a pause
  made_comes : (s : Subject) → CanBeMade job.command (wanted_by job) text s → (o : Outcome) × ComesOf job ws text o
  made_comes s can =
      let short = job_short words job asks in
      let stop = stopped_may words job asks in
      elim (is_resample job.command) [
        | inl is ↦ resampled job ws text s can short stop is
        | inr ordered ↦ elim (is_rounds job.command) [
          | inl is ↦ rounded job ws text s can short stop is
          | inr popped ↦ by short stop ordered popped job.count refl
        ]
      ]
    where
      by : AreShort (origin_for job) → ((pops : ℕ) → job.pops ≡ Some pops → MayStop job) → job.command ≢ Resample
          → job.command ≢ Rounds → (count : Option ℕ) → job.count ≡ count → (o : Outcome) × ComesOf job ws text o
      by short stop ordered popped None once =
          let end = ended job ws text s can short stop ordered popped once in (end.outcome, end.comes)
      by short stop ordered popped (Some count) asked = batched job ws text s can short stop ordered popped count asked

  -- a text of which samples are wanted
  sampled_comes : Samples job.command → (o : Outcome) × ComesOf job ws text o
  sampled_comes samples =
      let root = asked_root words job asks in
      let size = asked_size words job asks in
      elim (made_or_refused job.command (wanted_by job) text samples
      (λ is. let some = root.0 in omega (arith, some))
      (λ is. let some = size.1 is in let few = size.0 in record { some = omega (arith, some); few = few })) [
        | inr (refusal, refuses) ↦ (Refused refusal, refuses)
        | inl (s, can) ↦ made_comes s can
      ]

  -- so something comes of the job
  job_comes : (k : Command) → job.command ≡ k → (o : Outcome) × ComesBy k job ws text o
  job_comes Formula is = sampled_comes (subst Samples (sym is) tt)
  job_comes Orient is = sampled_comes (subst Samples (sym is) tt)
  job_comes Tree is = sampled_comes (subst Samples (sym is) tt)
  job_comes Resample is = sampled_comes (subst Samples (sym is) tt)
  job_comes Check is = checked_comes job ws text is
  job_comes Make is = sampled_comes (subst Samples (sym is) tt)
  job_comes Rounds is = sampled_comes (subst Samples (sym is) tt)
  job_comes Replay is = replayed_comes text
  job_comes Resume is = resumed_comes ws text

-- ---- words

-- words ask for a job, or have a first bad place
job_or_bad : (words : List (List ℕ)) (read : Result Job ℕ) → IsReading words read
    → AreWords words ⊎ ((place : ℕ) × IsBadPlace words place)
job_or_bad words (Ok job) asks = inl (job, asks)
job_or_bad words (Err place) bad = inr (place, bad)

-- so words, watchers and a text have an outcome
pub outcome_found : (words : List (List ℕ)) (ws : List Watcher) (text : List ℕ)
    → (o : Outcome) × IsOutcome words ws text o
outcome_found words ws text = elim (job_or_bad words (reading words) (reading_is words)) [
  | inr (place, bad) ↦ (Refused (Usage place), inl (record { place = place; bad = bad; is = refl }))
  | inl (job, asks) ↦
      let comes = job_comes words job asks ws text job.command refl in
      (comes.0, of_words words job ws text asks comes.0 comes.1)
]

-- the law
pub always_answered : AlwaysAnswered
always_answered words ws text =
    let found = outcome_found words ws text in
    record {
      status = status_of found.0;
      out = text_of found.0;
      answer = (found.0, found.1, record { status_is = refl; out_is = refl });
    }
