-- A run that may stop pauses if and only if each run to an end has more pops. Its pause gives a certificate: that of
-- its job, its input and its log. The log is one of what the head of the certificate wants made from the input.
use Rattle.std.proofs.Common.{◌≡◌, ◌<◌, ℕ, List, length, Some, sym, subst, ◌∙◌, ◌≢◌, [], None, refl, ap, ap₂, arith}
use Rattle.std.proofs.lemmas.Option.{same_Some}
use Rattle.std.specs.Prelude.{unwrap_or}
use Rattle.pop_model.specs.Runs.{IsFirstEnd, start_of}
use Rattle.pop_model.specs.Instances.{Instance}
use Rattle.pop_model.specs.Logs.{IsLegal}
use Rattle.pop_stacks.specs.declared.stack_spec.StackSpec.{StackSpec}
use Rattle.pop_stacks.specs.declared.stack_spec.StackSpec.TheVariants.{Key as KeyedStacks, Given as GivenStacks}
use Rattle.pop_stacks.specs.Tables.{origin_of}
use Rattle.pop_words.specs.declared.job.Job.{Job}
use Rattle.pop_words.specs.CommandLines.{Asks}
use Rattle.pop_words.specs.declared.command.Command.{Command}
use Rattle.pop_words.specs.declared.command.Command.TheVariants.{Tree, Make}
use Rattle.pop_log.specs.Layers.{Placed}
use Rattle.pop_log.specs.Layered.{AreInLayers}
use Rattle.pop_log.specs.LayeredTexts.{placed_text}
use Rattle.pop_watch.specs.Telling.{Watcher}
use Rattle.run_cert.specs.Heads.{has_root}
use Rattle.run_cert.specs.Certificates.{Certificate, IsCertOf, height_said, root_said, head_of, cert_of, cert_text}
use Rattle.run_cert.proofs.PrintedCerts.{printed_is_read}
use Rattle.pop_print.specs.declared.facts.Facts.{Facts}
use Rattle.job_subjects.specs.declared.wanted.Wanted.{Wanted}
use Rattle.job_subjects.specs.Subjects.{Subject, IsSubjectOf}
use Rattle.job_subjects.specs.Made.{IsInstanceOf, IsMade}
use Rattle.job_subjects.proofs.MadeExtremal.{made_short}
use Rattle.told_runs.specs.Outcomes.{Outcome, text_of}
use Rattle.told_runs.specs.Outcomes.Outcome.{Ended, Resampled, Paused}
use Rattle.told_runs.specs.Ends.{EndsWithin}
use Rattle.told_runs.specs.Names.{names_for}
use Rattle.told_runs.specs.Tellings.{records_of}
use Rattle.top_call.specs.Answers.{wanted_by, ComesOf, IsOfLine, origin_for}
use Rattle.top_call.proofs.PauseWords.{paused_line, paused_no_rounds, stopped_may, not_made}
use Rattle.top_call.specs.Pauses.{MayStop}
use Rattle.top_call.specs.Replays.{wanted_of}
use Rattle.answer_laws.specs.Orders.{HasOneEnd}
use Rattle.answer_laws.specs.Laws.{TellsPause, PausedExactly}
use Rattle.answer_laws.proofs.ToldSubjects.{ended_subject, resampled_made, paused_made}
use Rattle.answer_laws.proofs.OneEnd.{made_ordered, pause_shorter}
use Rattle.answer_laws.proofs.OneOutcome.{line_comes}

-- ---- when a run pauses

-- of what comes of the job
tells_pause : (job : Job) (ws : List Watcher) (text : List ℕ) (most : ℕ) (o : Outcome) → HasOneEnd job.command text
    → job.pops ≡ Some most → ComesOf job ws text o → TellsPause most o
tells_pause job ws text most (Paused told input facts i placed) ordered stop h = λ log runs.
    let of = paused_made job ws text told input facts i placed h in
    let same : of.pops ≡ most = same_Some of.pops most (sym of.asked ∙ stop) in
    let extremal = made_ordered (wanted_by job) text facts i ordered (paused_no_rounds job.command of.may.command)
    of.made in
    subst (λ n. n < length log) same (pause_shorter i extremal of.pops placed of.pause log runs)
tells_pause job ws text most (Ended facts i c pops stuck a) ordered stop h =
    let of = ended_subject job ws text facts i c pops stuck a h in (
      subst (λ j. IsFirstEnd j c pops stuck) (sym of.instance_is) of.end,
      subst (λ m. EndsWithin m pops) stop of.within,
    )
tells_pause job ws text most (Resampled facts i placed stuck a) ordered stop h =
    let of = resampled_made job ws text facts i placed stuck a h in
    (of.leads, subst (λ m. EndsWithin m (length placed)) stop of.within)
tells_pause job ws text most o ordered stop h = tt

-- words that ask for a run that may stop have none read
stopped_line : (words : List (List ℕ)) (job : Job) → Asks words job → (pops : ℕ) → job.pops ≡ Some pops
    → IsOfLine job.command
stopped_line words job asks pops stop = paused_line job.command (stopped_may words job asks pops stop).command

-- the law
pub paused_exactly : PausedExactly
paused_exactly words ws text job most o asks ordered stop h =
    tells_pause job ws text most o ordered stop
    (line_comes words job ws text o asks (stopped_line words job asks most stop) h)

-- ---- the certificate

-- the stacks of the head are those of the job
pub height_alike : (spec : StackSpec) (height : ℕ) → origin_of spec (height_said spec height) ≡ origin_of spec height
height_alike (GivenStacks rows) height = refl
height_alike (KeyedStacks key) height = refl

-- what the head of a job's certificate wants made
abbrev head_wants : Command → Job → Wanted
head_wants k job = record {
  command = k;
  origin = origin_of job.stacks (height_said job.stacks job.height);
  count = None;
  root = root_said (has_root k) job.root;
  side = 0;
}

-- the command samples the same, since its head has a root where the command has one, and it makes no grid
subject_alike : (k : Command) (job : Job) (text : List ℕ) (s : Subject) → k ≢ Make
    → IsSubjectOf k (wanted_by job) text s → IsSubjectOf k (head_wants k job) text s
subject_alike Tree job text s reads h = h
subject_alike Make job text s reads h = absurd (reads refl)
subject_alike k job text s reads h = h

-- so of a job whose run may stop the same is made
made_alike : (job : Job) (text : List ℕ) (facts : Facts) (i : Instance) → MayStop job
    → IsMade (wanted_by job) text facts i → IsMade (head_wants job.command job) text facts i
made_alike job text facts i may made =
    let s : Subject = made.subject in
    let tall : origin_for job ≡ origin_of job.stacks (height_said job.stacks job.height) =
    ap (λ g. origin_of job.stacks (unwrap_or g job.height)) may.level ∙ sym (height_alike job.stacks job.height) in
    record {
      subject = s;
      are = subject_alike job.command job text s (not_made job.command may.command) made.are;
      over = subst (λ o. IsInstanceOf o None s facts i) tall
          (subst (λ n. IsInstanceOf (origin_for job) n s facts i) may.once made.over);
    }

-- the bytes are such a certificate, of a job, a text and a log
pub record IsPauseCert (job : Job) (text out : List ℕ) (facts : Facts) (i : Instance) (placed : List Placed) : Type 0
  where
    pub is : IsCertOf out (cert_of job text (placed_text (names_for facts) i placed))
    pub made : IsMade (wanted_of (head_of job (length text))) text facts i
    pub legal : IsLegal i (start_of i) (records_of placed)
    pub layered : AreInLayers [] placed

-- so is the text of a pause that comes of a job which words ask for
pub paused_cert : (words : List (List ℕ)) (job : Job) → Asks words job → (ws : List Watcher) (text : List ℕ)
    (told : Job) (input : List ℕ) (facts : Facts) (i : Instance) (placed : List Placed)
    → ComesOf job ws text (Paused told input facts i placed)
    → IsPauseCert job text (text_of (Paused told input facts i placed)) facts i placed
paused_cert words job asks ws text told input facts i placed h =
    let of = paused_made job ws text told input facts i placed h in
    let may = of.may in
    let small = made_short (wanted_by job) text facts i (not_made job.command may.command) of.made in
    let log_text : List ℕ = placed_text (names_for facts) i placed in
    let cert : Certificate = cert_of job text log_text in
    let is : IsCertOf (cert_text cert) cert =
    printed_is_read words job text log_text asks may.command (omega (arith, small)) in
    let printed : cert_text (cert_of told input log_text) ≡ cert_text cert =
    ap₂ (λ (j : Job) (x : List ℕ). cert_text (cert_of j x log_text)) of.job_is of.input_is in
    record {
      is = subst (λ out. IsCertOf out cert) (sym printed) is;
      made = made_alike job text facts i may of.made;
      legal = of.pause.legal;
      layered = of.pause.layered;
    }
