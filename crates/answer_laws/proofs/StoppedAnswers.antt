-- A run that came to its end did so within the job's limit of pops. A run that stopped before it has more, so the
-- key's table is not one of those that end within the limit.
use Rattle.std.proofs.Common.{◌≡◌, ◌↔◌, ℕ, ◌<◌, true, not, nat_lt, List, [], ◌∷◌, length, replicate, Contains, Option, None, Some, refl, sym, ap, subst, ◌∙◌}
use Rattle.std.proofs.lemmas.Bool.{lt-ltb, le-ltb}
use Rattle.std.proofs.lemmas.List.{length-replicate}
use Rattle.rand_chacha.specs.ChaCha.{key_of}
use Rattle.pop_model.specs.Popping.{values_at}
use Rattle.pop_model.specs.Extremal.{IsExtremal}
use Rattle.pop_model.specs.Families.{Event}
use Rattle.pop_model.specs.Instances.{Instance}
use Rattle.pop_model.specs.Logs.{LogRecord, replay}
use Rattle.pop_model.specs.Runs.{IsFinished, IsFirstEnd, start_of}
use Rattle.pop_model.proofs.OneRun.{one_first_end}
use Rattle.pop_stacks.specs.declared.stack_spec.StackSpec.TheVariants.{Key}
use Rattle.pop_samples.specs.Frames.{Frame, IsFrame}
use Rattle.pop_samples.proofs.Finishing.{first_finishes_by, none_stuck}
use Rattle.key_samples.specs.Keys.{numbers_of, under_key}
use Rattle.key_samples.specs.Numbers.{HaveWeights, TableOf}
use Rattle.drawn_samples.specs.Where.{EndsWhere, SamplesWhere}
use Rattle.drawn_samples.proofs.KeyedWanted.{keyed_wanted_runs}
use Rattle.drawn_samples.proofs.WantedRuns.{wanted_runs}
use Rattle.pop_words.specs.declared.job.Job.{Job}
use Rattle.pop_words.specs.Options.{quiet}
use Rattle.pop_words.specs.CommandLines.{Asks}
use Rattle.pop_log.specs.Layers.{Placed}
use Rattle.pop_watch.specs.Telling.{Watcher}
use Rattle.pop_print.specs.declared.facts.Facts.{Facts}
use Rattle.job_subjects.specs.Subjects.{IsSubjectOf, Subject, instance_over}
use Rattle.told_runs.specs.Ends.{EndsWithin}
use Rattle.told_runs.specs.Outcomes.{Outcome}
use Rattle.told_runs.specs.Outcomes.Outcome.{Refused, Extremal, Ended, Resampled, Rounded, Batched, Paused, Replayed}
use Rattle.told_runs.specs.Tellings.{Telling}
use Rattle.told_runs.proofs.ToldOfFirst.{first_runs}
use Rattle.top_call.specs.Answers.{ComesOf, last_height, wanted_by}
use Rattle.top_call.specs.Pauses.{IsPause}
use Rattle.answer_laws.specs.KeyAnswers.{EndsWithSamples, keyed_frame}
use Rattle.answer_laws.specs.StoppedAnswers.{IsRun, IsStoppedAnswer, StoppedAnswers, is_within}
use Rattle.answer_laws.proofs.KeyAnswers.{height_some, heights_above, keyed_origin, subject_has}
use Rattle.answer_laws.proofs.OneEnd.{pause_shorter}
use Rattle.answer_laws.proofs.OneOutcome.{line_comes}
use Rattle.answer_laws.proofs.SubjectKinds.{subject_family, subject_frame}
use Rattle.answer_laws.proofs.ToldSubjects.{IsEndOfSubject, IsPauseOfMade, ended_subject, ordered_extremal, paused_made, quiet_line, quiet_ordered}

-- a number of pops within the limit
within_true : (most : Option ℕ) (log : List LogRecord) → EndsWithin most (length log) → is_within most log ≡ true
within_true None log within = refl
within_true (Some most) log within = ap not (le-ltb most (length log) within)

-- and back
true_within : (most : ℕ) (log : List LogRecord) → is_within (Some most) log ≡ true → most < length log → ⊥
true_within most log is more =
    let not_it : nat_lt most (length log) ≡ true = lt-ltb most (length log) more in
    let other : not true ≡ true = sym (ap not not_it) ∙ is in
    cc

module _ (f : Frame) (frame : IsFrame f) (have : HaveWeights f.weights) (extremal : IsExtremal f.family) (key : List ℕ)
    (height : ℕ) (high : f.heights ≡ replicate (length f.weights) height) (most : Option ℕ) where
  -- the instance of the key
  abbrev i : Instance
  i = under_key f key 0 height

  -- the tables whose run ends with a sample within the limit
  abbrev Counted : List ℕ → Type 0
  Counted w = TableOf f (SamplesWhere f (is_within most) w) (numbers_of key 0 height (length f.weights))

  -- an end within the limit
  of_end : (c : List ℕ) (pops : ℕ) (stuck : List Event) → IsFirstEnd i c pops stuck → EndsWithin most pops → (w : List ℕ)
      → (stuck ≡ []) × (values_at i.stacks c ∷ [] ≡ w ∷ []) → Counted w
  of_end c pops stuck end within w (none, is) =
      let whole : IsFirstEnd i c pops [] = subst (λ (s : List Event). IsFirstEnd i c pops s) none end in
      let log : List LogRecord = whole.run.0 in
      let by = first_finishes_by i c pops whole in
      let value : values_at i.stacks c ≡ w = cc in
      (keyed_wanted_runs f frame have extremal key 0 height high (is_within most) w).0 (record {
        log = log;
        run = whole.run.1;
        finished = subst (IsFinished i) whole.run.2 by.finished;
        values = ap (values_at i.stacks) (sym whole.run.2) ∙ value;
        wanted_log = within_true most log (subst (EndsWithin most) whole.run.3 within);
      })

  -- the end of a table that is counted
  end_of_counted : (w : List ℕ) → Counted w → (e : EndsWhere i (is_within most) w)
      × IsFirstEnd i (replay (start_of i) e.log) (length e.log) []
  end_of_counted w g =
      let e = (keyed_wanted_runs f frame have extremal key 0 height high (is_within most) w).1 g in
      (e, record { run = (e.log, e.run, refl, refl); stuck_list = none_stuck i (replay (start_of i) e.log) e.finished })

  -- so an end with a sample is counted just there
  pub ends_so : (c : List ℕ) (pops : ℕ) (stuck : List Event) → IsFirstEnd i c pops stuck → EndsWithin most pops
      → (w : List ℕ) → ((stuck ≡ []) × (values_at i.stacks c ∷ [] ≡ w ∷ [])) ↔ Counted w
  ends_so c pops stuck end within w = (
    of_end c pops stuck end within w,
    λ g.
        let (e, first) = end_of_counted w g in
        let d : List ℕ = replay (start_of i) e.log in
        let one = one_first_end i extremal c d pops (length e.log) stuck [] end first in (
          one.stuck,
          ap (λ (k : List ℕ). values_at i.stacks k ∷ []) one.cursors ∙ ap (λ (v : List ℕ). v ∷ []) e.values,
        ),
  )

  -- and a run that stopped is counted nowhere
  pub stopped_so : (pops : ℕ) (placed : List Placed) → IsPause i pops placed → most ≡ Some pops → (w : List ℕ)
      → Counted w → ⊥
  stopped_so pops placed pause limit w g =
      let (e, first) = end_of_counted w g in
      let more : pops < length e.log =
      pause_shorter i extremal pops placed pause e.log (first_runs i e.log e.run) in
      true_within pops e.log (subst (λ (m : Option ℕ). is_within m e.log ≡ true) limit e.wanted_log) more

module _ (job : Job) (key : List ℕ) (words : List (List ℕ)) (ws : List Watcher) (text : List ℕ)
    (has : Contains quiet job.command) (given : job.stacks ≡ Key key) (asks : Asks words job) where
  -- the height
  abbrev height : ℕ
  height = last_height job

  -- what is known of a subject, where it is found what an outcome ends with
  answer : (s : Subject) → (is : IsSubjectOf job.command (wanted_by job) text s) → (o : Outcome)
      → ((frame : IsFrame (keyed_frame s height)) → HaveWeights s.weights → IsExtremal s.family → (w : List ℕ)
      → EndsWithSamples o (w ∷ []) ↔ TableOf (keyed_frame s height)
      (SamplesWhere (keyed_frame s height) (is_within job.pops) w)
      (numbers_of (key_of key) 0 height (length s.weights)))
      → IsStoppedAnswer job key text o
  answer s is o ends =
      let f : Frame = keyed_frame s height in
      let extremal : IsExtremal s.family =
      ordered_extremal job.command (wanted_by job) text s (quiet_ordered job.command has) is in
      let have : HaveWeights s.weights = subject_has job.command (wanted_by job) text s is in
      let frame : IsFrame f =
      subject_frame s (subject_family job.command (wanted_by job) text s is) (replicate (length s.weights) height)
      (length-replicate (length s.weights) height)
      (heights_above (length s.weights) height (height_some words job asks)) in
      record {
        subject = s;
        is = is;
        drawn = wanted_runs f frame have extremal (is_within job.pops);
        ends = ends frame have extremal;
      }

  -- an end
  end_answer : (facts : Facts) (i : Instance) (c : List ℕ) (pops : ℕ) (stuck : List Event) (a : Telling)
      → IsEndOfSubject job ws text facts i c pops stuck a → IsStoppedAnswer job key text (Ended facts i c pops stuck a)
  end_answer facts i c pops stuck a of =
      let s : Subject = of.subject in
      let origin = keyed_origin job key given in
      answer s of.is (Ended facts i c pops stuck a) (λ frame have extremal w.
      subst (λ (j : Instance). ((stuck ≡ []) × (values_at j.stacks c ∷ [] ≡ w ∷ []))
      ↔ TableOf (keyed_frame s height) (SamplesWhere (keyed_frame s height) (is_within job.pops) w)
      (numbers_of (key_of key) 0 height (length s.weights)))
      (sym (of.instance_is ∙ ap (λ o. instance_over o s) origin))
      (ends_so (keyed_frame s height) frame have extremal (key_of key) height refl job.pops c pops stuck
      (subst (λ o. IsFirstEnd (instance_over o s) c pops stuck) origin of.end) of.within w))

  -- a pause
  pause_answer : (told : Job) (input : List ℕ) (facts : Facts) (i : Instance) (placed : List Placed)
      → IsPauseOfMade job text told input facts i placed → IsStoppedAnswer job key text (Paused told input facts i placed)
  pause_answer told input facts i placed of =
      let s : Subject = of.made.subject in
      let origin = keyed_origin job key given in
      answer s of.made.are (Paused told input facts i placed) (λ frame have extremal w. (
        λ none. absurd none,
        λ g. stopped_so (keyed_frame s height) frame have extremal (key_of key) height refl job.pops of.pops placed
            (subst (λ (j : Instance). IsPause j of.pops placed)
            (of.made.over.instance_is ∙ ap (λ o. instance_over o s) origin) of.pause) of.asked w g,
      ))

  -- what comes of the job
  run_answer : (o : Outcome) → ComesOf job ws text o → IsRun o → IsStoppedAnswer job key text o
  run_answer (Ended facts i c pops stuck a) h run =
      end_answer facts i c pops stuck a (ended_subject job ws text facts i c pops stuck a h)
  run_answer (Paused told input facts i placed) h run =
      pause_answer told input facts i placed (paused_made job ws text told input facts i placed h)
  run_answer (Refused r) h run = absurd run
  run_answer (Extremal n) h run = absurd run
  run_answer (Resampled t i l s a) h run = absurd run
  run_answer (Rounded t i c n s v) h run = absurd run
  run_answer (Batched t i ends) h run = absurd run
  run_answer (Replayed i c n k) h run = absurd run

-- the law
pub stopped_answers : StoppedAnswers
stopped_answers job key words ws text o has given asks comes run =
    run_answer job key words ws text has given asks o
    (line_comes words job ws text o asks (quiet_line job.command has) comes) run
