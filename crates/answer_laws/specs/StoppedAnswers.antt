-- Runs under a key that may stop after a number of pops: to stop does not change the distribution
-- of the samples.
use Rattle.std.specs.Prelude.{◌≡◌, ◌↔◌, ℕ, Bool, true, not, nat_lt, List, [], ◌∷◌, length, Contains, Option, None, Some, ⊤}
use Rattle.rand_chacha.specs.ChaCha.{key_of}
use Rattle.pop_model.specs.Logs.{LogRecord}
use Rattle.pop_stacks.specs.declared.stack_spec.StackSpec.TheVariants.{Key}
use Rattle.key_samples.specs.Keys.{numbers_of}
use Rattle.key_samples.specs.Numbers.{TableOf}
use Rattle.drawn_samples.specs.Where.{SamplesWhere}
use Rattle.drawn_samples.specs.WhereLaws.{AreExactlyDrawn}
use Rattle.pop_words.specs.declared.job.Job.{Job}
use Rattle.pop_words.specs.Options.{quiet}
use Rattle.pop_words.specs.CommandLines.{Asks}
use Rattle.pop_watch.specs.Telling.{Watcher}
use Rattle.told_runs.specs.Outcomes.{Outcome}
use Rattle.told_runs.specs.Outcomes.Outcome.{Ended, Paused}
use Rattle.top_call.specs.Answers.{IsOutcome, last_height, wanted_by}
use Rattle.job_subjects.specs.Subjects.{Subject, IsSubjectOf}
use Rattle.answer_laws.specs.KeyAnswers.{EndsWithSamples, keyed_frame}

-- the log has at most this many pops, if there is a limit
abbrev pub is_within : Option ℕ → List LogRecord → Bool
is_within None log = true
is_within (Some most) log = not (nat_lt most (length log))

-- a run that came to its end, or stopped before it
abbrev pub IsRun : Outcome → Type 0
IsRun (Ended facts i cursors pops stuck telling) = ⊤
IsRun (Paused job input facts i placed) = ⊤
IsRun o = ⊥

-- The outcome ends with a sample if and only if the key's own table is one whose run ends with it
-- within the job's limit of pops. Such tables draw from all samples by their shares, whatever that
-- limit is.
pub record IsStoppedAnswer (job : Job) (key text : List ℕ) (o : Outcome) : Type 0 where
  pub subject : Subject
  pub is : IsSubjectOf job.command (wanted_by job) text subject
  pub drawn : AreExactlyDrawn (keyed_frame subject (last_height job))
      (SamplesWhere (keyed_frame subject (last_height job)) (is_within job.pops))
  pub ends : (w : List ℕ) → EndsWithSamples o (w ∷ [])
      ↔ TableOf (keyed_frame subject (last_height job))
      (SamplesWhere (keyed_frame subject (last_height job)) (is_within job.pops) w)
      (numbers_of (key_of key) 0 (last_height job) (length subject.weights))

-- This holds for each outcome of `formula`, `orient`, `tree` and `make` under a key that is a run
-- that ended or stopped.
abbrev pub StoppedAnswers : Type 0
StoppedAnswers = (job : Job) (key : List ℕ) (words : List (List ℕ)) (watchers : List Watcher)
    (text : List ℕ) (o : Outcome) → Contains quiet job.command → job.stacks ≡ Key key
    → Asks words job → IsOutcome words watchers text o → IsRun o
    → IsStoppedAnswer job key text o
