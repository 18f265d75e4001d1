-- Functions of a sample under a key, such as the sum that `make` prints: how often each value
-- occurs.
use Rattle.std.specs.Prelude.{◌≡◌, ◌↔◌, ℕ, List, [], length, Contains}
use Rattle.rand_chacha.specs.ChaCha.{key_of}
use Rattle.pop_model.specs.Popping.{values_at}
use Rattle.pop_stacks.specs.declared.stack_spec.StackSpec.TheVariants.{Key}
use Rattle.key_samples.specs.Keys.{numbers_of}
use Rattle.drawn_samples.specs.Statistics.{AreValuesDrawn, TableWith}
use Rattle.drawn_samples.specs.Where.{SamplesWhere}
use Rattle.pop_words.specs.declared.job.Job.{Job}
use Rattle.pop_words.specs.Options.{quiet}
use Rattle.pop_words.specs.CommandLines.{Asks}
use Rattle.pop_watch.specs.Telling.{Watcher}
use Rattle.told_runs.specs.Outcomes.{Outcome}
use Rattle.told_runs.specs.Outcomes.Outcome.{Ended}
use Rattle.top_call.specs.Answers.{IsOutcome, last_height, wanted_by}
use Rattle.job_subjects.specs.Subjects.{Subject, IsSubjectOf}
use Rattle.answer_laws.specs.KeyAnswers.{keyed_frame}
use Rattle.answer_laws.specs.StoppedAnswers.{IsRun, is_within}

-- a run ended with a sample at which a function has this value
abbrev pub EndsWithValue : (List ℕ → ℕ) → Outcome → ℕ → Type 0
EndsWithValue statistic (Ended facts i cursors pops stuck telling) value =
    (stuck ≡ []) × (statistic (values_at i.stacks cursors) ≡ value)
EndsWithValue statistic o value = ⊥

-- Among all tables, those for each value of the function have the share of the samples with that
-- value. The outcome ends with a value if and only if the key's own table is among the tables for
-- it.
pub record IsValueDrawn (statistic : List ℕ → ℕ) (job : Job) (key text : List ℕ) (o : Outcome)
    : Type 0 where
  pub subject : Subject
  pub is : IsSubjectOf job.command (wanted_by job) text subject
  pub drawn : AreValuesDrawn (keyed_frame subject (last_height job))
      (SamplesWhere (keyed_frame subject (last_height job)) (is_within job.pops)) statistic
  pub ends : (value : ℕ) → EndsWithValue statistic o value
      ↔ TableWith (keyed_frame subject (last_height job))
      (SamplesWhere (keyed_frame subject (last_height job)) (is_within job.pops)) statistic value
      (numbers_of (key_of key) 0 (last_height job) (length subject.weights))

-- This holds for each function of the sample of a run under a key that ended or stopped.
abbrev pub StatisticAnswers : Type 0
StatisticAnswers = (statistic : List ℕ → ℕ) (job : Job) (key : List ℕ) (words : List (List ℕ))
    (watchers : List Watcher) (text : List ℕ) (o : Outcome) → Contains quiet job.command
    → job.stacks ≡ Key key → Asks words job → IsOutcome words watchers text o → IsRun o
    → IsValueDrawn statistic job key text o
