-- Batches under a key with samples that may be exhausted.
use Rattle.std.specs.Prelude.{◌≡◌, ℕ, List, map, length, Contains}
use Rattle.rand_chacha.specs.ChaCha.{key_of}
use Rattle.pop_model.specs.Instances.{Instance}
use Rattle.pop_stacks.specs.declared.stack_spec.StackSpec.TheVariants.{Key}
use Rattle.confluence_core.specs.declared.end.End.{End}
use Rattle.pop_samples.specs.Exchange.{Samples}
use Rattle.key_samples.specs.Keys.{batch_numbers}
use Rattle.drawn_samples.specs.Mixed.{AreMixed, BatchEndsSo, sample_of}
use Rattle.pop_words.specs.declared.job.Job.{Job}
use Rattle.pop_words.specs.Options.{quiet}
use Rattle.pop_words.specs.CommandLines.{Asks}
use Rattle.pop_watch.specs.Telling.{Watcher}
use Rattle.pop_print.specs.declared.facts.Facts.{Facts}
use Rattle.told_runs.specs.Outcomes.Outcome.{Batched}
use Rattle.top_call.specs.Answers.{IsOutcome, last_height, wanted_by}
use Rattle.job_subjects.specs.Subjects.{Subject, IsSubjectOf}
use Rattle.answer_laws.specs.KeyAnswers.{keyed_frame, samples_asked}

-- The key's own tables end as the batch does, sample by sample. Whichever samples are exhausted,
-- the tables for the other samples have the shares of those samples among all tables.
pub record IsMixedAnswer (job : Job) (key text : List ℕ) (ends : List End) : Type 0 where
  pub subject : Subject
  pub is : IsSubjectOf job.command (wanted_by job) text subject
  pub mixed : AreMixed (keyed_frame subject (last_height job))
      (Samples (keyed_frame subject (last_height job)))
  pub ends_so : BatchEndsSo (keyed_frame subject (last_height job))
      (Samples (keyed_frame subject (last_height job))) (map sample_of ends)
      (batch_numbers (key_of key) (last_height job) (length subject.weights) (samples_asked job))

-- This holds for each batch that is an outcome under a key, also with status 1.
abbrev pub MixedAnswers : Type 0
MixedAnswers = (job : Job) (key : List ℕ) (words : List (List ℕ)) (watchers : List Watcher)
    (text : List ℕ) (facts : Facts) (i : Instance) (ends : List End) → Contains quiet job.command
    → job.stacks ≡ Key key → Asks words job → IsOutcome words watchers text (Batched facts i ends)
    → IsMixedAnswer job key text ends
