-- Trying again: words with other keys, other heights and other limits of pops, of which the first
-- answer that is a sample is kept.
use Rattle.std.specs.Prelude.{◌≡◌, ◌⊎◌, ◌↔◌, ℕ, List, [], ◌∷◌, length, map, replicate, All, Contains}
use Rattle.rand_chacha.specs.ChaCha.{key_of}
use Rattle.pop_stacks.specs.declared.stack_spec.StackSpec.TheVariants.{Key}
use Rattle.key_samples.specs.Keys.{numbers_of}
use Rattle.key_samples.specs.Numbers.{Numbers}
use Rattle.drawn_samples.specs.Grown.{RunTry}
use Rattle.drawn_samples.specs.Retried.{AreKept, Keeps}
use Rattle.drawn_samples.specs.Where.{SamplesWhere}
use Rattle.pop_words.specs.declared.job.Job.{Job}
use Rattle.pop_words.specs.Options.{quiet}
use Rattle.pop_words.specs.CommandLines.{Asks}
use Rattle.pop_watch.specs.Telling.{Watcher}
use Rattle.told_runs.specs.Outcomes.{Outcome}
use Rattle.top_call.specs.Answers.{IsOutcome, last_height, wanted_by}
use Rattle.job_subjects.specs.Subjects.{Subject, IsSubjectOf}
use Rattle.answer_laws.specs.ExactAnswers.{frame_over}
use Rattle.answer_laws.specs.KeyAnswers.{EndsWithSamples}
use Rattle.answer_laws.specs.StoppedAnswers.{IsRun, is_within}

-- a call: what its words ask for, its key, and its outcome
pub record Called : Type 0 where
  pub job : Job
  pub key : List ℕ
  pub outcome : Outcome

-- The words ask for one sample of this subject under the key, and the outcome is a run, to its end or
-- to where it was given up.
pub record IsCalled (text : List ℕ) (s : Subject) (c : Called) : Type 0 where
  pub words : List (List ℕ)
  pub watchers : List Watcher
  pub quiet_command : Contains quiet c.job.command
  pub given : c.job.stacks ≡ Key c.key
  pub subject : IsSubjectOf c.job.command (wanted_by c.job) text s
  pub asks : Asks words c.job
  pub is : IsOutcome words watchers text c.outcome
  pub run : IsRun c.outcome

-- the first outcome that is a sample is this one
abbrev pub FirstSampleIs : List Called → List ℕ → Type 0
FirstSampleIs [] w = ⊥
FirstSampleIs (c ∷ calls) w =
    EndsWithSamples c.outcome (w ∷ [])
    ⊎ (((x : List ℕ) → EndsWithSamples c.outcome (x ∷ []) → ⊥) × FirstSampleIs calls w)

-- the try of a call: the height of its stacks, and as many pops as it allows
abbrev pub try_of : Subject → Called → RunTry
try_of s c = record {
  heights = replicate (length s.weights) (last_height c.job);
  wanted = is_within c.job.pops;
}

-- the table of its key
abbrev pub table_of : Subject → Called → Numbers
table_of s c = numbers_of (key_of c.key) 0 (last_height c.job) (length s.weights)

-- What is known of the first sample of calls.
pub record AreRetried (s : Subject) (calls : List Called) : Type 0 where
  -- Of all tables for the tries, what is kept draws from all samples as one run does.
  pub kept : AreKept (frame_over s []) SamplesWhere (map (try_of s) calls)
  -- The first sample is this one exactly if it is kept of the keys' own tables.
  pub own : (w : List ℕ) → FirstSampleIs calls w
      ↔ Keeps (frame_over s []) SamplesWhere (map (try_of s) calls) w (map (table_of s) calls)

-- So trying again under other keys is unbiased, with any heights and any limits of pops.
abbrev pub RetriedAnswers : Type 0
RetriedAnswers = (text : List ℕ) (s : Subject) (c : Called) (calls : List Called)
    → All (IsCalled text s) (c ∷ calls) → AreRetried s (c ∷ calls)
