-- The law of keys, said of answers: with which samples the answers to words with a key end. If all
-- tables of the numbers that entries are made of are equally likely, each answer is drawn by the
-- weights among all samples (Propp and Wilson 1998; Guo, Jerrum and Liu 2019).
use Rattle.std.specs.Prelude.{◌≡◌, ◌↔◌, ℕ, ◌≤◌, List, [], ◌∷◌, length, replicate, Contains, unwrap_or}
use Rattle.rand_chacha.specs.ChaCha.{key_of}
use Rattle.pop_model.specs.Popping.{Cube, values_at}
use Rattle.dimacs_read.specs.CnfText.{cnf_of}
use Rattle.dimacs_read.specs.Falsifying.{AreEventsOf}
use Rattle.pop_stacks.specs.declared.stack_spec.StackSpec.TheVariants.{Key}
use Rattle.pop_samples.specs.Frames.{Frame, Rows}
use Rattle.pop_samples.specs.Exchange.{Samples}
use Rattle.round_samples.specs.Sampled.{Sampled}
use Rattle.key_samples.specs.Exact.{AreExact, TablesOf}
use Rattle.key_samples.specs.Keys.{AreSamples, batch_numbers}
use Rattle.drawn_samples.specs.Drawn.{AreDrawn}
use Rattle.pop_words.specs.declared.command.Command.TheVariants.{Rounds}
use Rattle.pop_words.specs.declared.job.Job.{Job}
use Rattle.pop_words.specs.Options.{quiet}
use Rattle.pop_words.specs.CommandLines.{Asks}
use Rattle.pop_watch.specs.Telling.{Watcher}
use Rattle.told_runs.specs.Outcomes.{Outcome, status_of}
use Rattle.told_runs.specs.Outcomes.Outcome.{Ended, Rounded, Batched}
use Rattle.top_call.specs.Answers.{IsOutcome, last_height, wanted_by}
use Rattle.job_subjects.specs.Subjects.{Subject, assignments, IsSubjectOf}
use Rattle.answer_laws.specs.ExactAnswers.{frame_over}

-- a run, rounds or a batch ended with these samples, in order, and no event occurs at any end
abbrev pub EndsWithSamples : Outcome → List (List ℕ) → Type 0
EndsWithSamples (Ended facts i cursors pops stuck telling) samples =
    (stuck ≡ []) × (values_at i.stacks cursors ∷ [] ≡ samples)
EndsWithSamples (Rounded facts i cursors rounds stuck short) samples =
    (stuck ≡ []) × (values_at i.stacks cursors ∷ [] ≡ samples)
EndsWithSamples (Batched facts i ends) samples = AreSamples ends samples
EndsWithSamples o samples = ⊥

-- the number of samples that a job asks for
abbrev pub samples_asked : Job → ℕ
samples_asked job = unwrap_or job.count 1

-- what is fixed of a subject's stacks under a key before their numbers are: all have one height
abbrev pub keyed_frame : Subject → ℕ → Frame
keyed_frame s height = frame_over s (replicate (length s.weights) height)

-- What is known of an outcome under a key, given the rows that end with each sample.
pub record IsDrawn (f : Frame) (Kind : List ℕ → Rows → Type 0) (key : List ℕ) (height count : ℕ)
    (o : Outcome) : Type 0 where
  -- Among all tables of numbers for the entries, those for each sample are counted.
  pub exact : AreExact f Kind
  -- Among all tables that end with a sample, those for one sample have the share that its weight
  -- has among all samples.
  pub from_all : AreDrawn f Kind
  -- The outcome ends with samples if and only if the key's own tables are among the tables for
  -- them.
  pub ends : (samples : List (List ℕ)) → EndsWithSamples o samples
      ↔ TablesOf f Kind samples (batch_numbers key height (length f.weights) count)

-- the outcome is drawn in this way from all samples of the subject
pub record IsKeyedAnswer (job : Job) (key text : List ℕ) (o : Outcome) : Type 0 where
  pub subject : Subject
  pub is : IsSubjectOf job.command (wanted_by job) text subject
  pub drawn : IsDrawn (keyed_frame subject (last_height job))
      (Samples (keyed_frame subject (last_height job))) (key_of key) (last_height job)
      (samples_asked job) o

-- Each outcome of `formula`, `orient`, `tree` and `make` under a key, except errors, is drawn in
-- this way: with one sample, or with a batch.
abbrev pub KeyedAnswers : Type 0
KeyedAnswers = (job : Job) (key : List ℕ) (words : List (List ℕ)) (watchers : List Watcher)
    (text : List ℕ) (o : Outcome) → Contains quiet job.command → job.stacks ≡ Key key
    → Asks words job → IsOutcome words watchers text o → status_of o ≤ 1
    → IsKeyedAnswer job key text o

-- the outcome is drawn in this way from all satisfying assignments of the formula
pub record IsKeyedRounds (job : Job) (key text : List ℕ) (o : Outcome) : Type 0 where
  pub events : List (ℕ × Cube)
  pub of_formula : AreEventsOf (cnf_of text).clauses events
  pub drawn : IsDrawn (keyed_frame (assignments (cnf_of text) events) (last_height job))
      (Sampled (keyed_frame (assignments (cnf_of text) events) (last_height job))) (key_of key)
      (last_height job) 1 o

-- Each outcome of `rounds` under a key, except errors, is drawn in this way, whether or not
-- clauses clash.
abbrev pub KeyedRoundAnswers : Type 0
KeyedRoundAnswers = (job : Job) (key : List ℕ) (words : List (List ℕ)) (watchers : List Watcher)
    (text : List ℕ) (o : Outcome) → job.command ≡ Rounds → job.stacks ≡ Key key
    → Asks words job → IsOutcome words watchers text o → status_of o ≤ 1
    → IsKeyedRounds job key text o
