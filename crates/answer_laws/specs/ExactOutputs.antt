-- The exact law on printed bytes: of all words that differ in their rows alone, as many make the
-- program print one sample as another (Propp and Wilson 1998; Guo, Jerrum and Liu 2019).
use Rattle.std.specs.Prelude.{◌≡◌, ℕ, ◌<◌, List, ◌++◌, length, codes, All, Contains, Ok, ⊤}
use Rattle.pop_model.specs.Popping.{Cube}
use Rattle.pop_model.specs.Text.{line}
use Rattle.dimacs_read.specs.CnfText.{AnswersCnf, cnf_of}
use Rattle.dimacs_read.specs.Falsifying.{AreEventsOf}
use Rattle.pop_stacks.specs.Faults.{AreLight}
use Rattle.pop_samples.specs.Frames.{Rows, AreRows, IsSampleOf}
use Rattle.pop_samples.specs.Lists.{AreAll}
use Rattle.pop_samples.specs.ExactLaws.{AreProportional}
use Rattle.pop_words.specs.declared.command.Command.TheVariants.{Rounds}
use Rattle.pop_words.specs.declared.job.Job.{Job}
use Rattle.pop_words.specs.Options.{quiet}
use Rattle.pop_words.specs.CommandLines.{Asks}
use Rattle.pop_watch.specs.Telling.{Watcher}
use Rattle.pop_print.specs.declared.facts.Facts.{Facts}
use Rattle.pop_print.specs.declared.facts.Facts.TheVariants.{Formula as FormulaFacts, Orient as OrientFacts, Tree as TreeFacts, Made as MadeFacts}
use Rattle.pop_print.specs.Output.{sample_lines}
use Rattle.top_call.specs.Answers.{wanted_by, IsAnswer}
use Rattle.job_subjects.specs.Subjects.{Subject, assignments, IsSubjectOf}
use Rattle.answer_laws.specs.ExactAnswers.{frame_over, over_rows}
use Rattle.answer_laws.specs.EverySample.{Satisfies}

-- The output for the arguments begins with the lines of this sample.
pub record Prints (words : List (List ℕ)) (watchers : List Watcher) (text : List ℕ) (facts : Facts)
    (values : List ℕ) : Type 0 where
  pub out : List ℕ
  pub more : List ℕ
  pub answer : IsAnswer words watchers text 0 out
  pub out_is : out ≡ (line (codes "s SAMPLE") ++ sample_lines facts values) ++ more

-- arguments that differ only in their rows: one for all rows of these heights and values
abbrev pub AskOver : Job → List (List ℕ) → List ℕ → (Rows → List (List ℕ)) → Type 0
AskOver job weights heights words = (rows : Rows) → AreRows weights heights rows
    → Asks (words rows) (over_rows job rows)

-- rows of these heights and values, for which the program prints this sample
pub record PrintsOver (weights : List (List ℕ)) (heights : List ℕ) (words : Rows → List (List ℕ))
    (watchers : List Watcher) (text : List ℕ) (facts : Facts) (values : List ℕ) (rows : Rows)
    : Type 0 where
  pub shape : AreRows weights heights rows
  pub prints : Prints (words rows) watchers text facts values

-- the lines of a sample are printed, and not only the summary of a grid that was made
abbrev pub AreTelling : Facts → Type 0
AreTelling (FormulaFacts n) = ⊤
AreTelling (OrientFacts g) = ⊤
AreTelling (TreeFacts g root) = ⊤
AreTelling (MadeFacts side) = ⊥

-- As many such arguments for `formula`, `orient` or `tree` print one sample as another. The sums
-- of the weights of their rows are in the ratio of the weights of the samples. A loop of a graph
-- prints the same line at both its values.
abbrev pub ExactOutputs : Type 0
ExactOutputs = (job : Job) (text : List ℕ) (s : Subject) (heights : List ℕ)
    (words : Rows → List (List ℕ)) (watchers : List Watcher)
    → Contains quiet job.command → IsSubjectOf job.command (wanted_by job) text s
    → AreTelling s.facts
    → length heights ≡ length s.weights → All (λ h. 0 < h) heights
    → AskOver job s.weights heights words → (w x : List ℕ)
    → IsSampleOf (frame_over s heights) w → IsSampleOf (frame_over s heights) x
    → (all others : List Rows)
    → AreAll (PrintsOver s.weights heights words watchers text s.facts w) all
    → AreAll (PrintsOver s.weights heights words watchers text s.facts x) others
    → AreProportional (frame_over s heights) w x all others

-- The same holds for `rounds`, for every formula: as many arguments print one satisfying
-- assignment as another.
abbrev pub ExactRoundOutputs : Type 0
ExactRoundOutputs = (job : Job) (text : List ℕ) (events : List (ℕ × Cube)) (heights : List ℕ)
    (words : Rows → List (List ℕ)) (watchers : List Watcher)
    → job.command ≡ Rounds → AnswersCnf text (Ok (cnf_of text))
    → AreEventsOf (cnf_of text).clauses events
    → length heights ≡ (cnf_of text).variables → All (λ h. 0 < h) heights
    → AskOver job (assignments (cnf_of text) events).weights heights words → (w x : List ℕ)
    → Satisfies (cnf_of text) w → Satisfies (cnf_of text) x → (all others : List Rows)
    → AreAll (PrintsOver (assignments (cnf_of text) events).weights heights words watchers text
    (FormulaFacts (cnf_of text).variables) w) all
    → AreAll (PrintsOver (assignments (cnf_of text) events).weights heights words watchers text
    (FormulaFacts (cnf_of text).variables) x) others
    → length all ≡ length others

-- The rows of which such words print a sample are a finite list: so what the law counts is there.
abbrev pub ListedOutputs : Type 0
ListedOutputs = (job : Job) (text : List ℕ) (s : Subject) (heights : List ℕ)
    (words : Rows → List (List ℕ)) (watchers : List Watcher)
    → Contains quiet job.command → IsSubjectOf job.command (wanted_by job) text s
    → AreTelling s.facts → AreLight s.weights
    → length heights ≡ length s.weights → All (λ h. 0 < h) heights
    → AskOver job s.weights heights words → (w : List ℕ) → IsSampleOf (frame_over s heights) w
    → (all : List Rows) × AreAll (PrintsOver s.weights heights words watchers text s.facts w) all

-- The same holds for the rows for which `rounds` prints a satisfying assignment.
abbrev pub ListedRoundOutputs : Type 0
ListedRoundOutputs = (job : Job) (text : List ℕ) (events : List (ℕ × Cube)) (heights : List ℕ)
    (words : Rows → List (List ℕ)) (watchers : List Watcher)
    → job.command ≡ Rounds → AnswersCnf text (Ok (cnf_of text))
    → AreEventsOf (cnf_of text).clauses events
    → length heights ≡ (cnf_of text).variables → All (λ h. 0 < h) heights
    → AskOver job (assignments (cnf_of text) events).weights heights words → (w : List ℕ)
    → Satisfies (cnf_of text) w
    → (all : List Rows) × AreAll (PrintsOver (assignments (cnf_of text) events).weights heights words
    watchers text (FormulaFacts (cnf_of text).variables) w) all
