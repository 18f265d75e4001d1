-- The theorem of exactness for `rounds`, stated for answers. It holds for every formula, whether
-- or not its events clash. The satisfying assignment with which rounds over given rows end may be
-- replaced in these rows by any other (Guo, Jerrum and Liu 2019).
use Rattle.std.specs.Prelude.{◌≡◌, ◌↔◌, ℕ, ◌<◌, List, [], ◌++◌, length, map, replicate, codes, All, None, Ok}
use Rattle.pop_model.specs.Popping.{Cube, values_at}
use Rattle.pop_model.specs.Instances.{Instance}
use Rattle.pop_model.specs.Text.{line}
use Rattle.dimacs_read.specs.Cnf.{Cnf, AreLiterals, first_empty}
use Rattle.dimacs_read.specs.CnfText.{AnswersCnf, cnf_of}
use Rattle.dimacs_read.specs.Falsifying.{AreEventsOf}
use Rattle.pop_samples.specs.Frames.{Rows, IsSampleOf}
use Rattle.pop_samples.specs.Exchange.{exchange}
use Rattle.pop_words.specs.declared.command.Command.TheVariants.{Rounds}
use Rattle.pop_words.specs.declared.job.Job.{Job}
use Rattle.pop_words.specs.CommandLines.{Asks}
use Rattle.pop_watch.specs.Telling.{Watcher}
use Rattle.pop_print.specs.declared.facts.Facts.TheVariants.{Formula as FormulaFacts}
use Rattle.pop_print.specs.Output.{assignment_line, used_line}
use Rattle.pop_print.specs.Rounds.{rounds_line}
use Rattle.told_runs.specs.Outcomes.Outcome.{Rounded}
use Rattle.top_call.specs.Answers.{IsOutcome, IsAnswer}
use Rattle.job_subjects.specs.Subjects.{assignments}
use Rattle.answer_laws.specs.ExactAnswers.{over_rows, frame_over}
use Rattle.answer_laws.specs.EverySample.{Satisfies}

-- The answer to the arguments and the input is this assignment. The rounds end at these cursors,
-- after this number of rounds. No event of the formula occurs there, and the values are these.
pub record IsRoundedBy (words : List (List ℕ)) (watchers : List Watcher) (text : List ℕ)
    (values cursors : List ℕ) (rounds : ℕ) : Type 0 where
  pub instance : Instance
  pub outcome : IsOutcome words watchers text
      (Rounded (FormulaFacts (cnf_of text).variables) instance cursors rounds [] None)
  pub sample : values_at instance.stacks cursors ≡ values

-- the output of such an answer: the assignment, the cursors and the number of rounds
abbrev pub rounded_text : List ℕ → List ℕ → ℕ → List ℕ
rounded_text values cursors rounds =
    (line (codes "s SAMPLE") ++ assignment_line values) ++ used_line cursors ++ rounds_line rounds

-- the output of rounds that end with some satisfying assignment
pub record IsRoundedOutput (words : List (List ℕ)) (watchers : List Watcher) (text out : List ℕ)
    : Type 0 where
  pub values : List ℕ
  pub cursors : List ℕ
  pub rounds : ℕ
  pub by : IsRoundedBy words watchers text values cursors rounds
  pub satisfied : Satisfies (cnf_of text) values
  pub out_is : out ≡ rounded_text values cursors rounds

-- Arguments for `rounds` have an answer with status 0 if and only if the answer is an assignment,
-- and its output is the text of that assignment.
abbrev pub RoundOutputs : Type 0
RoundOutputs = (job : Job) (words : List (List ℕ)) (watchers : List Watcher) (text out : List ℕ)
    → job.command ≡ Rounds → Asks words job
    → IsAnswer words watchers text 0 out ↔ IsRoundedOutput words watchers text out

-- The answer over the rows with another assignment in place of the first is that other assignment,
-- after equally many rounds, at the same cursors. If the first is written back, the rows are as
-- before.
pub record KeepsRounds (others : List (List ℕ)) (watchers : List Watcher) (text : List ℕ)
    (rows : Rows) (values other cursors : List ℕ) (rounds : ℕ) : Type 0 where
  pub answered : IsRoundedBy others watchers text other cursors rounds
  pub back : exchange (exchange rows cursors other) cursors values ≡ rows

-- this holds for each satisfying assignment of the formula
abbrev pub ExchangedRoundAnswers : Type 0
ExchangedRoundAnswers = (job : Job) (rows : Rows) (words others : List (List ℕ))
    (watchers : List Watcher) (text values other cursors : List ℕ) (rounds : ℕ)
    → Asks words (over_rows job rows) → Asks others (over_rows job (exchange rows cursors other))
    → IsRoundedBy words watchers text values cursors rounds → Satisfies (cnf_of text) other
    → KeepsRounds others watchers text rows values other cursors rounds

-- rows of these heights, for which the answer is this assignment, without any round
pub record IsReachedByRounds (job : Job) (text heights values : List ℕ) : Type 0 where
  pub rows : Rows
  pub lengths : map length rows ≡ heights
  pub answers : (words : List (List ℕ)) (watchers : List Watcher) → Asks words (over_rows job rows)
      → IsRoundedBy words watchers text values (replicate (length values) 0) 0

-- Each satisfying assignment of the formula is the answer for some rows, of any heights.
abbrev pub ReachedRoundAnswers : Type 0
ReachedRoundAnswers = (job : Job) (text : List ℕ) (events : List (ℕ × Cube))
    (heights values : List ℕ) → job.command ≡ Rounds → AnswersCnf text (Ok (cnf_of text))
    → AreEventsOf (cnf_of text).clauses events → Satisfies (cnf_of text) values
    → length heights ≡ (cnf_of text).variables → All (λ h. 0 < h) heights
    → IsReachedByRounds job text heights values

-- The samples of a formula's events are exactly its satisfying assignments.
abbrev pub SamplesSatisfy : Type 0
SamplesSatisfy = (f : Cnf) (events : List (ℕ × Cube)) (heights values : List ℕ)
    → AreLiterals f.variables f.clauses → first_empty f ≡ None → AreEventsOf f.clauses events
    → IsSampleOf (frame_over (assignments f events) heights) values ↔ Satisfies f values
