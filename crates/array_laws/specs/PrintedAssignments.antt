-- The rows of assignments that the calls with arrays fill, and the lines of the printed answers.
-- Under one key, row j of a call by popping from sample `first` on has the numbers in the text of
-- sample first + j of `formula`. Row 0 of a call by rounds from sample 0 on has those of `rounds`.
use Rattle.std.specs.Prelude.{◌≡◌, ◌⊎◌, ℕ, ℤ, ◌+◌, ◌*◌, ◌≤◌, List, [], ◌++◌, length, slice_index, slice_get, Option, Some, Ok}
use Rattle.pop_model.specs.Families.{Event}
use Rattle.pop_model.specs.Instances.{Instance}
use Rattle.prs_rounds.specs.Rounds.{IsRoundsEnd}
use Rattle.dimacs_read.specs.Cnf.{Cnf}
use Rattle.dimacs_read.specs.CnfText.{AnswersCnf}
use Rattle.dimacs_read.specs.Literals.{cnf_in}
use Rattle.pop_stacks.specs.declared.stack_spec.StackSpec.TheVariants.{Key}
use Rattle.pop_words.specs.declared.command.Command.TheVariants.{Formula, Rounds}
use Rattle.pop_words.specs.declared.job.Job.{Job}
use Rattle.pop_words.specs.CommandLines.{Asks}
use Rattle.pop_watch.specs.Telling.{Watcher}
use Rattle.pop_print.specs.declared.facts.Facts.TheVariants.{Formula as FormulaFacts}
use Rattle.pop_print.specs.Output.{assignment_line, used_line}
use Rattle.pop_print.specs.Rounds.{rounds_line, short_line}
use Rattle.top_call.specs.Answers.{IsAnswer, last_height}
use Rattle.array_calls.specs.Assignments.{AreEventsUnder}
use Rattle.array_calls.specs.Rounded.{IsRoundRow}
use Rattle.array_calls.specs.Values.{IsValueRow}
use Rattle.array_laws.specs.BatchTexts.{AskForBatch, IsEndText, found_of}
use Rattle.array_laws.specs.PrintedRows.{HasTexts, numbers_from}

-- the line of the assignment of n variables in the row that begins at a place
abbrev pub row_assignment : ℕ → ℕ → List ℕ → List ℕ
row_assignment at n values = assignment_line (numbers_from at n values)

-- the text of row j of the assignments of n variables, if cursors are wanted too
abbrev pub IsTextOfAssignment : ℕ → Instance → ℕ → List ℕ → List ℕ → List ℕ → List ℕ → Type 0
IsTextOfAssignment n i j values useds counts =
    IsEndText (FormulaFacts n) i.family (row_assignment (j * n) n values)
    (numbers_from (j * n) n useds) (slice_index counts (2 * j)) (slice_index counts (2 * j + 1))

-- The text of its sample has each row of assignments of the formula under the key, whichever call
-- by popping filled the row.
abbrev pub AreTextsOfAssignments : List ℕ → ℕ → Cnf → List (List ℕ) → Type 0
AreTextsOfAssignments key height f texts = (i : Instance) (first j : ℕ)
    (values useds counts text : List ℕ) → AreEventsUnder key height f i
    → slice_get texts (first + j) ≡ Some text → f.variables ≤ length useds
    → IsValueRow i f.variables first [] j values useds counts
    → IsTextOfAssignment f.variables i j values useds counts text

-- If arguments ask for assignments of a formula under a key, each answer except errors has the
-- text of each row of the arrays.
abbrev pub AssignmentRowsPrinted : Type 0
AssignmentRowsPrinted = (words : List (List ℕ)) (watchers : List Watcher) (text out : List ℕ)
    (n : ℕ) (literals : List ℤ) (key : List ℕ) (height count status : ℕ)
    → AskForBatch words Formula key height count → AnswersCnf text (Ok (cnf_in n literals))
    → IsAnswer words watchers text status out → (status ≡ 0) ⊎ (status ≡ 1)
    → HasTexts count (AreTextsOfAssignments key height (cnf_in n literals)) out

-- The arguments ask for rounds over stacks of this last height under a key.
pub record AskForRounds (words : List (List ℕ)) (key : List ℕ) (height : ℕ) : Type 0 where
  pub job : Job
  pub asks : Asks words job
  pub command_is : job.command ≡ Rounds
  pub key_is : job.stacks ≡ Key key
  pub height_is : last_height job ≡ height

-- The text of the end of the rounds. It has the lines of its assignment, or of a number of events
-- that still occur. Then it has the lines of its cursors, of the number of its rounds and, if it is
-- exhausted, of the variable without a next entry.
pub record IsRoundText (n : ℕ) (i : Instance) (lines cursors : List ℕ) (rounds stuck : ℕ)
    (text : List ℕ) : Type 0 where
  pub events : List Event
  pub short : Option ℕ
  pub end : IsRoundsEnd i cursors rounds events short
  pub many : length events ≡ stuck
  pub text_is : text
      ≡ found_of (FormulaFacts n) i.family lines events ++ used_line cursors ++ rounds_line rounds
      ++ short_line (FormulaFacts n) short

-- the text of row 0 of the assignments by rounds of n variables, if cursors are wanted too
abbrev pub IsTextOfRounds : ℕ → Instance → List ℕ → List ℕ → List ℕ → List ℕ → Type 0
IsTextOfRounds n i values useds counts =
    IsRoundText n i (row_assignment 0 n values) (numbers_from 0 n useds) (slice_index counts 0)
    (slice_index counts 1)

-- If arguments ask for rounds of a formula under a key, each answer except errors is the text of
-- row 0 of the arrays, whichever call by rounds from sample 0 on filled the row.
abbrev pub RoundRowPrinted : Type 0
RoundRowPrinted = (words : List (List ℕ)) (watchers : List Watcher) (text out : List ℕ)
    (n : ℕ) (literals : List ℤ) (key : List ℕ) (height status : ℕ) (i : Instance)
    (values useds counts : List ℕ)
    → AskForRounds words key height → AnswersCnf text (Ok (cnf_in n literals))
    → IsAnswer words watchers text status out → (status ≡ 0) ⊎ (status ≡ 1)
    → AreEventsUnder key height (cnf_in n literals) i → n ≤ length useds
    → IsRoundRow i n 0 [] 0 values useds counts
    → IsTextOfRounds n i values useds counts out
