-- The text of the end of a run by rounds, of a formula.
use Rattle.std.specs.Prelude.{◌≡◌, ℕ, List, [], ◌++◌, length, Option, None, Some, decimal, codes}
use Rattle.pop_model.specs.Stacks.{variables_of}
use Rattle.pop_model.specs.Popping.{values_at}
use Rattle.pop_model.specs.Families.{Event}
use Rattle.pop_model.specs.Instances.{Instance}
use Rattle.pop_model.specs.Runs.{IsStuckList}
use Rattle.pop_model.specs.Text.{line}
use Rattle.pop_print.specs.declared.facts.Facts.{Facts}
use Rattle.pop_print.specs.Names.{name_of}
use Rattle.pop_print.specs.Output.{findings, used_line}

-- one cursor for each variable, the events that occur there, and the values
pub record IsShownAt (i : Instance) (cursors : List ℕ) (stuck : List Event) (shown : List ℕ)
    : Type 0 where
  pub count : length cursors ≡ variables_of i.stacks
  pub stuck_list : IsStuckList i cursors stuck
  pub values : shown ≡ values_at i.stacks cursors

-- the line of the number of rounds
abbrev pub rounds_line : ℕ → List ℕ
rounds_line rounds = line (codes "rounds " ++ decimal rounds)

-- the line of the variable without a next entry, by its printed name, if there is one
abbrev pub short_line : Facts → Option ℕ → List ℕ
short_line facts None = []
short_line facts (Some v) = line (codes "short " ++ decimal (name_of facts v))

-- the result, the cursors, the number of rounds and, if the run is exhausted, the short variable
abbrev pub rounds_text : Facts → Instance → List ℕ → ℕ → List Event → Option ℕ → List ℕ
rounds_text facts i cursors rounds stuck short =
    findings facts i cursors stuck ++ used_line cursors ++ rounds_line rounds
    ++ short_line facts short
