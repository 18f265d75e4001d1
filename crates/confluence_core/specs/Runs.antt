-- Runs to their ends.
use Rattle.std.specs.Prelude.{◌≡◌, ℕ, Bool, [], List, length}
use Rattle.pop_model.specs.Stacks.{StackTable, variables_of}
use Rattle.pop_model.specs.Popping.{AreWithin, AreValuesAt}
use Rattle.pop_model.specs.Instances.{Instance}
use Rattle.pop_model.specs.Extremal.{IsExtremal}
use Rattle.pop_model.specs.Runs.{IsStuckList, IsFirstEnd, start_of}
use Rattle.confluence_core.specs.Stretches.{IsReached}
use Rattle.confluence_core.specs.declared.end.End.{End}
use Rattle.confluence_core.specs.declared.reached.Reached.{Reached}
use Rattle.confluence_core.specs.declared.run.Run.{Run}
pub use Rattle.confluence_core.specs.Suspects.{IsSuspected, MissesNone}

-- each variable has a cursor, below its height, and its value there
pub record IsEndOver (s : StackTable) (end : End) : Type 0 where
  pub count : variables_of s ≡ length end.cursors
  pub within : AreWithin s end.cursors
  pub values : AreValuesAt s end.cursors end.values

-- the state of a finished run: no unit is left as a suspect
abbrev pub ended : Run → Reached
ended left = record {
  cursors = left.end.cursors;
  pops = left.end.pops;
  log = left.log;
  suspects = [];
}

-- the result of a run from these cursors to its end; from zeros on an extremal family its end is
-- that of the one-thread run
pub record IsRunOf (i : Instance) (start : List ℕ) (keeps : Bool) (left : Run) : Type 0 where
  pub reached : IsReached i start keeps (ended left)
  pub stuck_list : IsStuckList i left.end.cursors left.end.stuck
  pub values : AreValuesAt i.stacks left.end.cursors left.end.values
  pub first : IsExtremal i.family → start ≡ start_of i
      → IsFirstEnd i left.end.cursors left.end.pops left.end.stuck
