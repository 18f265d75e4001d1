-- The states of runs, and what a stretch of a run adds. Only here it is said that a legal log
-- leads from one state to another.
use Rattle.std.specs.Prelude.{◌≡◌, ◌+◌, ◌<◌, ◌++◌, [], ℕ, Bool, if◌then◌else◌, List, length, Option, None, Some, All}
use Rattle.pop_model.specs.Stacks.{variables_of}
use Rattle.pop_model.specs.Popping.{AreWithin, AreValuesAt}
use Rattle.pop_model.specs.Families.{Event, units_of}
use Rattle.pop_model.specs.Instances.{Instance}
use Rattle.pop_model.specs.Logs.{LogRecord, IsLegal, replay}
use Rattle.pop_model.specs.Runs.{IsStuckList}
use Rattle.confluence_core.specs.Suspects.{MissesNone}
use Rattle.confluence_core.specs.declared.reached.Reached.{Reached}
use Rattle.confluence_core.specs.declared.run.Run.{Run}

-- the log with more records after it, if it is kept
abbrev pub with_more : Option (List LogRecord) → List LogRecord → Option (List LogRecord)
with_more (Some kept) more = Some (kept ++ more)
with_more None more = None

-- A legal log leads on from the old state of a run to the new one. Its records are those of the
-- pops in between, and they follow the log if it is kept.
pub record LeadsOn (i : Instance) (old new : Reached) : Type 0 where
  pub log : List LogRecord
  pub legal : IsLegal i old.cursors log
  pub cursors_are : new.cursors ≡ replay old.cursors log
  pub pops_are : new.pops ≡ old.pops + length log
  pub log_is : new.log ≡ with_more old.log log

-- A run can be continued from there: each variable has a cursor, below its height, and the
-- suspects are units that cover every poppable event.
pub record CanGoOn (i : Instance) (reached : Reached) : Type 0 where
  pub count : variables_of i.stacks ≡ length reached.cursors
  pub within : AreWithin i.stacks reached.cursors
  pub units : All (λ u. u < units_of i.family) reached.suspects
  pub suspects : MissesNone i reached.cursors reached.suspects

-- a run has continued from its old state, and can be continued
pub record GoesOn (i : Instance) (old new : Reached) : Type 0 where
  pub leads : LeadsOn i old new
  pub can : CanGoOn i new

-- a run from these cursors before its first pop
abbrev pub before_pops : List ℕ → Bool → Reached
before_pops start keeps = record {
  cursors = start;
  pops = 0;
  log = if keeps then Some [] else None;
  suspects = [];
}

-- a run that kept this log of all its pops, and is at these cursors
abbrev pub logged : List ℕ → List LogRecord → Reached
logged cursors log = record {
  cursors = cursors;
  pops = length log;
  log = Some log;
  suspects = [];
}

-- a run from these cursors has reached this state; its log exists exactly if it is kept
abbrev pub IsReached : Instance → List ℕ → Bool → Reached → Type 0
IsReached i start keeps reached = GoesOn i (before_pops start keeps) reached

-- some run has reached this state
abbrev pub HasCome : Instance → Reached → Type 0
HasCome i reached = (start : List ℕ) × (keeps : Bool) × IsReached i start keeps reached

-- two logs one after the other, if both exist
abbrev pub both_logs : Option (List LogRecord) → Option (List LogRecord) → Option (List LogRecord)
both_logs (Some xs) (Some ys) = Some (xs ++ ys)
both_logs (Some xs) None = None
both_logs None more = None

-- the state of a run after another stretch
abbrev pub joined : Reached → Reached → Reached
joined old more = record more {
  pops = old.pops + more.pops;
  log = both_logs old.log more.log;
}

-- a run in this state is at an end, and these are the events that occur there
pub record HasEnded (i : Instance) (reached : Reached) (stuck : List Event) : Type 0 where
  pub none : reached.suspects ≡ []
  pub stuck_list : IsStuckList i reached.cursors stuck

-- the result of a run in this state: the events that occur there, and the values
pub record IsTold (i : Instance) (reached : Reached) (run : Run) : Type 0 where
  pub are : run ≡ record {
    end = record {
      cursors = reached.cursors;
      pops = reached.pops;
      stuck = run.end.stuck;
      values = run.end.values;
    };
    log = reached.log;
  }
  pub stuck_list : IsStuckList i reached.cursors run.end.stuck
  pub values : AreValuesAt i.stacks reached.cursors run.end.values
