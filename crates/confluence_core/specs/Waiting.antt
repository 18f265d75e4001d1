-- Runs of listed events by a work list: the units in it cover the poppable events.
use Rattle.std.specs.Prelude.{◌≡◌, ℕ, ◌+◌, ◌^◌, ◌<◌, ◌≤◌, List, length}
use Rattle.pop_model.specs.Stacks.{StackTable, variables_of}
use Rattle.pop_model.specs.Popping.{Cube, AreWithin}
use Rattle.pop_model.specs.Families.Family.{Listed}
use Rattle.pop_model.proofs.Room.{left_from}
use Rattle.confluence_core.specs.Search.{Covers}
use Rattle.confluence_core.specs.Stretches.{LeadsOn}
use Rattle.confluence_core.specs.WorkList.{Waiting}
use Rattle.confluence_core.specs.declared.reached.Reached.{Reached}

-- a run has continued, under a limit, and there is room for the remaining pops
pub record PopsListed (s : StackTable) (rows : List (ℕ × Cube)) (limit : ℕ) (old new : Reached)
    (work : Waiting) : Type 0 where
  pub leads : LeadsOn (record { stacks = s; family = Listed rows }) old new
  pub count : variables_of s ≡ length new.cursors
  pub within : AreWithin s new.cursors
  pub most : old.pops ≤ limit → new.pops ≤ limit
  pub room : new.pops + left_from s 0 new.cursors < 2 ^ 62
  pub units : work.units ≡ length rows
  pub covers : Covers s new.cursors rows work.list
