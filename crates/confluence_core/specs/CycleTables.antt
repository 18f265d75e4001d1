-- Stacks with values that are slots of arrows, and the current arrows at cursors.
use Rattle.std.specs.Prelude.{◌≡◌, ℕ, List, Option, length}
use Rattle.pop_model.specs.Stacks.{StackTable, value_at}
use Rattle.pop_model.specs.Popping.{AreWithin, cursor}
use Rattle.pop_model.specs.Cycles.{arrow_at}
use Rattle.pop_model.specs.Families.Family.{Cycles}
use Rattle.pop_model.specs.Instances.{Instance}

-- for each variable the heads of its slots; None is the root
abbrev pub Heads : Type 0
Heads = List (List (Option ℕ))

-- stacks, and the heads that their values point to
pub record CycleTable : Type 0 where
  pub stacks : StackTable
  pub heads : Heads

-- the instance with the cycles as its events
abbrev pub cycles : CycleTable → Instance
cycles t = record { stacks = t.stacks; family = Cycles t.heads }

-- the current slot of a variable
abbrev pub current_slot : CycleTable → List ℕ → ℕ → ℕ
current_slot t c v = value_at t.stacks v (cursor c v)

-- the head of the current arrow of a variable; None is the root
abbrev pub current_head : CycleTable → List ℕ → ℕ → Option ℕ
current_head t c v = arrow_at t.heads t.stacks c v

-- each variable has a cursor, below its height
pub record AreCursors (t : CycleTable) (c : List ℕ) : Type 0 where
  pub count : length c ≡ length t.heads
  pub within : AreWithin t.stacks c
