-- The paths along the current arrows from a variable, and the cycles on them that occur.
use Rattle.std.specs.Prelude.{◌≡◌, ◌≢◌, ℕ, suc, ◌<◌, ◌≤◌, true, List, length, slice_index, Option, Some, MatchOption}
use Rattle.pop_model.specs.Stacks.{StackTable}
use Rattle.pop_model.specs.Popping.{Cube, Occurs, names}
use Rattle.pop_model.specs.Cycles.{IsCycle, ReachesRoot, arrow_at, follow, first_of}
use Rattle.confluence_core.specs.CycleTables.{CycleTable, current_head}
use Rattle.confluence_core.specs.Loops.{AreMembers, IsCubeOf}

-- some cycle that occurs names the variable
pub record IsOnCycle (t : CycleTable) (c : List ℕ) (v : ℕ) : Type 0 where
  pub cube : Cube
  pub cycle : IsCycle t.heads cube
  pub occurs : Occurs t.stacks c cube
  pub named : names cube v ≡ true

-- the current arrows lead from the start to a variable of a cycle that occurs
pub record LeadsToCycle (t : CycleTable) (c : List ℕ) (start v : ℕ) : Type 0 where
  pub steps : ℕ
  pub leads : follow (current_head t c) steps start ≡ Some v
  pub on : IsOnCycle t c v

-- the current arrows lead from the variable to one that the cube names
abbrev pub LeadsInto : List (List (Option ℕ)) → StackTable → List ℕ → ℕ → Cube → Type 0
LeadsInto heads s c start e =
    (k v : ℕ) × (follow (arrow_at heads s c) k start ≡ Some v) × (names e v ≡ true)

-- the cube is a cycle that occurs, and the current arrows lead to it from the start
pub record IsCycleFrom (t : CycleTable) (c : List ℕ) (start : ℕ) (e : Cube) : Type 0 where
  pub cycle : IsCycle t.heads e
  pub occurs : Occurs t.stacks c e
  pub leads : LeadsInto t.heads t.stacks c start e

-- what is found from a variable: a cycle, or None if the current arrows lead to the root
abbrev pub IsFoundAt : CycleTable → List ℕ → ℕ → Option Cube → Type 0
IsFoundAt t c start found =
    MatchOption found (ReachesRoot (current_head t c) start) (IsCycleFrom t c start)

-- The arrows lead along the list from the start. They do not return to the start, and pass no
-- variable below the bound.
pub record IsWay (t : CycleTable) (c : List ℕ) (low start : ℕ) (way : List ℕ) : Type 0 where
  pub first : slice_index way 0 ≡ start
  pub leads : (k : ℕ) → suc k < length way
      → current_head t c (slice_index way k) ≡ Some (slice_index way (suc k))
  pub away : (k : ℕ) → 0 < k → k < length way → slice_index way k ≢ start
  pub above : (k : ℕ) → k < length way → low ≤ slice_index way k
  pub below : (k : ℕ) → k < length way → slice_index way k < length t.heads

-- the cube is a cycle that occurs, names the variable, and names none below the bound
pub record IsCycleThrough (t : CycleTable) (c : List ℕ) (low v : ℕ) (e : Cube) : Type 0 where
  pub cycle : IsCycle t.heads e
  pub occurs : Occurs t.stacks c e
  pub named : names e v ≡ true
  pub above : low ≤ first_of e

-- there is no cycle as in `IsCycleThrough`
abbrev pub HasNoCycle : CycleTable → List ℕ → ℕ → ℕ → Type 0
HasNoCycle t c low v = (e : Cube) → IsCycleThrough t c low v e → ⊥

-- a closed walk along the current arrows from the start: its variables are those of a cycle as in
-- `IsCycleThrough`
pub record IsClosedWalk (t : CycleTable) (c : List ℕ) (low start : ℕ)
    (members : List ℕ) : Type 0 where
  pub are : AreMembers t members
  pub cube : Cube
  pub is_cube : IsCubeOf t c members cube
  pub through : IsCycleThrough t c low start cube
