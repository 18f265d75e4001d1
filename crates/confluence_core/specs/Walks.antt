-- Paths along the current arrows. The facts here are for cursors c, a mark for each variable, and
-- the variables at the first places of a path.
use Rattle.std.specs.Prelude.{◌≡◌, ◌≢◌, ◌⊎◌, ℕ, suc, ◌+◌, ◌-◌, ◌^◌, ◌<◌, ◌≤◌, true, List, length, slice_index, AllPairs, Contains, Option, Some, MatchOption}
use Rattle.pop_model.specs.Popping.{Cube, Occurs, HasNext, names}
use Rattle.pop_model.specs.Cycles.{IsCycle, first_of}
use Rattle.pop_model.specs.Families.{Event, IsEvent}
use Rattle.pop_model.specs.Instances.{IsInstance}
use Rattle.pop_model.proofs.Room.{left_from}
use Rattle.confluence_core.specs.CycleTables.{CycleTable, cycles, current_head, AreCursors}
use Rattle.confluence_core.specs.declared.walked.Walked.{Walked}

-- the mark of a settled variable; that of a variable on the path is its place there plus 1
abbrev pub settled : ℕ
settled = 2 ^ 32 - 1

-- the variable is settled
abbrev pub IsSettled : List ℕ → ℕ → Type 0
IsSettled marks v = slice_index marks v ≡ settled

-- the variable is at one of the first places of the path
abbrev pub IsOn : List ℕ → ℕ → ℕ → Type 0
IsOn path depth v = (k : ℕ) × (k < depth) × (slice_index path k ≡ v)

-- the place of the variable among the first places of the path, if it is there
abbrev pub IsPlaceOf : List ℕ → ℕ → ℕ → Option ℕ → Type 0
IsPlaceOf path depth v found =
    MatchOption found (IsOn path depth v → ⊥) (λ k. (k < depth) × (slice_index path k ≡ v))

-- settled, or on the path
abbrev pub IsMet : List ℕ → List ℕ → ℕ → ℕ → Type 0
IsMet marks path depth v = IsSettled marks v ⊎ IsOn path depth v

-- the event of a cycle
abbrev pub cycle_event : Cube → Event
cycle_event e = record { unit = first_of e; cube = e }

-- a cycle that occurs, with variables that are all done
pub record IsStuckCycle (t : CycleTable) (c : List ℕ) (Done : ℕ → Type 0)
    (e : Event) : Type 0 where
  pub event : IsEvent (cycles t).family e
  pub occurs : Occurs t.stacks c e.cube
  pub done : (v : ℕ) → names e.cube v ≡ true → Done v

-- From variables that are done the arrows lead to variables that are done, or to the root. The
-- list has exactly the cycles through them that occur.
pub record AreDone (t : CycleTable) (c : List ℕ) (Done : ℕ → Type 0)
    (stuck : List Event) : Type 0 where
  pub closed : (v w : ℕ) → Done v → current_head t c v ≡ Some w → Done w
  pub found : (v : ℕ) (e : Cube) → Done v → IsCycle t.heads e → names e v ≡ true
      → Occurs t.stacks c e → Contains stuck (cycle_event e)
  pub are_stuck : (e : Event) → Contains stuck e → IsStuckCycle t c Done e
  pub differ : AllPairs (λ e f. e.unit ≢ f.unit) stuck

-- the sizes of the lists that a walk uses
pub record AreSized (t : CycleTable) (c marks path : List ℕ) : Type 0 where
  pub instance : IsInstance (cycles t)
  pub cursors : AreCursors t c
  pub marks_are : length marks ≡ length t.heads
  pub places_are : length path ≡ length t.heads

-- the arrows lead along the path, which passes no variable twice
pub record IsPath (t : CycleTable) (c marks path : List ℕ) (depth : ℕ) : Type 0 where
  pub leads : (k : ℕ) → suc k < depth
      → current_head t c (slice_index path k) ≡ Some (slice_index path (suc k))
  pub below : (k : ℕ) → k < depth → slice_index path k < length t.heads
  pub marked : (k : ℕ) → k < depth → slice_index marks (slice_index path k) ≡ suc k

-- a walk can continue to v, which it has not met: the last arrow of the path leads there
pub record CanWalkOn (t : CycleTable) (c marks path : List ℕ) (depth v : ℕ) : Type 0 where
  pub trail : IsPath t c marks path depth
  pub fresh : IsMet marks path depth v → ⊥
  pub below : v < length t.heads
  pub last : (d : ℕ) → depth ≡ suc d → current_head t c (slice_index path d) ≡ Some v

-- the last arrow of the path leads back to a place of it, so the path from there on is a loop
pub record Closes (t : CycleTable) (c marks path : List ℕ) (depth place : ℕ) : Type 0 where
  pub trail : IsPath t c marks path (depth + 1)
  pub order : place ≤ depth
  pub back : current_head t c (slice_index path depth) ≡ Some (slice_index path place)

-- the number of pops, with those to come, fits a counter
abbrev pub HasRoom : CycleTable → Walked → Type 0
HasRoom t w = w.pops + left_from t.stacks 0 w.cursors < 2 ^ 63

-- below the limit no cycle that was noted can be popped
abbrev pub AreLast : CycleTable → Walked → Type 0
AreLast t w = w.pops < w.limit → (e : Event) → Contains w.stuck e
    → HasNext t.stacks w.cursors e.cube → ⊥
