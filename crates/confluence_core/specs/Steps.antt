-- The result of one step of a walk, and the effect of popping a cycle on the state of the run.
use Rattle.std.specs.Prelude.{◌≡◌, ℕ, ◌+◌, ◌<◌, ◌≤◌, ◌++◌, ◌∷◌, [], List, Bool, MatchBool, slice_index, slice_set, Some}
use Rattle.pop_model.specs.Popping.{Cube, HasNext, pop}
use Rattle.pop_model.specs.Cycles.{first_of}
use Rattle.confluence_core.specs.Records.{record_at}
use Rattle.confluence_core.specs.CycleTables.{CycleTable, cycles, current_head}
use Rattle.confluence_core.specs.Loops.{IsCubeOf}
use Rattle.confluence_core.specs.Walks.{cycle_event, IsSettled, CanWalkOn, Closes}
use Rattle.confluence_core.specs.LoopErasedWalks.{HasPath, Walks, IsOver, begun_at, work}
use Rattle.confluence_core.specs.Stretches.{LeadsOn, with_more}
use Rattle.confluence_core.specs.declared.reached.Reached.{Reached}
use Rattle.confluence_core.specs.declared.walk.Walk.{Walk}
use Rattle.confluence_core.specs.declared.walked.Walked.{Walked}
use Rattle.confluence_core.specs.declared.steps.Step.{Step}
use Rattle.confluence_core.specs.declared.steps.Step.TheVariants.{On, Back, Rests}

-- the head of the last arrow of the path: a variable that was not met, a place of the path, or a
-- settled variable or the root
abbrev pub LeadsTo : Walk → Step → Type 0
LeadsTo w (On v) = CanWalkOn w.current w.walked.cursors w.marks.items w.path.items (w.depth + 1) v
LeadsTo w (Back place) = Closes w.current w.walked.cursors w.marks.items w.path.items w.depth place
LeadsTo w Rests = HasPath w (w.depth + 1)
    × ((v : ℕ) → current_head w.current w.walked.cursors (slice_index w.path.items w.depth) ≡ Some v
    → IsSettled w.marks.items v)

-- the variable that the path leads to is added to it
pub record Extends (old new : Walk) : Type 0 where
  pub path : new.path.items ≡ slice_set old.path.items old.depth old.at
  pub marks : new.marks.items ≡ slice_set old.marks.items old.at (old.depth + 1)
  pub others : new ≡ record old { marks = new.marks; path = new.path }

-- the record of a cycle's pop is added, if the log is kept
abbrev pub with_record : Walked → Cube → Walked
with_record w e = record w {
  log = with_more w.log (record_at (first_of e) e w.cursors ∷ []);
}

-- the cycle is popped
abbrev pub with_pop : Walked → Cube → Walked
with_pop w e = record (with_record w e) { cursors = pop w.cursors e; pops = w.pops + 1 }

-- the cycle is noted as stuck
abbrev pub with_stuck : Walked → Cube → Walked
with_stuck w e = record w { stuck = w.stuck ++ cycle_event e ∷ [] }

-- the cycle was popped
pub record Pops (t : CycleTable) (old new : Walked) (e : Cube) : Type 0 where
  pub few : old.pops < old.limit
  pub next : HasNext t.stacks old.cursors e
  pub popped : new ≡ with_pop old e

-- the cycle cannot be popped, or the limit is reached; so it was noted
pub record Notes (t : CycleTable) (old new : Walked) (e : Cube) : Type 0 where
  pub last : old.pops < old.limit → HasNext t.stacks old.cursors e → ⊥
  pub noted : new ≡ with_stuck old e

-- the cycle of these variables was popped or noted
abbrev pub Closed : CycleTable → Walked → Walked → List ℕ → Bool → Type 0
Closed t old new members popped = (e : Cube) → IsCubeOf t old.cursors members e
    → MatchBool popped (Pops t old new e) (Notes t old new e)

-- the state of the run after the walks
abbrev pub reached_by : Walked → Reached
reached_by w = record { cursors = w.cursors; pops = w.pops; log = w.log; suspects = [] }

-- a legal log leads on from the state before, under the same limit
pub record RunsOn (t : CycleTable) (old new : Walked) : Type 0 where
  pub leads : LeadsOn (cycles t) (reached_by old) (reached_by new)
  pub limit_is : new.limit ≡ old.limit
  pub most : old.pops ≤ old.limit → new.pops ≤ new.limit

-- the walk continues, closer to its end
pub record GoesTo (old new : Walk) : Type 0 where
  pub walks : Walks new
  pub begun : begun_at new ≡ begun_at old
  pub nearer : work new < work old

-- the walk is over
pub record Ends (old new : Walk) : Type 0 where
  pub over : IsOver new
  pub begun : slice_index new.path.items 0 ≡ begun_at old

-- the walk continues or is over
abbrev pub Advances : Walk → Walk → Bool → Type 0
Advances old new goes_on = MatchBool goes_on (GoesTo old new) (Ends old new)
