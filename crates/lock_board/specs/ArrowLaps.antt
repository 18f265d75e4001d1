-- Laps along the current arrows. Only the last variable of a lap is kept.
use Rattle.std.specs.Prelude.{◌≡◌, ℕ, List, Some}
use Rattle.pop_model.specs.Cycles.{ReachesRoot, follow}
use Rattle.confluence_core.specs.CycleTables.{CycleTable, current_head}
use Rattle.confluence_core.specs.ArrowWalks.{IsOnCycle}
use Rattle.lock_board.specs.declared.arrow_walk.Lap.{Lap}
use Rattle.lock_board.specs.declared.arrow_walk.Lap.TheVariants.{Root, Back, On}

-- The current arrows lead from the start to the root, back to the start, or to a variable after
-- this many steps.
abbrev pub Laps : CycleTable → List ℕ → ℕ → ℕ → Lap → Type 0
Laps t c start steps Root = ReachesRoot (current_head t c) start
Laps t c start steps Back = IsOnCycle t c start
Laps t c start steps (On v) = follow (current_head t c) steps start ≡ Some v
