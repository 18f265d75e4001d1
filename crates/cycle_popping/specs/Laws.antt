-- Theorems about cycles (Propp and Wilson 1998).
use Rattle.std.specs.Prelude.{ℕ, ◌<◌, ◌↔◌, List, Option, length}
use Rattle.pop_model.specs.Stacks.{StackTable}
use Rattle.pop_model.specs.Cycles.{AreArrows, ReachesRoot, arrow_at}
use Rattle.pop_model.specs.Families.Family.{Cycles}
use Rattle.pop_model.specs.Extremal.{IsExtremal}
use Rattle.pop_model.specs.Runs.{IsFinished}

-- the cycles of any arrows are extremal
abbrev pub CyclesExtremal : Type 0
CyclesExtremal = (heads : List (List (Option ℕ))) → IsExtremal (Cycles heads)

-- no cycle occurs exactly if the current arrows lead from each variable to the root
abbrev pub TreeEnd : Type 0
TreeEnd = (s : StackTable) (heads : List (List (Option ℕ))) → AreArrows heads → (c : List ℕ)
    → IsFinished (record { stacks = s; family = Cycles heads }) c
    ↔ ((v : ℕ) → v < length heads → ReachesRoot (arrow_at heads s c) v)
