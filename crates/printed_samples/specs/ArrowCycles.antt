-- The cycles of arrows that still occur, in terms of the printed numbers.
use Rattle.std.specs.Prelude.{ℕ, ◌<◌, List, length, map, Contains}
use Rattle.std.specs.List.Sorted.{IsStrictlyIncreasing}
use Rattle.pop_model.specs.Stacks.{StackTable}
use Rattle.pop_model.specs.Popping.{values_at}
use Rattle.graph_read.specs.Graphs.{GraphOf}
use Rattle.printed_samples.specs.Arrows.{Arrow}
use Rattle.printed_samples.specs.Stuck.{ShowsStuck}
use Rattle.printed_samples.specs.Trees.{arrows_to, AreSteps}

-- The numbers are the vertices, rising, of a cycle of the arrows. An arrow leaves each of them,
-- none leads to another vertex, and they lead from each to each.
pub record IsArrowCycle (arrows : List Arrow) (numbers : List ℕ) : Type 0 where
  pub some : 0 < length numbers
  pub rising : IsStrictlyIncreasing numbers
  pub goes_on : (w : ℕ) → Contains numbers w → Contains (map (λ a. a.tail) arrows) w
  pub stays : (a : Arrow) → Contains arrows a → Contains numbers a.tail → Contains numbers a.head
  pub joined : (u w : ℕ) → Contains numbers u → Contains numbers w
      → (path : List Arrow) × AreSteps arrows u path w

-- the text begins with the cycles of the arrows, if the vertices have the slots at its cursors
abbrev pub ShowsCycles : GraphOf → ℕ → StackTable → List ℕ → Type 0
ShowsCycles g root s out =
    ShowsStuck (λ used numbers. IsArrowCycle (arrows_to g root (values_at s used)) numbers) out
