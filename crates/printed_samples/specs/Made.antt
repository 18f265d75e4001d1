-- The summary of an end if a grid is made, in terms of the tree that its sum is taken over, or of
-- the cycles that it counts.
use Rattle.std.specs.Prelude.{◌≡◌, ℕ, List, ◌++◌, length, codes}
use Rattle.pop_model.specs.Stacks.{StackTable}
use Rattle.pop_model.specs.Popping.{values_at}
use Rattle.pop_model.specs.Text.{line}
use Rattle.graph_read.specs.Grids.{grid_of}
use Rattle.pop_print.specs.Made.{grid_line, count_line, totals_line, sum_line, slot_sum}
use Rattle.pop_print.specs.Output.{pops_line}
use Rattle.printed_samples.specs.Stuck.{AreStuck}
use Rattle.printed_samples.specs.Trees.{arrows_to, IsTreeTo}
use Rattle.printed_samples.specs.ArrowCycles.{IsArrowCycle}

-- The text is that of slots of the vertices except the first. Their arrows are a spanning tree of
-- the grid and lead to vertex 1. The printed sum is over these slots.
pub record ShowsMade (side : ℕ) (out : List ℕ) : Type 0 where
  pub slots : List ℕ
  pub used : List ℕ
  pub pops : ℕ
  pub out_is : out ≡ line (codes "s SAMPLE") ++ grid_line side ++ totals_line used ++ pops_line pops
      ++ sum_line (slot_sum slots)
  pub tree : IsTreeTo (grid_of side) 1 (arrows_to (grid_of side) 1 slots)

-- the text has the number of cycles of the arrows at cursors with the printed totals
pub record CountsCycles (side : ℕ) (s : StackTable) (out : List ℕ) : Type 0 where
  pub events : List (List ℕ)
  pub used : List ℕ
  pub pops : ℕ
  pub out_is : out ≡ line (codes "s EXHAUSTED") ++ grid_line side ++ count_line (length events)
      ++ totals_line used ++ pops_line pops
  pub stuck : AreStuck (IsArrowCycle (arrows_to (grid_of side) 1 (values_at s used))) events
