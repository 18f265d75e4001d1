use Rattle.std.proofs.Common.{◌≡◌, ◌*◌, ◌≤◌, ◌^◌, take}
use Rattle.std.specs.Prelude.{sum_by}
use Rattle.std.specs.List.{enumerate_from}
use Rattle.graph_read.specs.Grids.{grid_of}
use Rattle.pop_print.specs.Made.{slot_term}
use Rattle.pop_print.proofs.Degrees.{degrees_below}
use Rattle.pop_print.proofs.summary.slot_sum.Given as goal

-- the terms of the variables up to here are summed; a vertex is at most 2 ^ 22, and has as many slots as edges
abbrev pub invariant-loop-v : goal.invariant-loop-v
invariant-loop-v l = record {
  is : l.total ≡ sum_by slot_term (take l.v (enumerate_from 0 l.values));
  small : l.total ≤ 2 ^ 22 * degrees_below (grid_of l.side) l.v;
}
