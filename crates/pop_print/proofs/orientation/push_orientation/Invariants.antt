use Rattle.std.proofs.Common.{◌≡◌, ◌++◌, take}
use Rattle.std.specs.List.{enumerate_from, flat_map}
use Rattle.pop_print.specs.Output.{edge_line}
use Rattle.pop_print.proofs.orientation.push_orientation.Given as goal

-- the edges up to here are printed
abbrev pub invariant-loop-i : goal.invariant-loop-i
invariant-loop-i l = l.out ≡ l.fn.out ++ flat_map (edge_line l.values) (take l.i (enumerate_from 0 l.graph.edges))
