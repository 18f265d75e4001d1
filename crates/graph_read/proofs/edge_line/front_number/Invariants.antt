use Rattle.std.proofs.Common.{◌≤◌, ◌-◌}
use Rattle.pop_edge.proofs.NumbersLemmas.{HasRead}
use Rattle.graph_read.proofs.edge_line.front_number.Given as goal

-- the first bytes are digits of the value
abbrev pub invariant-loop-count : goal.invariant-loop-count
invariant-loop-count l = HasRead l.bytes l.count l.value × (l.count ≤ l.end)

abbrev pub decreases-loop-count : goal.decreases-loop-count
decreases-loop-count l = l.end - l.count
