use Rattle.std.proofs.Common.{◌+◌, ◌-◌, length}
use Rattle.graph_read.specs.Search.{unmet}
use Rattle.graph_read.proofs.ReachedVertices.{Reaches}
use Rattle.graph_read.proofs.search.reach.Given as goal

-- the vertices found so far were visited
abbrev pub invariant-loop-at : goal.invariant-loop-at
invariant-loop-at l = Reaches l.ends l.root l.at l.search

abbrev pub decreases-loop-at : goal.decreases-loop-at
decreases-loop-at l = unmet l.search.met.items + length l.search.found.items - l.at
