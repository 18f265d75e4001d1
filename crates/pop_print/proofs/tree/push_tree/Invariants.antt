use Rattle.std.proofs.Common.{◌≡◌, ◌++◌, take}
use Rattle.std.specs.List.{enumerate_from, flat_map}
use Rattle.pop_print.specs.Output.{vertex_line}
use Rattle.pop_print.proofs.tree.push_tree.Given as goal

-- the vertices up to here are printed
abbrev pub invariant-loop-v : goal.invariant-loop-v
invariant-loop-v l = l.out
    ≡ l.fn.out ++ flat_map (vertex_line l.graph l.root) (take l.v (enumerate_from 0 l.values))
