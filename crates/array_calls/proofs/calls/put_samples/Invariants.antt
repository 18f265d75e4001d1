use Rattle.std.proofs.Common.{◌/◌, length}
use Rattle.array_calls.specs.Trees.{tree_arrays}
use Rattle.array_calls.proofs.TreeRows.{RowsStand}
use Rattle.array_calls.proofs.calls.put_samples.Given as goal

-- the rows before here are at their ends
abbrev pub invariant-loop-j : goal.invariant-loop-j
invariant-loop-j l =
    RowsStand l.samples l.ends l.root l.first l.from l.budget (length l.fn.counts / 2) l.j l.left
    (tree_arrays l.fn.parents l.fn.edges l.fn.useds l.fn.counts) l.parents l.edges l.useds l.counts
