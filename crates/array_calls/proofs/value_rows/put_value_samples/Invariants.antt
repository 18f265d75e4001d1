use Rattle.std.proofs.Common.{◌/◌, length}
use Rattle.array_calls.specs.RowSamples.{ends_of}
use Rattle.array_calls.specs.Values.{value_arrays}
use Rattle.array_calls.proofs.ValueRows.{ValuesStand}
use Rattle.array_calls.proofs.value_rows.put_value_samples.Given as goal

-- the rows before here are at their ends
abbrev pub invariant-loop-j : goal.invariant-loop-j
invariant-loop-j l =
    ValuesStand (ends_of l.samples) l.count l.first l.from l.budget (length l.fn.counts / 2) l.j l.left
    (value_arrays l.fn.values l.fn.useds l.fn.counts) l.values l.useds l.counts
