use Rattle.std.proofs.Common.{◌≡◌, ◌≤◌, ◌+◌, ◌-◌, length, vec_len}
use Rattle.std.specs.Io.KnownBytes.{Consumes}
use Rattle.top_call.proofs.whole.read_whole.Given as goal

-- these bytes were taken so far
abbrev pub invariant-loop-bytes : goal.invariant-loop-bytes
invariant-loop-bytes g l =
    record {
      taken : Consumes (g.S.Source.left l.fn.source) (g.S.Source.left l.source) l.bytes.items;
      most : length l.bytes.items ≤ l.fn.limit + 1;
      later : g.S.Source.faults l.fn.source ≤ g.S.Source.faults l.source;
      room : vec_len l.room ≡ 65536;
    }

abbrev pub decreases-loop-bytes : goal.decreases-loop-bytes
decreases-loop-bytes g l = l.fn.limit + 2 - length l.bytes.items
