use Rattle.std.proofs.Common.{length, ◌-◌, ◌≤◌, take}
use Rattle.std.specs.Io.KnownBytes.{Appends}
use Rattle.pop_edge.proofs.sink.put_all.Given as goal

-- the front of the bytes was taken, and the count of faults hasn't fallen
abbrev pub invariant-loop-done : goal.invariant-loop-done
invariant-loop-done g l =
    record {
      within : l.done ≤ length l.bytes;
      taken : Appends (g.K.Sink.holds l.fn.sink) (g.K.Sink.holds l.sink) (take l.done l.bytes);
      faults : g.K.Sink.faults l.fn.sink ≤ g.K.Sink.faults l.sink;
    }

abbrev pub decreases-loop-done : goal.decreases-loop-done
decreases-loop-done g l = length l.bytes - l.done
