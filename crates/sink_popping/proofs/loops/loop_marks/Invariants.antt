use Rattle.std.proofs.Common.{◌≡◌, ℕ, ◌+◌, ◌<◌, false, ◌&&◌, length, take, slice_index_or}
use Rattle.std.specs.List.{list_any}
use Rattle.graph_read.specs.Incidence.{is_loop, touches}
use Rattle.sink_popping.proofs.loops.loop_marks.Given as goal

-- the loops up to here are marked
abbrev pub invariant-loop-i : goal.invariant-loop-i
invariant-loop-i l = record {
  count : length l.marks.items ≡ l.graph.vertices + 1;
  each : (w : ℕ) → w < length l.marks.items
      → slice_index_or l.marks.items w false ≡ list_any (λ e. is_loop e && touches e w) (take l.i l.graph.edges);
}
