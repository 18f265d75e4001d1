use Rattle.std.proofs.Common.{◌≡◌, ℕ, ◌<◌, length, take, sum, slice_index}
use Rattle.pop_rows.proofs.flat_rows.starts_of.Given as goal

-- the starts up to here, and the next of them
abbrev pub invariant-loop-room : goal.invariant-loop-room
invariant-loop-room l = record {
  count : length l.starts.items ≡ l.room-index;
  each : (v : ℕ) → v < l.room-index → slice_index l.starts.items v ≡ sum (take v l.rooms);
  total : l.total ≡ sum (take l.room-index l.rooms);
}
