-- The source and the sink in memory, and their states after a call.
use Rattle.std.specs.Prelude.{ℕ, List, [], ◌++◌, length, drop, take, Option, None, Some, Result, Ok, Err}
use Rattle.pop_edge.specs.Devices.{one_more}

-- A source: the bytes that it has left, and the most that one read gives. The reads with the
-- numbers in `failing`, from 1, fail.
pub record Input : Type 0 where
  pub left : List ℕ
  pub piece : ℕ
  pub failing : List ℕ
  -- the number of reads
  pub calls : ℕ
  pub faults : ℕ

-- A sink: the bytes that it holds, the most that it can hold, and the most that one write takes.
-- The writes with the numbers in `failing`, from 1, fail.
pub record Output : Type 0 where
  pub held : List ℕ
  pub room : ℕ
  pub piece : ℕ
  pub failing : List ℕ
  -- the number of writes
  pub calls : ℕ
  pub faults : ℕ

-- a source before its first read
abbrev pub new_source : List ℕ → ℕ → List ℕ → Input
new_source bytes piece failing =
    record { left = bytes; piece = piece; failing = failing; calls = 0; faults = 0 }

-- a sink before its first write
abbrev pub new_sink : ℕ → ℕ → List ℕ → Output
new_sink room piece failing =
    record { held = []; room = room; piece = piece; failing = failing; calls = 0; faults = 0 }

-- a source after a read: the bytes that were read are gone, and a failed read is a fault
abbrev pub after_read : {E : Type 0} → Input → Result ℕ E → Input
after_read s (Ok n) = record s { left = drop n s.left; calls = one_more s.calls }
after_read s (Err _) = record s { calls = one_more s.calls; faults = one_more s.faults }

-- a source after a read that gave these bytes, or failed
abbrev pub after_piece : Input → Option (List ℕ) → Input
after_piece s (Some bytes) =
    record s { left = drop (length bytes) s.left; calls = one_more s.calls }
after_piece s None = record s { calls = one_more s.calls; faults = one_more s.faults }

-- a sink after a write of a piece: it holds what it took, and a failed write is a fault
abbrev pub after_write : {E : Type 0} → Output → List ℕ → Result ℕ E → Output
after_write s piece (Ok n) =
    record s { held = s.held ++ take n piece; calls = one_more s.calls }
after_write s piece (Err _) = record s { calls = one_more s.calls; faults = one_more s.faults }
