-- Records of pops.
use Rattle.std.specs.Prelude.{ℕ, List}
use Rattle.pop_model.specs.Popping.{Cube}
use Rattle.pop_model.specs.Logs.{LogRecord, entries_at}

-- the record of an event that is popped at these cursors
abbrev pub record_at : ℕ → Cube → List ℕ → LogRecord
record_at unit e c = record { event = record { unit = unit; cube = e }; entries = entries_at c e }
