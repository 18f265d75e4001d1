-- Tickets: the numbers of the pops of a run, by which parts of its log are merged.
use Rattle.std.specs.Prelude.{ℕ, List, IsPermutation}
use Rattle.std.specs.List.{enumerate_from}
use Rattle.pop_model.specs.Logs.{LogRecord}

-- the log has each record at the place of its ticket
abbrev pub IsMerged : List (ℕ × LogRecord) → List LogRecord → Type 0
IsMerged tickets log = IsPermutation tickets (enumerate_from 0 log)

-- the tickets are 0 to n - 1, each once
abbrev pub AreNumbered : List (ℕ × LogRecord) → Type 0
AreNumbered tickets = (log : List LogRecord) × IsMerged tickets log
