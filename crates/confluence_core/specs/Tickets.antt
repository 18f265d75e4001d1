-- Records under tickets.
use Rattle.std.specs.Prelude.{ℕ}
use Rattle.pop_model.specs.Logs.{LogRecord}
use Rattle.confluence_core.specs.declared.ticketed.Ticketed.{Ticketed}

-- a ticket and the record that has it
abbrev pub ticket_of : Ticketed → ℕ × LogRecord
ticket_of t = (t.ticket, t.popped)
