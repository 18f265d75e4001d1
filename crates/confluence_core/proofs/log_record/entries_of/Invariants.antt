use Rattle.std.proofs.Common.{◌≡◌, take}
use Rattle.pop_model.specs.Logs.{entries_at}
use Rattle.confluence_core.proofs.log_record.entries_of.Given as goal

-- the entries of the pairs before here
abbrev pub invariant-loop-i : goal.invariant-loop-i
invariant-loop-i l = l.entries.items ≡ entries_at l.cursors (take l.i l.cube)
