use Rattle.std.proofs.Common.{◌≡◌, take}
use Rattle.pop_instance.proofs.events.copy_rows.Given as goal

-- the rows up to here are copied
abbrev pub invariant-loop-place : goal.invariant-loop-place
invariant-loop-place l = l.copies.items ≡ take l.place l.rows
