use Rattle.std.proofs.Common.{◌<◌, ◌^◌, length, All}
use Rattle.test_instances.proofs.given.rows.Given as goal

-- the rows so far are short
abbrev pub invariant-loop-row : goal.invariant-loop-row
invariant-loop-row l = All (λ row. length row.items < 2 ^ 31) l.rows.items
