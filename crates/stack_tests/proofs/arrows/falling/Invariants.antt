use Rattle.std.proofs.Common.{◌<◌, ◌^◌, length, All}
use Rattle.stack_tests.proofs.arrows.falling.Given as goal

-- the rows so far are short
abbrev pub invariant-loop-v : goal.invariant-loop-v
invariant-loop-v g l = All (λ row. length row < 2 ^ 31) l.rows
