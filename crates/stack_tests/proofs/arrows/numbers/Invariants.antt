use Rattle.std.proofs.Common.{◌<◌, ◌^◌, length, All}
use Rattle.stack_tests.proofs.arrows.numbers.Given as goal

-- the rows so far are short
abbrev pub invariant-loop-row : goal.invariant-loop-row
invariant-loop-row g l = All (λ row. length row < 2 ^ 31) l.rows
