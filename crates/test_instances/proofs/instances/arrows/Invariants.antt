use Rattle.std.proofs.Common.{◌<◌, ◌^◌, length, All}
use Rattle.pop_instance.specs.Arrows.{heads_of}
use Rattle.test_instances.proofs.instances.arrows.Given as goal

-- the rows so far are short
abbrev pub invariant-loop-row : goal.invariant-loop-row
invariant-loop-row l = All (λ row. length row < 2 ^ 31) (heads_of l.rows.items)
