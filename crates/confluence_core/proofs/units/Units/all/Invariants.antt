use Rattle.std.proofs.Common.{◌≡◌}
use Rattle.std.specs.List.{range_with_len}
use Rattle.confluence_core.proofs.units.Units.all.Given as goal

-- the units before here
abbrev pub invariant-loop-unit : goal.invariant-loop-unit
invariant-loop-unit l = l.units ≡ range_with_len 0 l.unit
