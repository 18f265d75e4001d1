use Rattle.std.proofs.Common.{◌≡◌, take, map}
use Rattle.confluence_core.proofs.stuck.Stuck.units.Given as goal

-- the units of the events before here
abbrev pub invariant-loop-i : goal.invariant-loop-i
invariant-loop-i l = l.units ≡ map (λ e. e.unit) (take l.i l.self)
