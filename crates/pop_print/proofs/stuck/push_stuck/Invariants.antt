use Rattle.std.proofs.Common.{◌≡◌, ◌++◌, take}
use Rattle.pop_instance.specs.Family.{family_of}
use Rattle.pop_print.specs.Output.{stuck_lines}
use Rattle.pop_print.proofs.stuck.push_stuck.Given as goal

-- the events up to here are printed
abbrev pub invariant-loop-i : goal.invariant-loop-i
invariant-loop-i l = l.out ≡ l.fn.out ++ stuck_lines l.facts (family_of l.family) (take l.i l.stuck)
