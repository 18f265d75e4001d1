use Rattle.std.proofs.Common.{◌≡◌, ◌++◌, take, codes}
use Rattle.pop_model.specs.Text.{spaced}
use Rattle.pop_print.specs.Output.{literals_of}
use Rattle.pop_print.proofs.assignment.push_assignment_of.Given as goal

-- the variables up to here are printed
abbrev pub invariant-loop-v : goal.invariant-loop-v
invariant-loop-v l = l.out ≡ l.fn.out ++ (codes "v" ++ spaced (take l.v (literals_of l.values)))
