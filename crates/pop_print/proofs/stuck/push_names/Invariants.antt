use Rattle.std.proofs.Common.{◌≡◌, ◌++◌, take, map, decimal}
use Rattle.pop_model.specs.Popping.{variables}
use Rattle.pop_model.specs.Text.{spaced}
use Rattle.pop_print.specs.Names.{name_of}
use Rattle.pop_print.proofs.stuck.push_names.Given as goal

-- the variables up to here are printed
abbrev pub invariant-loop-i : goal.invariant-loop-i
invariant-loop-i l = l.out ≡ l.fn.out ++ spaced (take l.i (map decimal (map (name_of l.facts) (variables l.cube))))
