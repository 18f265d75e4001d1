use Rattle.std.proofs.Common.{◌≡◌, ◌++◌, map, take, codes, decimal}
use Rattle.pop_model.specs.Text.{spaced}
use Rattle.pop_print.proofs.counts.push_used.Given as goal

-- the cursors up to here are printed
abbrev pub invariant-loop-v : goal.invariant-loop-v
invariant-loop-v l = l.out ≡ l.fn.out ++ (codes "used" ++ spaced (map decimal (take l.v l.cursors)))
