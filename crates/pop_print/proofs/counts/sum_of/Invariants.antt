use Rattle.std.proofs.Common.{◌≡◌, ◌*◌, ◌≤◌, ◌^◌, sum, take}
use Rattle.pop_print.proofs.counts.sum_of.Given as goal

-- the cursors up to here are summed, and each has at most 32 bits
abbrev pub invariant-loop-v : goal.invariant-loop-v
invariant-loop-v l = record { is : l.total ≡ sum (take l.v l.cursors); small : l.total ≤ l.v * 2 ^ 32 }
