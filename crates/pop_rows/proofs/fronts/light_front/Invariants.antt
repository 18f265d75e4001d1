use Rattle.std.proofs.Common.{◌≡◌, ◌<◌, ◌^◌, sum, take}
use Rattle.pop_rows.proofs.fronts.light_front.Given as goal

-- the sum of the numbers up to here has 32 bits
abbrev pub invariant-loop-k : goal.invariant-loop-k
invariant-loop-k l = record {
  whole : l.total ≡ sum (take l.k l.list);
  light : l.total < 2 ^ 32;
}
