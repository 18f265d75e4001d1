use Rattle.std.proofs.Common.{◌≡◌, ◌≤◌, take, count_by, not, eqb}
use Rattle.pop_watch.proofs.layers.not_zeros.Given as goal

-- how many numbers so far aren't 0
abbrev pub invariant-loop-i : goal.invariant-loop-i
invariant-loop-i l = record {
  counted : l.count ≡ count_by (λ n. not (eqb n 0)) (take l.i l.numbers);
  few : l.count ≤ l.i;
}
