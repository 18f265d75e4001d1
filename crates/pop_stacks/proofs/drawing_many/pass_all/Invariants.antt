use Rattle.std.proofs.Common.{ℕ, ◌≡◌, ◌<◌, length, get_or}
use Rattle.pop_stacks.proofs.ManyDraws.{IsPassed}
use Rattle.pop_stacks.proofs.drawing_many.pass_all.Given as goal

-- each place has moved past the sums up to here
abbrev pub invariant-loop-j : goal.invariant-loop-j
invariant-loop-j g l = record {
  passed : (i : ℕ) → i < g.row.N → IsPassed l.sums l.j (get_or l.numbers i 0) (get_or l.places i 0);
  size : length l.places ≡ g.row.N;
}
