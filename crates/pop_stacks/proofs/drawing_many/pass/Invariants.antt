use Rattle.std.proofs.Common.{◌≡◌, ℕ, ◌<◌, length, get_or}
use Rattle.pop_stacks.specs.Draws.{past}
use Rattle.pop_stacks.proofs.drawing_many.pass.Given as goal

-- the places up to here are moved
abbrev pub invariant-loop-i : goal.invariant-loop-i
invariant-loop-i g l = record {
  moved : (k : ℕ) → k < l.i → get_or l.moved k 0 ≡ past l.sum (get_or l.numbers k 0) (get_or l.places k 0);
  size : length l.moved ≡ g.row.N;
}
