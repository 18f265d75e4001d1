use Rattle.std.proofs.Common.{◌≡◌, ◌<◌, ◌+◌, ℕ, length, get_or}
use Rattle.pop_stacks.proofs.byte_line.ByteLine.with.Given as goal

-- the values up to here are written, and those before the block stay
abbrev pub invariant-loop-i : goal.invariant-loop-i
invariant-loop-i l = record {
  first : (k : ℕ) → k < l.place → get_or l.all k 0 ≡ get_or l.fn.self.values k 0;
  more : (k : ℕ) → k < l.i → get_or l.all (l.place + k) 0 ≡ get_or l.values k 0;
  size : length l.all ≡ 32;
}
