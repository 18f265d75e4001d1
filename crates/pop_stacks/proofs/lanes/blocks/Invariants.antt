use Rattle.std.proofs.Common.{◌≡◌, ℕ, ◌+◌, ◌*◌, ◌<◌, length, slice_index}
use Rattle.rand_chacha.specs.Block.{add32, double_rounds}
use Rattle.rand_chacha.specs.Lanes.{lane, lane_at}
use Rattle.pop_stacks.proofs.lanes.blocks.Given as goal

abbrev pub invariant-rounds : goal.invariant-rounds
invariant-rounds l = (j : ℕ) → j < 4 → lane j l.x ≡ double_rounds l._round (lane j l.first)

abbrev pub invariant-words : goal.invariant-words
invariant-words l = (length l.out ≡ 64) × ((j k : ℕ) → j < 4 → k < l.k
    → slice_index l.out (16 * j + k) ≡ add32 (lane_at l.x k j) (lane_at l.first k j))
