use Rattle.std.proofs.Common.{◌≡◌, ℕ, ◌+◌, ◌%◌, ◌<◌, ◌^◌, slice_index}
use Rattle.pop_instance.proofs.shifted_rows.is_shifted.Given as goal

-- the numbers up to here are those of the pattern
abbrev pub invariant-loop-i : goal.invariant-loop-i
invariant-loop-i l = (k : ℕ) → k < l.i → (l.v + slice_index l.pattern k) % 2 ^ 32 ≡ slice_index l.row k
