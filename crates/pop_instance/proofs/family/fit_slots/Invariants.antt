use Rattle.std.proofs.Common.{◌≡◌, ℕ, ◌<◌, [], length, slice_index_or}
use Rattle.pop_model.specs.Stacks.{domain_of}
use Rattle.pop_instance.proofs.family.fit_slots.Given as goal

-- each variable before this one has as many slots as values
abbrev pub invariant-loop-v : goal.invariant-loop-v
invariant-loop-v l = (v : ℕ) → v < l.v → length (slice_index_or l.arrows v []) ≡ domain_of l.stacks v
