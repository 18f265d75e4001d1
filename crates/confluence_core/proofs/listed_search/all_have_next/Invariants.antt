use Rattle.std.proofs.Common.{ℕ, ◌+◌, ◌<◌}
use Rattle.pop_model.specs.Stacks.{height_of}
use Rattle.pop_model.specs.Popping.{cursor}
use Rattle.confluence_core.proofs.listed_search.all_have_next.Given as goal

-- the variables up to here have a next entry
abbrev pub invariant-loop-v : goal.invariant-loop-v
invariant-loop-v l = (v : ℕ) → v < l.v → cursor l.cursors v + 1 < height_of l.stacks v
