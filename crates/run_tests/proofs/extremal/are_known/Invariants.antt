use Rattle.std.proofs.Common.{ℕ, ◌<◌}
use Rattle.pop_model.specs.Popping.{NamesBelow}
use Rattle.pop_instance.specs.Events.{cube_at}
use Rattle.run_tests.proofs.extremal.are_known.Given as goal

abbrev pub invariant-loop-place : goal.invariant-loop-place
invariant-loop-place l = (k : ℕ) → k < l.place → NamesBelow (cube_at l.events k) 10
