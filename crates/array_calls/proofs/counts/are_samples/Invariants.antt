use Rattle.array_calls.specs.Draws.{AreSamples}
use Rattle.array_calls.proofs.counts.are_samples.Given as goal

-- none occurs in those before here
abbrev pub invariant-loop-j : goal.invariant-loop-j
invariant-loop-j l = AreSamples l.j l.counts
