use Rattle.pop_instance.specs.Index.{AreTallies}
use Rattle.pop_instance.proofs.index.tally.Given as goal

-- the events before here are counted
abbrev pub invariant-loop-place : goal.invariant-loop-place
invariant-loop-place l = AreTallies l.events l.place l.count l.tallies.items
