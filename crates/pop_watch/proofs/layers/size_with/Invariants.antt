use Rattle.std.proofs.Common.{◌≡◌, take}
use Rattle.pop_watch.specs.Watching.{places_with}
use Rattle.pop_watch.proofs.layers.size_with.Given as goal

-- how many places there are with the variables so far
abbrev pub invariant-loop-i : goal.invariant-loop-i
invariant-loop-i l = l.size ≡ places_with l.places (take l.i l.cube)
