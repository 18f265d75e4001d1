use Rattle.std.proofs.Common.{◌≡◌, map, take}
use Rattle.sink_popping.specs.SinkCubes.{pair_of}
use Rattle.sink_popping.proofs.sink_cubes.pairs_of.Given as goal

-- the pairs of the darts up to here
abbrev pub invariant-loop-dart : goal.invariant-loop-dart
invariant-loop-dart l = l.pairs.items ≡ map pair_of (take l.dart-index l.darts)
