use Rattle.std.proofs.Common.{◌≡◌, map, take}
use Rattle.confluence_core.proofs.LoopCubes.{pair_of}
use Rattle.confluence_core.proofs.loops.sorted_pairs.Given as goal

-- the pairs of the variables before here
abbrev pub invariant-loop-v : goal.invariant-loop-v
invariant-loop-v l = record {
  pairs : l.pairs.items ≡ map (pair_of l.current l.cursors) (take l.v-index l.members);
  reader : l.reader ≡ l.fn.reader;
}
