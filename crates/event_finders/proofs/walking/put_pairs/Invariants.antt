use Rattle.std.proofs.Common.{◌≡◌, map, take}
use Rattle.event_finders.specs.WalkSteps.{slot_pair}
use Rattle.event_finders.proofs.walking.put_pairs.Given as goal

-- the pairs of the variables before here
abbrev pub invariant-loop-v : goal.invariant-loop-v
invariant-loop-v l = record {
  pairs : l.pairs.items ≡ map (slot_pair l.current) (take l.v-index l.path);
  reader : l.reader ≡ l.initial.reader;
}
