use Rattle.std.proofs.Common.{◌≡◌, length}
use Rattle.pop_instance.specs.FirstValues.{AreFirstValues}
use Rattle.pop_instance.proofs.values.add_bytes.Given as goal

-- the values up to here
abbrev pub invariant-loop-v : goal.invariant-loop-v
invariant-loop-v l = record {
  first : AreFirstValues l.stacks l.cursors l.bytes.items;
  count : length l.bytes.items ≡ l.v;
  reader : l.reader ≡ l.fn.reader;
}
