use Rattle.std.proofs.Common.{◌≡◌, ◌≤◌, length, All}
use Rattle.pop_model.specs.Stacks.{variables_of}
use Rattle.pop_stacks.specs.Readers.{Belongs}
use Rattle.pop_instance.specs.FirstValues.{AreFirstValues}
use Rattle.pop_instance.proofs.values.bytes_by.Given as goal

-- the values up to where the last block ended
abbrev pub invariant-loop-place : goal.invariant-loop-place
invariant-loop-place l = record {
  first : AreFirstValues l.stacks l.cursors l.bytes.items;
  count : length l.bytes.items ≡ l.end;
  most : l.end ≤ variables_of l.stacks;
  len : length l.readers ≡ length l.fn.readers;
  belong : All (Belongs l.stacks) l.readers;
}
