use Rattle.std.proofs.Common.{◌≡◌, take}
use Rattle.pop_model.specs.Popping.{Occurs}
use Rattle.pop_instance.proofs.cursors.occurs_at.Given as goal

-- the pairs up to here agree, and the reader is as it came
abbrev pub invariant-loop-i : goal.invariant-loop-i
invariant-loop-i l = record {
  occurs : Occurs l.stacks l.entries (take l.i l.cube);
  reader : l.reader ≡ l.fn.reader;
}
