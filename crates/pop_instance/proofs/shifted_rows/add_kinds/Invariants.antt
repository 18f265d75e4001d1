use Rattle.std.proofs.Common.{◌≡◌, length}
use Rattle.pop_instance.proofs.ShiftedRowsLemmas.{HaveKinds}
use Rattle.pop_instance.proofs.shifted_rows.add_kinds.Given as goal

-- the rows before here have their kinds
abbrev pub invariant-loop-v : goal.invariant-loop-v
invariant-loop-v l = record {
  size : length l.kinds.items ≡ l.v;
  have : HaveKinds l.rows l.kinds.items l.patterns;
}
