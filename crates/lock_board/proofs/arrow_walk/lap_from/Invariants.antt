use Rattle.std.proofs.Common.{◌≡◌, ◌<◌, length, Some}
use Rattle.pop_model.specs.Cycles.{follow}
use Rattle.confluence_core.specs.CycleTables.{current_head}
use Rattle.lock_board.proofs.arrow_walk.lap_from.Given as goal

-- the steps so far lead to the variable
abbrev pub invariant-steps : goal.invariant-steps
invariant-steps l = record {
  leads : follow (current_head l.current l.cursors) l.counter l.start ≡ Some l.v;
  below : l.v < length l.current.heads;
  reader : l.reader ≡ l.fn.reader;
}
