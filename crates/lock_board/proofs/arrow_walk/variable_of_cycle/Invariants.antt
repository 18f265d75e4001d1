use Rattle.std.proofs.Common.{◌-◌, ◌≡◌, ◌<◌, ℕ, length, Some}
use Rattle.pop_model.specs.Cycles.{follow}
use Rattle.confluence_core.specs.CycleTables.{current_head}
use Rattle.lock_board.proofs.arrow_walk.variable_of_cycle.Given as goal

-- the laps so far lead to the variable from which the next begins
abbrev pub invariant-laps : goal.invariant-laps
invariant-laps l = record {
  leads : (k : ℕ) × (follow (current_head l.current l.cursors) k l.start ≡ Some l.from);
  below : l.from < length l.current.heads;
  some : 0 < l.steps;
  reader : l.reader ≡ l.fn.reader;
}

abbrev pub decreases-laps : goal.decreases-laps
decreases-laps l = l.count - l.steps
