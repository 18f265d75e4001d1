use Rattle.std.proofs.Common.{◌≡◌, ℕ, ◌+◌, ◌<◌, length}
use Rattle.std.specs.Prelude.{slice_index}
use Rattle.pop_model.specs.Popping.{current}
use Rattle.pop_stacks.specs.Readers.{Belongs}
use Rattle.prs_rounds.proofs.values.read_piece.Given as goal

-- the values up to here are read
abbrev pub invariant-loop-k : goal.invariant-loop-k
invariant-loop-k l = record {
  len : length l.values ≡ length l.fn.values;
  read : (j : ℕ) → j < l.k → slice_index l.values j ≡ current l.at.stacks.now l.at.cursors.now
      (slice_index l.variables (l.start + j));
  belongs : Belongs l.at.stacks.now l.reader;
}
