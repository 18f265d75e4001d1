use Rattle.std.proofs.Common.{◌≡◌, drop, take, length}
use Rattle.claim_words.specs.Steps.{raised_by}
use Rattle.claim_words.specs.Conditions.{IsDue}
use Rattle.claim_words.specs.Machine.{uses_held}
use Rattle.claim_words.specs.KeptLogs.{Adds, HasRoom}
use Rattle.claim_words.specs.Passes.{IsSeat, count_of}
use Rattle.claim_words.proofs.KeptPops.{Same}
use Rattle.claim_words.proofs.board.Board.advance_all.Given as goal

-- the pairs from here on are due, and the uses of those before are in the log
abbrev pub invariant-loop-i : goal.invariant-loop-i
invariant-loop-i l = record {
  seat : IsSeat l.self l.seat;
  due : IsDue (count_of l.self) l.seat.me.0 (drop l.i l.cube);
  view : raised_by l.seat.me.0 (drop l.i l.cube) ≡ raised_by l.initial.seat.me.0 l.cube;
  slots : l.seat.me.1 ≡ l.initial.seat.me.1;
  log : Adds l.initial.log l.log (uses_held (take l.i l.cube) l.initial.seat.me.0.held);
  room : HasRoom l.log (length (drop l.i l.cube));
  held : Same l.initial.seat.me.0.held l.seat.me.0.held (drop l.i l.cube);
}
