use Rattle.std.proofs.Common.{◌+◌, ◌≤◌}
use Rattle.confluence_core.proofs.Places.{listed}
use Rattle.pop_model.proofs.Room.{left_from}
use Rattle.prs_rounds.specs.Rounds.{Rounds}
use Rattle.prs_rounds.specs.States.{IsAt}
use Rattle.prs_rounds.proofs.rounds.rounds_of.Given as goal

-- the rounds so far lead here, and there is room for those to come
abbrev pub invariant-rounds : goal.invariant-rounds
invariant-rounds g l = record {
  at : IsAt l.stacks l.events l.state;
  run : Rounds (listed l.stacks l.events) l.rounds l.initial.state.cursors l.state.cursors;
  room : l.rounds + left_from l.stacks 0 l.state.cursors ≤ left_from l.stacks 0 l.initial.state.cursors;
  most : l.rounds ≤ l.limit;
}

abbrev pub decreases-rounds : goal.decreases-rounds
decreases-rounds g l = left_from l.stacks 0 l.state.cursors
