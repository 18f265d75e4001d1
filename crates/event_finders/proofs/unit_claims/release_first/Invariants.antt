use Rattle.std.proofs.Common.{◌≡◌, ◌≤◌}
use Rattle.claim_words.specs.Passes.{IsOf, view}
use Rattle.event_finders.proofs.HeldEnds.{released_to}
use Rattle.event_finders.proofs.unit_claims.release_first.Given as goal

-- so many variables are still held
abbrev pub invariant-loop-left : goal.invariant-loop-left
invariant-loop-left l = record {
  pass : IsOf l.board l.pass;
  few : l.left ≤ l.n;
  view : view l.pass ≡ released_to l.left (view l.initial.pass);
}

-- they become fewer
abbrev pub decreases-loop-left : goal.decreases-loop-left
decreases-loop-left l = l.left
