use Rattle.std.proofs.Common.{◌≡◌, ◌≤◌, length}
use Rattle.claim_words.specs.Passes.{IsOf, view}
use Rattle.event_finders.specs.WalkSteps.{HasSpare}
use Rattle.event_finders.proofs.HeldEnds.{released_to}
use Rattle.event_finders.proofs.TrailReleases.{cut}
use Rattle.event_finders.proofs.walking.release_to.Given as goal

-- a part of the path was released from its end
abbrev pub invariant-loop-walker : goal.invariant-loop-walker
invariant-loop-walker l = record {
  pass : IsOf l.board l.pass;
  spare : HasSpare l.pass l.walker;
  keep : l.keep ≤ length l.walker.path;
  view : view l.pass ≡ released_to (length l.walker.path) (view l.initial.pass);
  walker : l.walker ≡ cut (length l.walker.path) l.initial.walker;
}

-- what is left of the path
abbrev pub decreases-loop-walker : goal.decreases-loop-walker
decreases-loop-walker l = length l.walker.path
