use Rattle.std.proofs.Common.{◌≡◌, ◌-◌, length}
use Rattle.claim_words.specs.Passes.{IsOf, view, opening_of}
use Rattle.event_finders.specs.WalkSteps.{IsWalking, Same, Walked}
use Rattle.event_finders.proofs.walking.follow.Given as goal

-- the walk stands somewhere, on the path on which it stood or a longer one
abbrev pub invariant-loop-stop : goal.invariant-loop-stop
invariant-loop-stop l = record {
  pass : IsOf l.board l.pass;
  walking : IsWalking (opening_of l.board) l.pass l.current l.walker;
  same : Same (view l.initial.pass) (view l.pass);
  reader : l.reader ≡ l.initial.reader;
  walked : Walked (view l.initial.pass) (view l.pass) l.initial.walker.path l.walker.path;
}

-- what the path lacks
abbrev pub decreases-loop-stop : goal.decreases-loop-stop
decreases-loop-stop l = l.walker.count - length l.walker.path
