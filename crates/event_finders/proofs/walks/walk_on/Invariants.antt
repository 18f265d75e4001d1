use Rattle.std.proofs.Common.{◌≡◌, ◌<◌, length, get_or}
use Rattle.pop_model.specs.Popping.{variables}
use Rattle.claim_words.specs.Tells.{SoleKnows}
use Rattle.claim_words.specs.Passes.{IsOf, view, opening_of}
use Rattle.event_finders.specs.Gains.{Stays}
use Rattle.event_finders.specs.Trails.{Stands}
use Rattle.event_finders.specs.Walks.{KeepsKnown, Traced}
use Rattle.event_finders.specs.WalkSteps.{HasSpare}
use Rattle.event_finders.proofs.WalkGains.{Gained}
use Rattle.event_finders.proofs.WalkSeen.{Seen}
use Rattle.event_finders.proofs.walks.walk_on.Given as goal

-- so many cycles were popped, and the walk stands where the last one closed
abbrev pub invariant-loop : goal.invariant-loop
invariant-loop l = record {
  pass : IsOf l.board l.pass;
  spare : HasSpare l.pass l.walker;
  stays : Stays (view l.fn.pass) (view l.pass);
  settled : KeepsKnown (view l.fn.pass) (view l.pass);
  stands : Stands (opening_of l.board) (view l.pass) l.walker;
  some : 0 < length l.walker.path;
  begins : get_or (variables l.walker.path) 0 0 ≡ l.fn.bounds.start;
  reader : l.reader ≡ l.fn.reader;
  traced : Traced l.counter (view l.fn.pass) (view l.pass) l.walker.path;
  seen : Seen (view l.fn.pass) (view l.pass) l.counter l.walker.path;
  gained : Gained (opening_of l.board) (view l.fn.pass) (view l.pass) l.counter l.last l.fn.bounds.start;
  sole : SoleKnows (view l.pass);
}
