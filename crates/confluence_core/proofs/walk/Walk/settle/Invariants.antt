use Rattle.std.proofs.Common.{◌≡◌}
use Rattle.confluence_core.specs.LoopErasedWalks.{StaySettled, Walks, begun_at, work}
use Rattle.confluence_core.specs.Steps.{RunsOn}
use Rattle.confluence_core.proofs.walk.Walk.settle.Given as goal

-- the walk stands at a place, and has made legal pops
abbrev pub invariant-walk : goal.invariant-walk
invariant-walk l = record {
  walks : Walks l.self;
  begun : begun_at l.self ≡ l.start;
  runs : RunsOn l.fn.self.current l.fn.self.walked l.self.walked;
  stay : StaySettled l.fn.self l.self;
  current : l.self.current ≡ l.fn.self.current;
  reader : l.reader ≡ l.fn.reader;
}

abbrev pub decreases-walk : goal.decreases-walk
decreases-walk l = work l.self
