use Rattle.std.proofs.Common.{◌≡◌, ◌≤◌, ◌+◌, ◌-◌, true, cond}
use Rattle.std.specs.Io.KnownBytes.{IsAtEnd}
use Rattle.pop_edge.specs.Splitting.{IsSplitter, HasRead, state_of}
use Rattle.pop_edge.specs.Lines.{text_limit}
use Rattle.pop_edge.proofs.splitter.Splitter.next.Given as goal

-- some bytes were read, and no line was given meanwhile
abbrev pub invariant-loop-self : goal.invariant-loop-self
invariant-loop-self g l =
    record {
      splitter : IsSplitter l.self;
      read : HasRead g.S.Source.read_gives (state_of l.fn.self) (state_of l.self) (g.S.Source.left l.fn.source)
          (g.S.Source.left l.source) l.fn.source l.source;
      at_end : (l.fn.self.ended ≡ true → IsAtEnd (g.S.Source.left l.fn.source)) → l.self.ended ≡ true
          → IsAtEnd (g.S.Source.left l.source);
      faults : g.S.Source.faults l.fn.source ≤ g.S.Source.faults l.source;
    }

abbrev pub decreases-loop-self : goal.decreases-loop-self
decreases-loop-self g l = cond l.self.ended 0 (text_limit + 4097 - l.self.taken)
