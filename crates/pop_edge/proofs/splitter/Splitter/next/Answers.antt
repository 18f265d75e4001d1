use Rattle.std.proofs.Common.{arith, subst, false}
use Rattle.pop_edge.specs.Splitting.{Cuts, state_of}
use Rattle.pop_edge.proofs.ReadingOn.{reads_nothing, reads_more}
use Rattle.pop_edge.proofs.splitter.Splitter.next.Goals as goal

pub loop-self-init : goal.loop-self-init
loop-self-init g c =
    record {
      splitter = c.requires;
      read = reads_nothing g.S.Source.read_gives (state_of c.args.self.now) (g.S.Source.left c.args.source.now)
          c.args.source.now;
      at_end = λ h. h;
      faults = omega arith;
    }

pub loop-self-preserved : goal.loop-self-preserved
loop-self-preserved g c =
    let i = c.loop-self.invariant in
    let cut : Cuts c.loop-self.self c.cut.new.self false =
    subst (λ b. Cuts c.loop-self.self c.cut.new.self b) c.if-branch.false c.in_ok-cut.ensures.cuts in
    let s = c.in_ok-cut.ensures.read in
    let f = c.in_ok-fill.ensures in
    record {
      splitter = f.splitter;
      read = reads_more g.S.Source.read_gives (state_of c.args.self.now) c.loop-self.self c.cut.new.self _ _ _ _ i.read
          c.loop-self-test.true c.if-self-le-LIMIT.true cut c.fill.new.self _ _ s.0 f.filled f.same.0 f.same.1;
      at_end = λ _ e. f.filled.at_end e;
      faults = omega (arith, i.faults, f.cause.later);
    }
