use Rattle.std.proofs.Common.{◌+◌, ◌∙◌, arith}
use Rattle.pop_model.proofs.Following.{follow_more}
use Rattle.confluence_core.specs.CycleTables.{current_head}
use Rattle.confluence_core.proofs.PassedTwice.{follow_below, long_on_cycle}
use Rattle.lock_board.proofs.arrow_walk.variable_of_cycle.Goals as goal

pub returns-in-Root-clause-found : goal.returns-in-Root-clause-found
returns-in-Root-clause-found c =
    let step = current_head c.args.current.now c.args.cursors.now in
    let at = c.laps.invariant.leads in
    let root = c.in-Root.ensures.laps in
    (at.0 + root.0, follow_more step at.0 root.0 c.args.start c.laps.from at.1 ∙ root.1)

pub returns-then-lap-count-clause-found : goal.returns-then-lap-count-clause-found
returns-then-lap-count-clause-found c =
    let t = c.args.current.now in
    let step = current_head t c.args.cursors.now in
    let at = c.laps.invariant.leads in
    let lap = c.min-lap.result in
    record {
      steps = at.0 + lap;
      leads = follow_more step at.0 lap c.args.start c.laps.from at.1 ∙ c.in-On.ensures.laps;
      on = long_on_cycle t c.args.cursors.now c.laps.from lap c.in-On.v c.in-On.ensures.laps
          c.count-count.ensures.instance.family c.laps.invariant.below
          (c.if-lap-count.true ∙ c.count-count.ensures.count);
    }

pub laps-preserved : goal.laps-preserved
laps-preserved c =
    let t = c.args.current.now in
    let step = current_head t c.args.cursors.now in
    let at = c.laps.invariant.leads in
    let lap = c.min-lap.result in
    record {
      leads = (at.0 + lap, follow_more step at.0 lap c.args.start c.laps.from at.1 ∙ c.in-On.ensures.laps);
      below = follow_below t c.args.cursors.now c.laps.from lap c.in-On.v c.count-count.ensures.instance.family
          c.laps.invariant.below c.in-On.ensures.laps;
      some = omega (arith, c.laps.invariant.some);
      reader = c.lap_from.ensures.reader ∙ c.laps.invariant.reader;
    }
