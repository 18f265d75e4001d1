use Rattle.confluence_core.specs.Kept.{keeps_log}
use Rattle.confluence_core.proofs.Reaching.{reached_none}
use Rattle.confluence_core.proofs.one_thread.run_from.Goals as goal

pub returns : goal.returns
returns c =
    let keeps = keeps_log c.args.keep in
    record {
      run = c.run_alone.ensures.run c.args.cursors keeps (rw c.at-reached.ensures
          (reached_none c.args.instance.now c.args.cursors c.args.suspects keeps (record {
            count = c.requires.count;
            within = c.requires.within;
            units = c.requires.units;
            suspects = c.requires.suspects;
          })));
    }
