use Rattle.pop_model.specs.Runs.{start_of}
use Rattle.confluence_core.specs.Kept.{keeps_log}
use Rattle.run_makers.proofs.alone.run_alone.Goals as goal

-- at its last height the instance is run from zeros
pub returns : goal.returns
returns c = record {
  instance = c.raised_with_index-instance.ensures.instance;
  run = c.in_ok-run.ensures.run (start_of c.raised_with_index-instance.result.0) (keeps_log c.args.opening.keep)
      c.in_ok-reached.ensures.reached;
}
