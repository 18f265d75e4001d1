use Rattle.std.proofs.Common.{◌≡◌, ◌∙◌, sym, ap, subst}
use Rattle.pop_model.specs.Instances.{Instance, instance_raised}
use Rattle.pop_model.specs.Runs.{start_of}
use Rattle.confluence_core.specs.Kept.{keeps_log}
use Rattle.confluence_core.specs.Runs.{IsRunOf}
use Rattle.pop_workers.specs.Stages.{height}
use Rattle.pop_workers.proofs.RaisedInstances.{raised_twice}
use Rattle.run_makers.proofs.on_threads.run_in_stages.Goals as goal

-- the instance has the last height, whatever that of the last stage was
pub returns : goal.returns
returns g c =
    let s = c.args.stages in
    let at : c.raise.new.self ≡ instance_raised s.last s.instance =
    c.raise.ensures ∙ ap (instance_raised s.last) c.in_ok-run.ensures.raised
    ∙ raised_twice s.instance s.last (height c.sample_in_stages.new.instance) in
    record {
      instance = at;
      run = subst (λ (x : Instance). IsRunOf x (start_of x) (keeps_log s.keep) c.in_ok-run.run') (sym at)
          c.in_ok-run.ensures.run;
    }
