use Rattle.std.proofs.Common.{IfOk, ◌∙◌, sym, ap, subst}
use Rattle.pop_model.specs.Instances.{Instance}
use Rattle.pop_model.specs.Runs.{start_of}
use Rattle.confluence_core.specs.Kept.{keeps_log}
use Rattle.growing_instances.specs.Growing.{instance_grown}
use Rattle.run_makers.specs.Makers.{IsRunTo}
use Rattle.run_makers.proofs.by.ByMaker.run.Goals as goal

-- stages end at the last height
pub returns-in-Some : goal.returns-in-Some
returns-in-Some g c =
    let i = c.into_parts-instance.result.0 in
    subst (λ (j : Instance). IfOk c.stages.result (IsRunTo j (keeps_log c.args.opening.keep)))
    (sym (c.into_parts-instance.ensures.grown ∙ ap (λ last. instance_grown last i) c.in-Some.is))
    (c.requires.fits.2 _ _ c.stages.ensures)

-- at its own height the instance is run from zeros
pub returns : goal.returns
returns g c =
    let i = c.into_parts-instance.result.0 in
    let brought = c.requires.fits.4 _ _ c.in_ok-run.ensures in
    record {
      instance = sym (c.into_parts-instance.ensures.grown ∙ ap (λ last. instance_grown last i) c.in_default.is);
      run = brought.run (start_of i) (keeps_log c.args.opening.keep) c.in_ok-reached.ensures.reached;
    }
