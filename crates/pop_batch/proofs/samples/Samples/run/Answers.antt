use Rattle.std.proofs.Common.{false, ap, refl, subst, ◌∙◌}
use Rattle.pop_model.specs.Instances.{Instance, instance_for}
use Rattle.pop_model.specs.Runs.{start_of}
use Rattle.confluence_core.specs.Runs.{IsRunOf}
use Rattle.pop_batch.specs.Batches.{IsSampleEnd}
use Rattle.pop_batch.proofs.samples.Samples.run.Goals as goal

-- an extremal family ends a run from zeros as the one-thread run does
pub returns : goal.returns
returns c =
    let over = c.for_sample-sample.result in
    let run = c.in_ok-run.field-0 in
    let i : Instance = c.self.inside.instance.now in
    let of : IsRunOf (instance_for c.args.j i) (start_of (instance_for c.args.j i)) false run =
    subst (λ (x : Instance). IsRunOf x (start_of x) false run)
    (c.for_sample-sample.ensures ∙ ap (instance_for c.args.j) c.of.ensures)
    (c.in_ok-run.ensures.run (start_of over) false c.in_ok-opening.ensures) in
    subst (λ (x : Instance). IsSampleEnd x c.args.j run.end) c.self.view_is (record {
      first = of.first c.self.invariant.2 refl;
      over = record { count = of.reached.can.count; within = of.reached.can.within; values = of.values };
    })
