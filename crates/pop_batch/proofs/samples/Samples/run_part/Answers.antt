use Rattle.std.proofs.Common.{◌≡◌, ap, ◌∙◌}
use Rattle.pop_model.specs.Instances.{instance_for}
use Rattle.pop_batch.proofs.StoppedRuns.{part_for}
use Rattle.pop_batch.proofs.samples.Samples.run_part.Goals as goal

pub returns : goal.returns
returns c =
    part_for c.part_of.result c.for_sample-sample.result c.args.self.now c.args.j c.args.from c.args.limit
    (c.for_sample-sample.ensures ∙ ap (instance_for c.args.j) (c.of.ensures ∙ c.self.view_is)) c.part_of.ensures.stopped
    c.part_of.ensures.ended c.part_of.ensures.most c.part_of.ensures.few
