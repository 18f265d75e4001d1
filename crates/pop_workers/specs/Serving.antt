-- Makers of runs, and the instances that they serve, at each height.
use Rattle.std.specs.Prelude.{◌≡◌}
use Rattle.pop_model.specs.Instances.{Instance}
use Rattle.pop_stacks.specs.Readers.{HasSource}

-- a maker of an instance serves the same sample of it at each height
pub record Serves (i made_for : Instance) : Type 0 where
  pub source : HasSource i.stacks.origin made_for.stacks.origin
  pub weights : i.stacks.weights ≡ made_for.stacks.weights
  pub family : i.family ≡ made_for.family
