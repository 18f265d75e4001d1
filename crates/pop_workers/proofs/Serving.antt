-- Makers that serve an instance, for the same sample at each height.
use Rattle.std.proofs.Common.{ℕ, refl}
use Rattle.pop_model.specs.Stacks.{Origin, origin_raised}
use Rattle.pop_model.specs.Stacks.Origin.{Given, Keyed}
use Rattle.pop_model.specs.Instances.{Instance, instance_raised}
use Rattle.pop_stacks.specs.Readers.{HasSource}
use Rattle.pop_workers.specs.Serving.{Serves}

-- entries have the source that they have
source_itself : (o : Origin) → HasSource o o
source_itself (Given rows) = refl
source_itself (Keyed key sample height) = (refl, refl)

-- and the same at each height
source_raised : (o other : Origin) (h : ℕ) → HasSource o other → HasSource (origin_raised h o) other
source_raised (Given rows) other h source = source
source_raised (Keyed key sample was) (Given rows) h source = source
source_raised (Keyed key sample was) (Keyed more number tall) h source = source

-- who was made for an instance serves it
pub serves_itself : (i : Instance) → Serves i i
serves_itself i = record { source = source_itself i.stacks.origin; weights = refl; family = refl }

-- and serves it once its stacks are raised
pub serves_raised : (i made_for : Instance) (height : ℕ) → Serves i made_for
    → Serves (instance_raised height i) made_for
serves_raised i made_for height serves = record {
  source = source_raised i.stacks.origin made_for.stacks.origin height serves.source;
  weights = serves.weights;
  family = serves.family;
}
