use Rattle.spanning_samples.proofs.Orientations.{orientations_alone}
use Rattle.spanning_samples.proofs.laws.orientations_alone.Goals as goal

pub returns : goal.returns
returns c = orientations_alone
