use Rattle.std.proofs.Common.{length}
use Rattle.pop_samples.proofs.Finishing.{first_finishes, runs_like}
use Rattle.pop_samples.proofs.laws.finishes_first.Goals as goal

pub returns : goal.returns
returns c i extremal at = (
  λ by. (length by.0, (runs_like i extremal by.0 at by.1).first),
  λ first. first_finishes i at first.0 first.1,
)
