use Rattle.pop_samples.specs.Finishing.{with_stacks}
use Rattle.pop_samples.proofs.Finishing.{finishes_moved, runs_like}
use Rattle.pop_samples.proofs.laws.same_pops.Goals as goal

pub returns : goal.returns
returns c i instance extremal log at by t agree within finished =
    runs_like (with_stacks i t) extremal log at (finishes_moved i t instance.fits log at by agree within finished)
