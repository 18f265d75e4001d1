use Rattle.drawn_samples.proofs.RunNumbers.{run_numbers}
use Rattle.drawn_samples.proofs.laws.run_numbers.Goals as goal

pub returns : goal.returns
returns c = run_numbers
