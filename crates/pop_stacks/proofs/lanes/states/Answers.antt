use Rattle.std.proofs.Common.{rules}
use Rattle.rand_chacha.proofs.LaneLemmas.{below_four}
use Rattle.pop_stacks.proofs.lanes.states.Goals as goal

pub returns : goal.returns
returns c = below_four _ (search rules) (search rules) (search rules) (search rules)
