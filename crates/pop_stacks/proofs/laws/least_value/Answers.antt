use Rattle.pop_stacks.proofs.ValueIsLeast.{value_is_least}
use Rattle.pop_stacks.proofs.laws.least_value.Goals as goal

pub returns : goal.returns
returns c = value_is_least
