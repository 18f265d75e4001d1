use Rattle.pop_log.proofs.ReadBack.{read_back}
use Rattle.pop_log.proofs.laws.read_back.Goals as goal

pub returns : goal.returns
returns c = read_back
