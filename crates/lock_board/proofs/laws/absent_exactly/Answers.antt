use Rattle.lock_board.proofs.FoundEvents.{none_at}
use Rattle.lock_board.proofs.laws.absent_exactly.Goals as goal

pub returns : goal.returns
returns c = none_at
