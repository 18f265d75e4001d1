use Rattle.lock_board.proofs.FoundEvents.{one_found}
use Rattle.lock_board.proofs.laws.one_event.Goals as goal

pub returns : goal.returns
returns c = one_found
