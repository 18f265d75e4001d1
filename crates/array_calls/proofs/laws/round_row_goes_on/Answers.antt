use Rattle.array_calls.proofs.GoingOn as going
use Rattle.array_calls.proofs.laws.round_row_goes_on.Goals as goal

pub returns : goal.returns
returns c = going.round_row_goes_on
