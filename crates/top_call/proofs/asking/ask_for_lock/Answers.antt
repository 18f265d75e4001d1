use Rattle.std.proofs.Common.{map, string_bytes}
use Rattle.top_call.proofs.AskedLocks.{by_board}
use Rattle.top_call.proofs.asking.ask_for_lock.Goals as goal

-- the board of the one job decides
pub returns-in-Ok : goal.returns-in-Ok
returns-in-Ok c =
    by_board (map string_bytes c.args.words.now) c.in-Ok.job c.has_lock-asks.result c.in-Ok.ensures.job
    c.has_lock-asks.ensures
