-- Legal logs one behind another, and a record behind a log.
use Rattle.std.proofs.Common.{◌≡◌, ℕ, List, [], ◌∷◌, ◌++◌, refl}
use Rattle.pop_model.specs.Popping.{pop}
use Rattle.pop_model.specs.Instances.{Instance}
use Rattle.pop_model.specs.Logs.{LogRecord, IsLegalAt, IsLegal, replay}

-- the cursors after one log and another
pub replay_append : (c : List ℕ) (log more : List LogRecord) → replay c (log ++ more) ≡ replay (replay c log) more
replay_append c [] more = refl
replay_append c (r ∷ log) more = replay_append (pop c r.event.cube) log more

-- a log that is legal at the end of another may follow it
pub legal_append : (i : Instance) (c : List ℕ) (log more : List LogRecord) → IsLegal i c log
    → IsLegal i (replay c log) more → IsLegal i c (log ++ more)
legal_append i c [] more legal behind = behind
legal_append i c (r ∷ log) more legal behind =
    (legal.0, legal_append i (pop c r.event.cube) log more legal.1 behind)

-- the cursors after one record more
pub replay_push : (c : List ℕ) (log : List LogRecord) (r : LogRecord)
    → replay c (log ++ r ∷ []) ≡ pop (replay c log) r.event.cube
replay_push c log r = replay_append c log (r ∷ [])

-- a record that is legal at the end of a log may stand there
pub legal_push : (i : Instance) (c : List ℕ) (log : List LogRecord) (r : LogRecord) → IsLegal i c log
    → IsLegalAt i (replay c log) r → IsLegal i c (log ++ r ∷ [])
legal_push i c log r legal at = legal_append i c log (r ∷ []) legal (at, tt)
