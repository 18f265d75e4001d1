use Rattle.std.proofs.Common.{◌≡◌, List, map}
use Rattle.std.proofs.lemmas.Result.{IfOk-weaker}
use Rattle.pop_model.specs.Logs.{LogRecord}
use Rattle.pop_log.specs.Layered.{IsLayered}
use Rattle.pop_log.specs.Layers.{Placed}
use Rattle.pop_log.proofs.layered_log.layered.Goals as goal

pub returns : goal.returns
returns c =
    let placed : List Placed = c.in_ok-placed.placed in
    IfOk-weaker c.copy.result (λ (l : List LogRecord). l ≡ map (λ p. p.0) placed) (IsLayered c.args.log.now)
    (λ l is. record { placed = placed; sorted = c.in_ok-placed.ensures; records = is })
    c.copy.ensures
