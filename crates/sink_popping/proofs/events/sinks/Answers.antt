use Rattle.std.proofs.Common.{subst, ℕ}
use Rattle.std.specs.Result.{OnOk}
use Rattle.graph_read.specs.Graphs.{GraphOf}
use Rattle.sink_popping.specs.Sinks.{IsIsolated}
use Rattle.sink_popping.proofs.events.sinks.Goals as goal

pub returns-clause-touched : goal.returns-clause-touched
returns-clause-touched c =
    subst (λ (g : GraphOf). OnOk c.sinks_of.result ((w : ℕ) → IsIsolated g w → ⊥)) c.in_ok-incidence.ensures
    c.sinks_of.ensures.touched
