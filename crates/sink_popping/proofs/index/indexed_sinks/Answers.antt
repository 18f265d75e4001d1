use Rattle.std.proofs.Common.{ℕ, subst}
use Rattle.graph_read.specs.Graphs.{GraphOf}
use Rattle.sink_popping.specs.Sinks.{IsIsolated}
use Rattle.sink_popping.proofs.index.indexed_sinks.Goals as goal

pub returns-clause-touched : goal.returns-clause-touched
returns-clause-touched c =
    subst (λ (g : GraphOf). (w : ℕ) → IsIsolated g w → ⊥) c.in_ok-incidence.ensures c.in_ok-events.ensures.touched
