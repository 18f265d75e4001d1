use Rattle.sink_popping.proofs.GatheredSinks.{SinksBelow}
use Rattle.sink_popping.proofs.events.sinks_of.Given as goal

-- the events of the vertices below here
abbrev pub invariant-loop-w : goal.invariant-loop-w
invariant-loop-w l = SinksBelow l.incidence l.w l.rows.items
