use Rattle.crossbeam_deque.specs.Handles.{IsPassOf, stealer_deque}
use Rattle.worker_hints.proofs.hints.steal_from.Given as goal

-- the pass stays one of the other's deque
abbrev pub invariant-loop : goal.invariant-loop
invariant-loop g l = IsPassOf (stealer_deque l.other) l.pass
