use Rattle.pop_log.proofs.SaidLayers.{IsLayeredTo}
use Rattle.pop_log.proofs.layer_checking.first_unlayered.Given as goal

-- up to here the log is layered as it stands
abbrev pub invariant-loop-i : goal.invariant-loop-i
invariant-loop-i l = IsLayeredTo l.log l.layers.items l.said l.i
