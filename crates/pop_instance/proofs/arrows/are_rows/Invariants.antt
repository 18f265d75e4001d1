use Rattle.std.proofs.Common.{All, take}
use Rattle.pop_instance.specs.Arrows.{IsRow, heads_of}
use Rattle.pop_instance.proofs.arrows.are_rows.Given as goal

-- each row up to here is sound
abbrev pub invariant-loop-row : goal.invariant-loop-row
invariant-loop-row l = All (IsRow l.count) (take l.row-index (heads_of l.rows))
