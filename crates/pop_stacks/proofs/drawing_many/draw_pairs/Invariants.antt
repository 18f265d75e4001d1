use Rattle.std.proofs.Common.{◌≡◌, [], ◌∷◌, length}
use Rattle.pop_stacks.specs.Draws.{AreDrawn}
use Rattle.pop_stacks.proofs.drawing_many.draw_pairs.Given as goal

-- the values up to here are drawn
abbrev pub invariant-loop-i : goal.invariant-loop-i
invariant-loop-i g l = AreDrawn (1 ∷ 1 ∷ []) l.words l.at l.i l.values × (length l.values ≡ g.row.N)
