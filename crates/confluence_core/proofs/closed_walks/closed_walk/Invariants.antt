use Rattle.std.proofs.Common.{◌≡◌, ◌++◌, ◌∷◌, [], ◌-◌, vec_len}
use Rattle.confluence_core.specs.ArrowWalks.{IsWay}
use Rattle.confluence_core.proofs.closed_walks.closed_walk.Given as goal

-- the arrows lead along the variables so far, and on to the next
abbrev pub invariant-arrows : goal.invariant-arrows
invariant-arrows l = record {
  way : IsWay l.current l.cursors l.low l.start (l.members.items ++ l.v ∷ []);
  reader : l.reader ≡ l.fn.reader;
}

abbrev pub decreases-arrows : goal.decreases-arrows
decreases-arrows l = l.count - vec_len l.members
