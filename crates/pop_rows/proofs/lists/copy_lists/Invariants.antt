use Rattle.std.proofs.Common.{◌≡◌, take}
use Rattle.pop_rows.specs.Lists.{lists_in}
use Rattle.pop_rows.proofs.lists.copy_lists.Given as goal

-- the lists up to here are copied
abbrev pub invariant-loop-v : goal.invariant-loop-v
invariant-loop-v g l = lists_in l.copies.items ≡ lists_in (take l.v l.lists)
