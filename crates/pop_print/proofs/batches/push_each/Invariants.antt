use Rattle.std.proofs.Common.{◌≡◌, ◌++◌, take, flat_map}
use Rattle.pop_print.proofs.batches.push_each.Given as goal

-- the texts up to here are added
abbrev pub invariant-loop-k : goal.invariant-loop-k
invariant-loop-k l = l.out ≡ l.initial.out ++ flat_map (λ text. text.items) (take l.k l.texts)
