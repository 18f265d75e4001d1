use Rattle.std.proofs.Common.{◌≡◌, ◌++◌, ◌-◌, ◌≤◌, length, take}
use Rattle.std.specs.List.{enumerate_from, flat_map}
use Rattle.pop_print.specs.Batches.{batch_line, numbered_text}
use Rattle.pop_print.proofs.batches.text_of_batch.Given as goal

-- the ends up to here are printed
abbrev pub invariant-loop-from : goal.invariant-loop-from
invariant-loop-from g l = (l.from ≤ l.count)
    × (l.out ≡ batch_line (length l.ends)
    ++ flat_map (numbered_text l.facts l.instance) (take l.from (enumerate_from 0 l.ends)))

-- the ends that are left
abbrev pub decreases-loop-from : goal.decreases-loop-from
decreases-loop-from g l = l.count - l.from
