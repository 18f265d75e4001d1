use Rattle.std.proofs.Common.{◌≡◌, ◌++◌, length, take}
use Rattle.std.specs.List.{enumerate_from, flat_map}
use Rattle.pop_print.specs.Batches.{batch_line, numbered_text}
use Rattle.pop_print.proofs.batches.text_of_batch_alone.Given as goal

-- the ends up to here are printed
abbrev pub invariant-loop-j : goal.invariant-loop-j
invariant-loop-j l = l.out
    ≡ batch_line (length l.ends) ++ flat_map (numbered_text l.facts l.instance) (take l.j (enumerate_from 0 l.ends))
