use Rattle.std.proofs.Common.{◌≡◌}
use Rattle.pop_stacks.specs.KeptValues.{KeepsValues, keeps}
use Rattle.pop_stacks.proofs.stacks.Stacks.begin.Given as goal

-- what is kept of an entry is its value
abbrev pub invariant-loop-u : goal.invariant-loop-u
invariant-loop-u l = KeepsValues l.self l.kept × (keeps l.kept ≡ keeps l.fn.kept)
