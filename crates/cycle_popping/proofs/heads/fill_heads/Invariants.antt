use Rattle.std.proofs.Common.{◌≡◌, map, take}
use Rattle.std.specs.Option.{unwrap_or}
use Rattle.cycle_popping.specs.Trees.{variable_of}
use Rattle.cycle_popping.proofs.heads.fill_heads.Given as goal

-- the numbers of the vertices before here
abbrev pub invariant-loop-w : goal.invariant-loop-w
invariant-loop-w l =
    l.heads.items ≡ map (λ w. unwrap_or (variable_of l.root w) l.root_number) (take l.w-index l.vertices)
