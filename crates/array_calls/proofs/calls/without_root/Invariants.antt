use Rattle.std.proofs.Common.{◌≡◌, ◌-◌, map, get_or}
use Rattle.std.specs.List.{range_with_len}
use Rattle.pop_model.specs.Names.{vertex_of}
use Rattle.array_calls.proofs.calls.without_root.Given as goal

-- those of the variables before here
abbrev pub invariant-loop-v : goal.invariant-loop-v
invariant-loop-v l =
    l.cursors.items ≡ map (λ v. get_or l.from (vertex_of l.root v - 1) 0) (range_with_len 0 l.v)
