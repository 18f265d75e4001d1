use Rattle.std.proofs.Common.{arith, ℕ, List, length, map, drop, subst, sym, ap, ◌∙◌}
use Rattle.std.proofs.lemmas.List.{length-map, length-drop}
use Rattle.std.proofs.lemmas.List.Sorted.{length_permutation}
use Rattle.event_finders.specs.Trails.{Trail}
use Rattle.event_finders.specs.WalkSteps.{IsLoopCube, slot_pair}
use Rattle.event_finders.proofs.LoopCursors.{sorted_cube}
use Rattle.event_finders.proofs.walking.loop_cube.Goals as goal

pub of-requires-clause-cube : goal.of-requires-clause-cube
of-requires-clause-cube c =
    let are = c.in_ok-put_pairs.ensures.pairs ∙ ap (map (slot_pair c.args.current.now)) (c.tail.ensures
    ∙ ap (λ (t : Trail). drop c.args.place t.path) c.take_pairs-pairs.ensures.walker) in
    (sorted_cube c.requires.back _ _ are c.sort_pairs.ensures.same c.sort_pairs.ensures.rising).cube

pub of-requires-clause-short : goal.of-requires-clause-short
of-requires-clause-short c =
    let back = c.requires.back in
    let g = c.args.current.now in
    let rest : List (ℕ × ℕ) = drop c.args.place c.args.walker.now.path in
    let are = c.in_ok-put_pairs.ensures.pairs ∙ ap (map (slot_pair g)) (c.tail.ensures
    ∙ ap (λ (t : Trail). drop c.args.place t.path) c.take_pairs-pairs.ensures.walker) in
    omega (
      arith,
      length_permutation c.put_pairs.new.pairs.items c.sort_pairs.new.pairs.items c.sort_pairs.ensures.same,
      ap length are,
      length-map rest (slot_pair g),
      length-drop c.args.place c.args.walker.now.path,
      back.stands.trail.short,
      back.stands.counts,
      back.table.instance.table.count,
    )

pub returns-clause-cube : goal.returns-clause-cube
returns-clause-cube c =
    let are = c.in_ok-put_pairs.ensures.pairs ∙ ap (map (slot_pair c.args.current.now)) (c.tail.ensures
    ∙ ap (λ (t : Trail). drop c.args.place t.path) c.take_pairs-pairs.ensures.walker) in
    subst (IsLoopCube c.args.current.now c.args.walker.now c.args.place) (sym c.of.ensures)
    (sorted_cube c.requires.back _ _ are c.sort_pairs.ensures.same c.sort_pairs.ensures.rising)
