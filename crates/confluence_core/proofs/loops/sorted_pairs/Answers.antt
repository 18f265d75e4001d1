use Rattle.std.proofs.Common.{rules, ◌≡◌, ℕ, length, map, take, ap, subst, ◌∙◌, arith}
use Rattle.std.specs.List.Sorted.{IsPermutation, IsNonDecreasingBy}
use Rattle.std.proofs.lemmas.List.{take_all, length-map}
use Rattle.std.proofs.lemmas.List.Sorted.{IsNonDecreasingBy-from_sort_by_key, length_permutation}
use Rattle.pop_model.specs.Popping.{Cube}
use Rattle.confluence_core.proofs.LoopCubes.{pair_of, cube_sorted}
use Rattle.confluence_core.proofs.loops.sorted_pairs.Goals as goal

pub returns-clause-cube : goal.returns-clause-cube
returns-clause-cube c =
    let t = c.args.current.now in
    let at = c.args.cursors.now in
    let members = c.args.members.now in
    let sorted : Cube = c.sort_unstable_by_key.new.self.items in
    let all : c.loop-v.pairs.items ≡ map (pair_of t at) members = c.loop-v.invariant.pairs
    ∙ ap (map (pair_of t at)) (take_all c.loop-v.v-index members c.loop-v-test.false) in
    let up : IsNonDecreasingBy (λ (p : ℕ × ℕ). p.0) sorted = IsNonDecreasingBy-from_sort_by_key (λ (p : ℕ × ℕ). p.0) _
    c.sort_unstable_by_key.ensures.sorted (λ a r q k. search rules) in
    cube_sorted t at members sorted c.requires.members
    (subst (λ xs. IsPermutation xs sorted) all c.sort_unstable_by_key.ensures.permutation) up

pub returns-clause-each : goal.returns-clause-each
returns-clause-each c =
    let members = c.args.members.now in
    let pairs = c.loop-v.pairs.items in
    let moved = length_permutation pairs c.sort_unstable_by_key.new.self.items
    c.sort_unstable_by_key.ensures.permutation in
    let taken = ap length c.loop-v.invariant.pairs in
    let pair = pair_of c.args.current.now c.args.cursors.now in
    let size = length-map (take c.loop-v.v-index members) pair in
    let all = ap length (take_all c.loop-v.v-index members c.loop-v-test.false) in
    omega (arith, moved, taken, size, all)
