use Rattle.std.proofs.Common.{◌≡◌, ◌∙◌, length, map, sym, ap, subst, arith}
use Rattle.std.specs.Prelude.{MatchOption}
use Rattle.std.proofs.lemmas.Bool.{some_since}
use Rattle.pop_model.specs.Popping.{IsCube}
use Rattle.sink_popping.specs.SinkCubes.{pair_of, pairs_at}
use Rattle.sink_popping.proofs.SinkCubesLemmas.{pairs_fit, pairs_are_cube, pairs_of_darts}
use Rattle.sink_popping.proofs.sink_cubes.sink_cube.Goals as goal
use Rattle.sink_popping.proofs.sink_cubes.sink_cube.Goals.{In_ok-pairs}

-- the pairs are those at the vertex
are_pairs : (c : In_ok-pairs) → c.in_ok-pairs.pairs.items ≡ pairs_at c.args.incidence.now c.args.w
are_pairs c =
    c.in_ok-pairs.ensures ∙ ap (map pair_of) c.at.ensures ∙ pairs_of_darts c.args.incidence.now c.args.w

pub new-requires : goal.new-requires
new-requires c =
    let are = are_pairs (goal.at.new-requires c).In_ok-pairs in
    let fits = c.edges-edges.ensures.graph.edges_fit in
    record {
      short = omega (
        arith,
        ap length are,
        pairs_fit c.args.incidence.now c.args.w,
        ap (λ g. length g.edges) c.graph.ensures,
        fits,
      );
    }

pub unwrap-requires : goal.unwrap-requires
unwrap-requires c =
    let are = are_pairs (goal.at.unwrap-requires c).In_ok-pairs in
    let cube : IsCube c.in_ok-pairs.pairs.items =
    subst IsCube (sym are) (pairs_are_cube c.args.incidence.now c.args.w c.requires.some) in
    some_since c.new.result _ _ c.new.ensures (λ no_cube. no_cube cube)

pub returns : goal.returns
returns c =
    let pairs = c.in_ok-pairs.pairs.items in
    subst (λ found. MatchOption found (IsCube pairs → ⊥) (λ cube. cube ≡ pairs)) c.unwrap.ensures c.new.ensures
    ∙ are_pairs (goal.at.returns c).In_ok-pairs
