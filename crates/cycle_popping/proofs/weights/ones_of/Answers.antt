use Rattle.std.proofs.Common.{◌≡◌, ◌-◌, ◌<◌, ◌^◌, ℕ, All, length, sym, ap, subst, ◌∙◌, arith}
use Rattle.std.proofs.lemmas.List.FromFn.{length-map-range_with_len}
use Rattle.graph_read.specs.Graphs.{IsVertex}
use Rattle.graph_read.specs.Incidence.{edges_at}
use Rattle.cycle_popping.proofs.TreeRows.{vertex_of_is, tree_weights, rows_more, rows_whole}
use Rattle.cycle_popping.proofs.OneWeights.{slots_at, ones_are, slots_short}
use Rattle.cycle_popping.proofs.weights.ones_of.Goals as goal

pub degree-requires : goal.degree-requires
degree-requires g c =
    let f = g.A.Adjacency.of_graph c.args.adjacency.now in
    subst (IsVertex f.vertices) (sym c.vertex_of.ensures)
    (vertex_of_is f.vertices c.args.root c.loop-v.v c.requires.root
    (omega (arith, c.vertices-count.ensures.count, c.loop-v-test.true))).vertex

pub loop-v-preserved : goal.loop-v-preserved
loop-v-preserved g c =
    let f = g.A.Adjacency.of_graph c.args.adjacency.now in
    let root : ℕ = c.args.root in
    let slots : c.degree.result ≡ slots_at f root c.loop-v.v =
    c.degree.ensures ∙ ap (λ w. length (edges_at f w)) c.vertex_of.ensures in
    c.in_ok-push.ensures.items
    ∙ rows_more (slots_at f root) c.loop-v.v c.loop-v.lengths.items c.degree.result c.loop-v.invariant slots

pub ones-requires-clause-few : goal.ones-requires-clause-few
ones-requires-clause-few g c =
    let f = g.A.Adjacency.of_graph c.args.adjacency.now in
    let are = rows_whole (slots_at f c.args.root) f.vertices c.loop-v.v
    c.vertices-count.result c.loop-v.lengths.items c.loop-v.invariant
    c.vertices-count.ensures.count c.loop-v.auto.v-end c.loop-v-test.false in
    omega (
      arith,
      ap length are,
      length-map-range_with_len (slots_at f c.args.root) 0 (f.vertices - 1),
      c.vertices-count.ensures.graph.vertices_fit,
    )

pub ones-requires-clause-short : goal.ones-requires-clause-short
ones-requires-clause-short g c =
    let f = g.A.Adjacency.of_graph c.args.adjacency.now in
    subst (All (λ slots. slots < 2 ^ 31)) (sym c.loop-v.invariant)
    (slots_short f c.args.root c.loop-v.v c.vertices-count.ensures.graph)

pub of-requires-clause-some : goal.of-requires-clause-some
of-requires-clause-some g c =
    let f = g.A.Adjacency.of_graph c.args.adjacency.now in
    let are = ones_are f c.args.root c.loop-v.v c.vertices-count.result c.loop-v.lengths.items c.in_ok-ones.ones
    c.requires.ones c.loop-v.invariant c.vertices-count.ensures.count c.loop-v.auto.v-end c.loop-v-test.false
    c.in_ok-ones.ensures in
    subst (All (λ row. 0 < length row)) (sym are)
    (tree_weights f c.args.root c.vertices-count.ensures.graph c.requires.root c.requires.joined).some

pub of-requires-clause-positive : goal.of-requires-clause-positive
of-requires-clause-positive g c =
    let f = g.A.Adjacency.of_graph c.args.adjacency.now in
    let are = ones_are f c.args.root c.loop-v.v c.vertices-count.result c.loop-v.lengths.items c.in_ok-ones.ones
    c.requires.ones c.loop-v.invariant c.vertices-count.ensures.count c.loop-v.auto.v-end c.loop-v-test.false
    c.in_ok-ones.ensures in
    subst (All (All (λ weight. 0 < weight))) (sym are)
    (tree_weights f c.args.root c.vertices-count.ensures.graph c.requires.root c.requires.joined).positive

pub returns : goal.returns
returns g c =
    let f = g.A.Adjacency.of_graph c.args.adjacency.now in
    let are = ones_are f c.args.root c.loop-v.v c.vertices-count.result c.loop-v.lengths.items c.in_ok-ones.ones
    c.requires.ones c.loop-v.invariant c.vertices-count.ensures.count c.loop-v.auto.v-end c.loop-v-test.false
    c.in_ok-ones.ensures in
    c.of.ensures ∙ are
