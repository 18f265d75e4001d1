use Rattle.std.proofs.Common.{◌≡◌, ◌<◌, ℕ, All, length, sym, ap, subst, ◌∙◌, arith}
use Rattle.std.proofs.lemmas.List.FromFn.{length-map-range_with_len}
use Rattle.pop_stacks.specs.Rows.{AreShort}
use Rattle.pop_model.specs.Names.{vertex_of}
use Rattle.graph_read.specs.declared.put.Put.TheVariants.{Weight}
use Rattle.graph_read.specs.Incidence.{at_vertex, put_of, row_by, rows_by}
use Rattle.graph_read.proofs.IncidenceLemmas.{at_vertex-rows_by}
use Rattle.cycle_popping.specs.Trees.{weights_at}
use Rattle.cycle_popping.proofs.TreeRows.{vertex_of_is, tree_weights, rows_more, rows_whole}
use Rattle.cycle_popping.proofs.weights.numbers_of.Goals as goal

pub row-requires : goal.row-requires
row-requires c =
    let g = c.args.ends.now in
    let named = vertex_of_is g.vertices c.args.root c.loop-v.v c.requires.root
    (omega (arith, c.vertices-count.ensures.count, c.loop-v-test.true)) in
    omega (
      arith,
      ap length c.in_ok-weights.ensures,
      length-map-range_with_len (row_by (put_of Weight) g) 1 g.vertices,
      c.vertex_of.ensures,
      named.vertex.first,
      named.vertex.last,
    )

pub loop-v-preserved : goal.loop-v-preserved
loop-v-preserved c =
    let g = c.args.ends.now in
    let root : ℕ = c.args.root in
    let v : ℕ = c.loop-v.v in
    let named = vertex_of_is g.vertices root v c.requires.root
    (omega (arith, c.vertices-count.ensures.count, c.loop-v-test.true)) in
    let row : c.row.result.now ≡ weights_at g root v = c.row.ensures
    ∙ ap (λ rows. at_vertex rows c.vertex_of.result) c.in_ok-weights.ensures
    ∙ ap (at_vertex (rows_by (put_of Weight) g)) c.vertex_of.ensures
    ∙ at_vertex-rows_by (put_of Weight) g (vertex_of root v) named.vertex in
    c.in_ok-push_row.ensures.added
    ∙ rows_more (weights_at g root) v c.loop-v.rows c.row.result.now c.loop-v.invariant row

pub flat-requires : goal.flat-requires
flat-requires c =
    let g = c.args.ends.now in
    let are = rows_whole (weights_at g c.args.root) g.vertices c.loop-v.v
    c.vertices-count.result c.loop-v.rows c.loop-v.invariant
    c.vertices-count.ensures.count c.loop-v.auto.v-end c.loop-v-test.false in
    subst AreShort (sym are)
    (tree_weights g c.args.root c.vertices-count.ensures.graph c.requires.root c.requires.joined).short

pub of-requires-clause-some : goal.of-requires-clause-some
of-requires-clause-some c =
    let g = c.args.ends.now in
    let are = rows_whole (weights_at g c.args.root) g.vertices c.loop-v.v
    c.vertices-count.result c.loop-v.rows c.loop-v.invariant
    c.vertices-count.ensures.count c.loop-v.auto.v-end c.loop-v-test.false in
    subst (All (λ row. 0 < length row)) (sym (c.flat.ensures ∙ are))
    (tree_weights g c.args.root c.vertices-count.ensures.graph c.requires.root c.requires.joined).some

pub of-requires-clause-positive : goal.of-requires-clause-positive
of-requires-clause-positive c =
    let g = c.args.ends.now in
    let are = rows_whole (weights_at g c.args.root) g.vertices c.loop-v.v
    c.vertices-count.result c.loop-v.rows c.loop-v.invariant
    c.vertices-count.ensures.count c.loop-v.auto.v-end c.loop-v-test.false in
    subst (All (All (λ weight. 0 < weight))) (sym (c.flat.ensures ∙ are))
    (tree_weights g c.args.root c.vertices-count.ensures.graph c.requires.root c.requires.joined).positive

pub returns : goal.returns
returns c =
    let g = c.args.ends.now in
    c.of.ensures ∙ c.flat.ensures ∙ rows_whole (weights_at g c.args.root) g.vertices c.loop-v.v
    c.vertices-count.result c.loop-v.rows
    c.loop-v.invariant c.vertices-count.ensures.count c.loop-v.auto.v-end c.loop-v-test.false
