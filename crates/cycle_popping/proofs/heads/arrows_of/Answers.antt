use Rattle.std.proofs.Common.{◌≡◌, ◌-◌, ◌<◌, ◌≤◌, ◌^◌, ℕ, All, length, map, sym, ap, ap₂, subst, ◌∙◌, arith}
use Rattle.std.specs.Option.{unwrap_or}
use Rattle.pop_instance.specs.Arrows.{AreHeadNumbers, heads_of_numbers}
use Rattle.graph_read.specs.Graphs.{IsVertex}
use Rattle.cycle_popping.specs.Numbers.{numbers_at}
use Rattle.cycle_popping.specs.Trees.{variable_of}
use Rattle.cycle_popping.proofs.NeighbourRows.{neighbours_from_one, numbers_of_neighbours}
use Rattle.cycle_popping.proofs.TreeRows.{vertex_of_is, rows_more, rows_whole}
use Rattle.cycle_popping.proofs.HeadNumbers.{count_numbers, heads_back, numbers_short, numbers_known}
use Rattle.cycle_popping.proofs.heads.arrows_of.Goals as goal

pub put_neighbours-requires : goal.put_neighbours-requires
put_neighbours-requires g c =
    let f = g.A.Adjacency.of_graph c.args.adjacency.now in
    subst (IsVertex f.vertices) (sym c.vertex_of.ensures)
    (vertex_of_is f.vertices c.args.root c.loop-v.v c.requires.root
    (omega (arith, c.vertices-count.ensures.count, c.loop-v-test.true))).vertex

pub fill_heads-requires-clause-vertices : goal.fill_heads-requires-clause-vertices
fill_heads-requires-clause-vertices g c =
    let f = g.A.Adjacency.of_graph c.args.adjacency.now in
    subst (All (λ u. 1 ≤ u)) (sym (c.deref.ensures.value ∙ c.in_ok-put_neighbours.ensures))
    (neighbours_from_one f c.vertex_of.result c.vertices-count.ensures.graph)

pub loop-v-preserved : goal.loop-v-preserved
loop-v-preserved g c =
    let f = g.A.Adjacency.of_graph c.args.adjacency.now in
    let root : ℕ = c.args.root in
    let row : c.deref-in-loop-v.result.now ≡ numbers_at f root c.loop-v.v =
    c.deref-in-loop-v.ensures.value ∙ c.in_ok-fill_heads.ensures
    ∙ ap₂ (λ n us. map (λ u. unwrap_or (variable_of root u) n) us)
    (ap (λ n. n - 1) c.vertices-count.ensures.count) (c.deref.ensures.value ∙ c.in_ok-put_neighbours.ensures)
    ∙ numbers_of_neighbours f root c.loop-v.v c.vertex_of.result c.vertex_of.ensures in
    c.in_ok-push_row.ensures.added
    ∙ rows_more (numbers_at f root) c.loop-v.v c.loop-v.rows c.deref-in-loop-v.result.now c.loop-v.invariant row

pub flat-requires-clause-short : goal.flat-requires-clause-short
flat-requires-clause-short g c =
    let f = g.A.Adjacency.of_graph c.args.adjacency.now in
    let are = rows_whole (numbers_at f c.args.root) f.vertices c.loop-v.v
    c.vertices-count.result c.loop-v.rows c.loop-v.invariant
    c.vertices-count.ensures.count c.loop-v.auto.v-end c.loop-v-test.false in
    omega (arith, ap length are, count_numbers f c.args.root, c.vertices-count.ensures.graph.vertices_fit)

pub flat-requires-clause-short_rows : goal.flat-requires-clause-short_rows
flat-requires-clause-short_rows g c =
    let f = g.A.Adjacency.of_graph c.args.adjacency.now in
    let are = rows_whole (numbers_at f c.args.root) f.vertices c.loop-v.v
    c.vertices-count.result c.loop-v.rows c.loop-v.invariant
    c.vertices-count.ensures.count c.loop-v.auto.v-end c.loop-v-test.false in
    subst (All (λ row. length row < 2 ^ 31)) (sym are)
    (numbers_short f c.args.root c.vertices-count.ensures.graph c.requires.root)

pub unreachable-requires : goal.unreachable-requires
unreachable-requires g c =
    let f = g.A.Adjacency.of_graph c.args.adjacency.now in
    let are = rows_whole (numbers_at f c.args.root) f.vertices c.loop-v.v
    c.vertices-count.result c.loop-v.rows c.loop-v.invariant
    c.vertices-count.ensures.count c.loop-v.auto.v-end c.loop-v-test.false in
    c.in_default.ensures (subst AreHeadNumbers (sym are)
    (numbers_known f c.args.root c.vertices-count.ensures.graph c.requires.root c.requires.joined))

pub returns : goal.returns
returns g c =
    let f = g.A.Adjacency.of_graph c.args.adjacency.now in
    let are = rows_whole (numbers_at f c.args.root) f.vertices c.loop-v.v
    c.vertices-count.result c.loop-v.rows c.loop-v.invariant
    c.vertices-count.ensures.count c.loop-v.auto.v-end c.loop-v-test.false in
    c.in-Some.ensures ∙ ap heads_of_numbers are
    ∙ heads_back f c.args.root c.vertices-count.ensures.graph c.requires.root
