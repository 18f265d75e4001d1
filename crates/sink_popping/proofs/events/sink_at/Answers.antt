use Rattle.std.proofs.Common.{◌≡◌, false, length, refl, sym, ap, ◌∙◌, subst, arith, eqb-true}
use Rattle.std.proofs.lemmas.Bool.{eqb-false}
use Rattle.std.proofs.lemmas.List.{length-map}
use Rattle.graph_read.specs.Graphs.{edge_at}
use Rattle.graph_read.specs.Incidence.{dart_at, edges_at}
use Rattle.sink_popping.specs.Sinks.{has_loop, HasSink}
use Rattle.sink_popping.proofs.SinkCubesLemmas.{pairs_are_sink, lonely_is_isolated}
use Rattle.sink_popping.proofs.events.sink_at.Goals as goal
use Rattle.sink_popping.proofs.events.sink_at.Goals.{After-at}

-- the vertex has no loop
no_loop : (c : After-at) → has_loop c.args.incidence.now c.args.w ≡ false
no_loop c =
    sym (c.requires.loops.each c.args.w (omega (arith, c.requires.loops.count, c.requires.vertex.last)))
    ∙ c.if-loops-w.false

-- there are as many darts as edges at it
darts_count : (c : After-at) → length c.at.result.now ≡ length (edges_at c.args.incidence.now c.args.w)
darts_count c =
    let g = c.args.incidence.now in
    ap length c.at.ensures ∙ length-map (edges_at g c.args.w) (λ i. dart_at i (edge_at g i) c.args.w)

pub returns-then-is_empty : goal.returns-then-is_empty
returns-then-is_empty c =
    let before = (goal.at.returns-then-is_empty c).After-at in
    let few = eqb-true (length c.at.result.now) 0 (sym c.is_empty.ensures ∙ c.if-is_empty.true) in (
      refl,
      lonely_is_isolated c.args.incidence.now c.args.w c.requires.vertex (no_loop before)
          (sym (darts_count before) ∙ few),
    )

pub sink_cube-requires-clause-some : goal.sink_cube-requires-clause-some
sink_cube-requires-clause-some c =
    let before = (goal.at.sink_cube-requires-clause-some c).After-at in
    let some = eqb-false (length c.at.result.now) 0 (sym c.is_empty.ensures ∙ c.if-is_empty.false) in
    let count = darts_count before in
    omega (arith, some, count)

pub returns : goal.returns
returns c =
    let before = (goal.at.returns c).After-at in
    let some = eqb-false (length c.at.result.now) 0 (sym c.is_empty.ensures ∙ c.if-is_empty.false) in
    let count = darts_count before in
    subst (HasSink c.args.incidence.now c.args.w) (sym c.in_ok-sink_cube.ensures)
    (pairs_are_sink c.args.incidence.now c.args.w c.requires.vertex (no_loop before) (omega (arith, some, count)))
