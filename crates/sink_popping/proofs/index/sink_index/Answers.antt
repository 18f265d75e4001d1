use Rattle.std.proofs.Common.{◌≡◌, ◌<◌, ◌≤◌, ℕ, List, Option, length, map, take, sym, ap, subst, ◌∙◌, arith, All}
use Rattle.std.proofs.lemmas.List.{take_all}
use Rattle.graph_read.specs.declared.edge.Edge.{Edge}
use Rattle.pop_instance.specs.Index.{IsIndex}
use Rattle.sink_popping.specs.SinkPlaces.{places_at}
use Rattle.sink_popping.proofs.SinkRows.{numbers_within, rows_are_index}
use Rattle.sink_popping.proofs.index.sink_index.Goals as goal

pub of_events-requires : goal.of_events-requires
of_events-requires c =
    subst (λ n. All (λ r. r.0 ≤ n) c.args.events.now) (sym c.vertices.ensures.count)
    (numbers_within c.args.graph.now c.args.events.now c.requires.sinks)

pub returns-clause-index : goal.returns-clause-index
returns-clause-index c =
    let g = c.args.graph.now in
    let places : List (Option ℕ) = c.in_ok-places.places in
    let all : take c.loop-i.i g.edges ≡ g.edges =
    take_all c.loop-i.i g.edges (omega (arith, c.edges-i-end.ensures.count, c.loop-i-test.false)) in
    let ends : All (λ (e : Edge). (e.u < length places) × (e.v < length places)) g.edges = λ k d within.
    let joins = c.vertices.ensures.graph.edges_join k d within in
    let from = joins.from.last in
    let to = joins.to.last in (
      omega (arith, from, c.in_ok-places.ensures.count, c.vertices.ensures.count),
      omega (arith, to, c.in_ok-places.ensures.count, c.vertices.ensures.count),
    ) in
    let rows = c.of.ensures ∙ c.loop-i.invariant
    ∙ ap (λ ps. map (places_at ps) (take c.loop-i.i g.edges)) c.places.view_is
    ∙ ap (map (places_at places)) all in
    subst (IsIndex c.args.events.now) (sym rows)
    (rows_are_index g c.args.events.now c.requires.sinks places c.in_ok-places.ensures.places ends)
