use Rattle.std.proofs.Common.{◌++◌, ◌∷◌, [], length, map, arith, ap, sym, ◌∙◌}
use Rattle.std.specs.List.{range_with_len}
use Rattle.std.proofs.lemmas.List.FromFn.{length-map-range_with_len, map-range_with_len_more}
use Rattle.graph_read.specs.Graphs.{GraphOf}
use Rattle.graph_read.specs.Ends.{edge_in}
use Rattle.graph_read.proofs.ends.graph_of_ends.Goals as goal

pub push-requires-clause-room : goal.push-requires-clause-room
push-requires-clause-room c =
    omega (
      arith,
      ap (λ (g : GraphOf). length g.edges) c.loop-i.invariant,
      length-map-range_with_len (edge_in c.args.ends.now c.args.weights.now) 0 c.loop-i.i,
      c.loop-i-test.true,
      c.in_ok-check_shape.ensures.shape.edges_fit,
    )

pub loop-i-preserved : goal.loop-i-preserved
loop-i-preserved c =
    let f = edge_in c.args.ends.now c.args.weights.now in
    c.in_ok-push.ensures.pushed
    ∙ ap (λ (g : GraphOf).
    let h : GraphOf = record { vertices = g.vertices; edges = g.edges ++ c.edge_of.result ∷ [] } in h)
    c.loop-i.invariant
    ∙ ap (λ e. let h : GraphOf = record { vertices = c.args.vertices; edges = map f (range_with_len 0 c.loop-i.i) ++ e ∷ [] } in h)
    c.edge_of.ensures.edge
    ∙ ap (λ es. let h : GraphOf = record { vertices = c.args.vertices; edges = es } in h)
    (sym (map-range_with_len_more f 0 c.loop-i.i c.loop-i.i (omega arith)))
