use Rattle.std.proofs.Common.{◌≡◌, ◌+◌, false, true, arith, rules, sym, subst}
use Rattle.pop_rows.proofs.Puts.{CountPuts}
use Rattle.graph_read.specs.Incidence.{is_loop, put_number}
use Rattle.graph_read.proofs.IncidenceRows.{edge_here, count_small, count_small_still, counts_all, counts_from, counts_loop, counts_to, first_ends}
use Rattle.graph_read.proofs.end_rows.count_ends.Goals as goal
use Rattle.graph_read.proofs.end_rows.count_ends.Goals.{then-not-is_loop, else-not-is_loop}

pub count_at-requires-clause-few : goal.count_at-requires-clause-few
count_at-requires-clause-few c =
    omega (
      arith,
      count_small c.args.graph.now c.loop-i.i c.edge-edge.result.u c.loop-i.degrees
          c.edges-i-end.ensures.graph.edges_fit c.loop-i.invariant c.edge-edge.ensures.joins.from,
    )

pub count_at-requires-then-not-is_loop-clause-few : goal.count_at-requires-then-not-is_loop-clause-few
count_at-requires-then-not-is_loop-clause-few c =
    let at = edge_here c.args.graph.now c.loop-i.i c.edges-i-end.result c.edge-edge.result c.loop-i-test.true
    c.edges-i-end.ensures.count c.edge-edge.ensures.edge c.edge-edge.ensures.joins in
    omega (
      arith,
      count_small_still c.args.graph.now c.loop-i.i c.edge-edge.result c.count_at.new.rooms at
          c.edges-i-end.ensures.graph.edges_fit
          (counts_from c.args.graph.now c.loop-i.i c.edge-edge.result c.loop-i.degrees c.count_at.new.rooms at
          c.loop-i.invariant c.count_at.ensures),
    )

pub loop-i-preserved : goal.loop-i-preserved
loop-i-preserved c =
    let at = edge_here c.args.graph.now c.loop-i.i c.edges-i-end.result c.edge-edge.result c.loop-i-test.true
    c.edges-i-end.ensures.count c.edge-edge.ensures.edge c.edge-edge.ensures.joins in
    elim c.if-not-is_loop.branch [
      | then-not-is_loop w ↦
          (let apart : is_loop c.edge-edge.result ≡ false = search rules in
          subst (CountPuts c.args.graph.now.vertices (first_ends put_number c.args.graph.now (c.loop-i.i + 1)))
          (sym w.degrees-is)
          (counts_to c.args.graph.now c.loop-i.i c.edge-edge.result w.count_at.new.rooms
          w.count_at-then-not-is_loop.new.rooms at apart
          (counts_from c.args.graph.now c.loop-i.i c.edge-edge.result c.loop-i.degrees w.count_at.new.rooms at
          c.loop-i.invariant w.count_at.ensures)
          w.count_at-then-not-is_loop.ensures))
      | else-not-is_loop w ↦
          (let loop : is_loop c.edge-edge.result ≡ true = search rules in
          subst (CountPuts c.args.graph.now.vertices (first_ends put_number c.args.graph.now (c.loop-i.i + 1)))
          (sym w.degrees-is)
          (counts_loop c.args.graph.now c.loop-i.i c.edge-edge.result c.loop-i.degrees at loop c.loop-i.invariant))
    ]

pub returns : goal.returns
returns c =
    counts_all c.args.graph.now c.loop-i.i c.loop-i.degrees c.edges-i-end.ensures.graph.edges_join
    (omega (arith, c.loop-i-test.false, c.edges-i-end.ensures.count)) c.loop-i.invariant
