use Rattle.std.proofs.Common.{◌≡◌, ◌+◌, ◌∷◌, [], ◌++◌, ◌-◌, false, true, arith, rules, sym, subst}
use Rattle.graph_read.specs.Incidence.{is_loop, put_number}
use Rattle.graph_read.proofs.IncidenceRows.{edge_here, first_ends, row_there}
use Rattle.graph_read.proofs.PickedEdges.{PicksEdges, picks_all, picks_at, picks_both, picks_loop, picks_none}
use Rattle.graph_read.proofs.picks.pick_edges.Goals as goal
use Rattle.graph_read.proofs.picks.pick_edges.Goals.{then-not-is_loop, else-not-is_loop}

pub loop-i-init : goal.loop-i-init
loop-i-init c = picks_none c.args.graph.now.vertices c.args.left.now c.args.picked.now c.requires.left c.requires.picked

pub loop-i-preserved : goal.loop-i-preserved
loop-i-preserved c =
    let at = edge_here c.args.graph.now c.loop-i.i c.edges-i-end.result c.edge-edge.result c.loop-i-test.true
    c.edges-i-end.ensures.count c.edge-edge.ensures.edge c.edge-edge.ensures.joins in
    let g = c.args.graph.now in
    let i = c.loop-i.i in
    let e = c.edge-edge.result in
    elim c.if-not-is_loop.branch [
      | then-not-is_loop w ↦
          (let apart : is_loop e ≡ false = search rules in
          let ps = first_ends put_number g i in
          let first = w.pick_at.new in
          let second = w.pick_at-then-not-is_loop.new in
          let half = picks_at g.vertices (e.u - 1) i ps c.args.left.now c.loop-i.left c.loop-i.picked
          first.left first.picked (row_there g.vertices e.u at.edge.from) c.loop-i.invariant
          w.pick_at.ensures.left w.pick_at.ensures.picked in
          let both = picks_at g.vertices (e.v - 1) i (ps ++ (e.u - 1, i) ∷ []) c.args.left.now first.left first.picked
          second.left second.picked (row_there g.vertices e.v at.edge.to) half
          w.pick_at-then-not-is_loop.ensures.left w.pick_at-then-not-is_loop.ensures.picked in
          subst (λ ls. PicksEdges g (i + 1) c.args.left.now ls c.if-not-is_loop.picked) (sym w.left-is)
          (subst (PicksEdges g (i + 1) c.args.left.now second.left) (sym w.picked-is)
          (picks_both g i e c.args.left.now second.left second.picked at apart both)))
      | else-not-is_loop w ↦
          (let loop : is_loop e ≡ true = search rules in
          subst (λ ls. PicksEdges g (i + 1) c.args.left.now ls c.if-not-is_loop.picked) (sym w.left-is)
          (subst (PicksEdges g (i + 1) c.args.left.now c.loop-i.left) (sym w.picked-is)
          (picks_loop g i e c.args.left.now c.loop-i.left c.loop-i.picked at loop c.loop-i.invariant)))
    ]

pub returns : goal.returns
returns c =
    picks_all c.args.graph.now c.loop-i.i c.args.left.now c.loop-i.left c.loop-i.picked
    c.edges-i-end.ensures.graph.edges_join (omega (arith, c.loop-i-test.false, c.edges-i-end.ensures.count))
    c.loop-i.invariant
