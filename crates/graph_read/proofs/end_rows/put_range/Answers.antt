use Rattle.std.proofs.Common.{◌≡◌, ◌+◌, ◌-◌, false, true, arith, rules, sym, ap, subst, ◌∙◌}
use Rattle.pop_rows.specs.FlatRows.{push_at}
use Rattle.graph_read.specs.Incidence.{is_loop, put_of, Putting}
use Rattle.graph_read.proofs.IncidenceRows.{edge_here, first_ends}
use Rattle.graph_read.proofs.FilledRanges.{HasRooms, HoldsRange, PutsEnd, holds_all, holds_edge, holds_from, holds_loop, holds_no_edge, room_from, room_to}
use Rattle.graph_read.proofs.end_rows.put_range.Goals as goal
use Rattle.graph_read.proofs.end_rows.put_range.Goals.{then-not-is_loop, else-not-is_loop}

pub loop-i-init : goal.loop-i-init
loop-i-init c = holds_no_edge c.args.range c.args.rows.now c.requires.empty

pub put_end-requires : goal.put_end-requires
put_end-requires c =
    let at = edge_here c.args.graph.now c.loop-i.i c.edges-i-end.result c.edge-edge.result c.loop-i-test.true
    c.edges-i-end.ensures.count c.edge-edge.ensures.edge c.edge-edge.ensures.joins in
    let room : HasRooms c.args.graph.now c.args.rows.now = record {
      edges = c.edges-i-end.ensures.graph.edges_join;
      rooms = c.requires.rooms;
      size = c.requires.size;
    } in
    room_from (put_of c.args.put) c.args.graph.now c.args.range c.args.rows.now c.loop-i.i c.edge-edge.result
    c.loop-i.rows room at (search rules) c.loop-i.invariant

pub put_end-requires-then-not-is_loop : goal.put_end-requires-then-not-is_loop
put_end-requires-then-not-is_loop c =
    let put : Putting = put_of c.args.put in
    let g = c.args.graph.now in
    let i = c.loop-i.i in
    let e = c.edge-edge.result in
    let at = edge_here g i c.edges-i-end.result e c.loop-i-test.true c.edges-i-end.ensures.count
    c.edge-edge.ensures.edge c.edge-edge.ensures.joins in
    let room : HasRooms g c.args.rows.now = record {
      edges = c.edges-i-end.ensures.graph.edges_join;
      rooms = c.requires.rooms;
      size = c.requires.size;
    } in
    let first : PutsEnd c.args.range (e.u - 1) (put i e e.u) c.loop-i.rows c.put_end.new.rows = record {
      rooms = c.put_end.ensures.rooms;
      within = λ within. c.put_end.ensures.within within ∙ ap (push_at c.loop-i.rows.rows (e.u - 1)) c.of.ensures;
      beyond = c.put_end.ensures.beyond;
    } in
    room_to put g c.args.range c.args.rows.now i e c.put_end.new.rows room at (search rules)
    (holds_from put g c.args.range c.args.rows.now i e c.loop-i.rows c.put_end.new.rows room at first
    c.loop-i.invariant)

pub loop-i-preserved : goal.loop-i-preserved
loop-i-preserved c =
    let put : Putting = put_of c.args.put in
    let g = c.args.graph.now in
    let i = c.loop-i.i in
    let e = c.edge-edge.result in
    let range = c.args.range in
    let old = c.args.rows.now in
    let at = edge_here g i c.edges-i-end.result e c.loop-i-test.true c.edges-i-end.ensures.count
    c.edge-edge.ensures.edge c.edge-edge.ensures.joins in
    let room : HasRooms g old = record {
      edges = c.edges-i-end.ensures.graph.edges_join;
      rooms = c.requires.rooms;
      size = c.requires.size;
    } in
    elim c.if-not-is_loop.branch [
      | then-not-is_loop w ↦
          (let apart : is_loop e ≡ false = search rules in
          let half = w.put_end.new.rows in
          let both = w.put_end-then-not-is_loop.new.rows in
          let first : PutsEnd range (e.u - 1) (put i e e.u) c.loop-i.rows half = record {
            rooms = w.put_end.ensures.rooms;
            within = λ within. w.put_end.ensures.within within
                ∙ ap (push_at c.loop-i.rows.rows (e.u - 1)) w.of.ensures;
            beyond = w.put_end.ensures.beyond;
          } in
          let second : PutsEnd range (e.v - 1) (put i e e.v) half both = record {
            rooms = w.put_end-then-not-is_loop.ensures.rooms;
            within = λ within. w.put_end-then-not-is_loop.ensures.within within
                ∙ ap (push_at half.rows (e.v - 1)) w.of-then-not-is_loop.ensures;
            beyond = w.put_end-then-not-is_loop.ensures.beyond;
          } in
          subst (HoldsRange range old (first_ends put g (i + 1))) (sym w.rows-is)
          (holds_edge put g range old i e half both room at apart second
          (holds_from put g range old i e c.loop-i.rows half room at first c.loop-i.invariant)))
      | else-not-is_loop w ↦
          (let loop : is_loop e ≡ true = search rules in
          subst (HoldsRange range old (first_ends put g (i + 1))) (sym w.rows-is)
          (holds_loop put g range old i e c.loop-i.rows at loop c.loop-i.invariant))
    ]

pub returns-clause-rooms : goal.returns-clause-rooms
returns-clause-rooms c = c.loop-i.invariant.rooms

pub returns-clause-fills : goal.returns-clause-fills
returns-clause-fills c =
    holds_all (put_of c.args.put) c.args.graph.now c.args.range c.args.rows.now c.loop-i.i c.loop-i.rows
    c.edges-i-end.ensures.graph.edges_join
    (omega (arith, c.loop-i-test.false, c.edges-i-end.ensures.count)) c.loop-i.invariant
