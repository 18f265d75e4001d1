use Rattle.std.proofs.Common.{◌≡◌, ◌<◌, length, get_or, sym, ap, subst, arith}
use Rattle.graph_read.specs.Graphs.{IsGraph}
use Rattle.graph_read.specs.Incidence.{neighbours_of}
use Rattle.graph_read.specs.Paths.{IsJoined}
use Rattle.graph_read.specs.Search.{IsMet}
use Rattle.graph_read.proofs.VisitedEdges.{neighbour_vertex, visits_all, visits_more}
use Rattle.graph_read.proofs.search.visit.Goals as goal

pub meet-requires : goal.meet-requires
meet-requires c =
    let g = c.args.ends.now in
    let list : c.at-w-items.result.now ≡ neighbours_of g c.args.vertex = c.at-w-items.ensures in
    let here = ap (λ xs. get_or xs c.loop-w.w-index 0) list in
    let within : c.loop-w.w-index < length (neighbours_of g c.args.vertex) =
    omega (arith, c.loop-w-test.true, ap length list) in
    let met = neighbour_vertex g c.args.vertex c.loop-w.w-index (subst IsGraph c.graph.ensures c.edges-edges.ensures.graph)
    within in
    record {
      first = omega (arith, here, met.first);
      last = omega (arith, here, c.loop-w.invariant.goes.size, c.requires.size, met.last);
    }

pub loop-w-preserved : goal.loop-w-preserved
loop-w-preserved c =
    let g = c.args.ends.now in
    let k = c.loop-w.w-index in
    let list : c.at-w-items.result.now ≡ neighbours_of g c.args.vertex = c.at-w-items.ensures in
    let here = ap (λ xs. get_or xs k 0) list in
    let e = c.in_ok-meet.ensures in
    visits_more g c.args.vertex k c.args.search.now c.loop-w.search c.meet.new.self
    (omega (arith, c.loop-w-test.true, ap length list)) c.requires.vertex c.requires.met
    c.loop-w.invariant (subst (IsMet c.meet.new.self.met.items) here e.here) e.goes
    (λ g root is joined. e.search g root is (subst (IsJoined g root) (sym here) joined))

pub returns-clause-visited : goal.returns-clause-visited
returns-clause-visited c =
    let g = c.args.ends.now in
    let list : c.at-w-items.result.now ≡ neighbours_of g c.args.vertex = c.at-w-items.ensures in
    visits_all g c.args.vertex c.loop-w.w-index c.args.search.now c.loop-w.search
    (omega (arith, c.loop-w-test.false, ap length list)) c.requires.met c.loop-w.invariant
