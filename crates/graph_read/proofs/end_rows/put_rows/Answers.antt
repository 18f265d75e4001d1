use Rattle.std.proofs.Common.{◌≡◌, ◌+◌, ◌*◌, ◌/◌, arith, subst}
use Rattle.graph_read.specs.Incidence.{put_of}
use Rattle.graph_read.proofs.FilledRanges.{HoldsBelow, holds_every_row, holds_no_range, ranges_cover}
use Rattle.graph_read.proofs.end_rows.put_rows.Goals as goal

pub loop-k-init : goal.loop-k-init
loop-k-init c =
    let size = 1 + c.vertices.result / (1 + c.edges.result / 524288) in
    let none : 0 ≡ 0 * size = omega arith in
    subst (λ done. HoldsBelow (put_of c.args.put) c.args.graph.now done c.in_ok-rows.rows) none
    (holds_no_range (put_of c.args.put) c.args.graph.now c.in_ok-rows.rows c.args.degrees.items c.requires.degrees
    c.in_ok-rows.ensures.rooms c.in_ok-rows.ensures.empty)

pub returns : goal.returns
returns c =
    let ranges = 1 + c.edges.result / 524288 in
    let all = ranges_cover c.vertices.result ranges c.loop-k.k (omega arith) (omega (arith, c.loop-k-test.false)) in
    let vertices = c.vertices.ensures.count in
    holds_every_row (put_of c.args.put) c.args.graph.now
    (c.loop-k.k * (1 + c.vertices.result / ranges)) c.loop-k.rows
    (omega (arith, vertices, all)) c.loop-k.invariant
