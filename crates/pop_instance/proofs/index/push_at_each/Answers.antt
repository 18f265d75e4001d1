use Rattle.std.proofs.Common.{◌<◌, ℕ, List, length, get_or, ap, ◌∙◌, arith}
use Rattle.pop_model.proofs.Members.{all_at}
use Rattle.pop_rows.specs.FlatRows.{RoomyRows, HasRoom}
use Rattle.pop_instance.proofs.PutRows.{row_before, put_more}
use Rattle.pop_instance.proofs.index.push_at_each.Goals as goal

pub push-requires : goal.push-requires
push-requires c =
    let old : RoomyRows = c.args.rows.now in
    let e = c.args.cube.now in
    let p : ℕ × ℕ = c.pair-v.result in
    let i = c.loop-i.i in
    let known = all_at (λ (q : ℕ × ℕ). q.0 < length old.rows) e i p c.pair-v.ensures c.requires.known in
    let room : HasRoom old p.0 = all_at (λ (q : ℕ × ℕ). HasRoom old q.0) e i p c.pair-v.ensures c.requires.room in
    let row = ap length (row_before e i p c.args.place old.rows c.loop-i.rows.rows c.len-i-end.ensures.cube.rising
    c.pair-v.ensures known c.loop-i.invariant.put) in
    let rooms = ap (λ (xs : List ℕ). get_or xs p.0 0) c.loop-i.invariant.rooms in
    omega (arith, room, row, rooms)

pub loop-i-preserved : goal.loop-i-preserved
loop-i-preserved c =
    let old : RoomyRows = c.args.rows.now in
    let e = c.args.cube.now in
    let p : ℕ × ℕ = c.pair-v.result in
    let i = c.loop-i.i in
    let known = all_at (λ (q : ℕ × ℕ). q.0 < length old.rows) e i p c.pair-v.ensures c.requires.known in
    record {
      put = rw c.push.ensures.rows (put_more e i p c.args.place old.rows c.loop-i.rows.rows
          c.len-i-end.ensures.cube.rising c.pair-v.ensures known c.loop-i.invariant.put);
      rooms = c.push.ensures.rooms ∙ c.loop-i.invariant.rooms;
    }
