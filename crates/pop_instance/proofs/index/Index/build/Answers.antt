use Rattle.std.proofs.Common.{◌≡◌, ◌<◌, ℕ, [], length, subst, arith}
use Rattle.pop_model.specs.Popping.{Cube, NamesBelow}
use Rattle.pop_instance.specs.Events.{cube_at}
use Rattle.pop_instance.specs.Index.{IsPut}
use Rattle.pop_instance.proofs.FilledRows.{filled_none, filled_room, filled_more, filled_index}
use Rattle.pop_instance.proofs.index.Index.build.Goals as goal

pub loop-place-init : goal.loop-place-init
loop-place-init c =
    filled_none c.args.events.now c.args.count c.in_ok-tally.field-0.items c.in_ok-rows.rows c.in_ok-tally.ensures
    c.in_ok-rows.ensures.rooms c.in_ok-rows.ensures.empty

pub push_at_each-requires-clause-known : goal.push_at_each-requires-clause-known
push_at_each-requires-clause-known c =
    let rows = c.args.events.now in
    let n = c.loop-place.place in
    let within : n < length rows = omega (arith, c.count-place-end.ensures.count, c.loop-place-test.true) in
    let known : NamesBelow (cube_at rows n) c.args.count = c.requires.known n (0, []) within in
    rw (c.cube.ensures, c.loop-place.invariant.size) known

pub push_at_each-requires-clause-room : goal.push_at_each-requires-clause-room
push_at_each-requires-clause-room c =
    let rows = c.args.events.now in
    let n = c.loop-place.place in
    let within : n < length rows = omega (arith, c.count-place-end.ensures.count, c.loop-place-test.true) in
    rw c.cube.ensures (filled_room rows n c.args.count c.loop-place.rows c.loop-place.invariant
    (c.requires.known n (0, []) within) within)

pub loop-place-preserved : goal.loop-place-preserved
loop-place-preserved c =
    let rows = c.args.events.now in
    let n = c.loop-place.place in
    let put : IsPut (cube_at rows n) n c.loop-place.rows.rows c.push_at_each.new.rows.rows =
    subst (λ (e : Cube). IsPut e n c.loop-place.rows.rows c.push_at_each.new.rows.rows) c.cube.ensures
    c.push_at_each.ensures.rows in
    filled_more rows n c.args.count c.loop-place.rows c.loop-place.invariant c.push_at_each.new.rows put
    c.push_at_each.ensures.rooms

pub returns-clause-index : goal.returns-clause-index
returns-clause-index c =
    let n : ℕ = c.loop-place.place in
    let all : n ≡ length c.args.events.now =
    omega (arith, c.count-place-end.ensures.count, c.loop-place-test.false) in
    filled_index c.args.events.now n c.args.count c.loop-place.rows c.loop-place.invariant c.requires.known all
