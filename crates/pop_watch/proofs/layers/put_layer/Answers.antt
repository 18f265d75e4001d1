use Rattle.std.proofs.Common.{◌≡◌, ◌<◌, ◌+◌, ℕ, length, set, take, take_all, ap, subst, ◌∙◌, arith}
use Rattle.std.proofs.lemmas.Option.{get_or_from_slice_get, slice_get_within}
use Rattle.pop_model.specs.Popping.{Cube}
use Rattle.pop_model.proofs.Members.{all_at}
use Rattle.pop_watch.proofs.LayerSteps.{ArePut, put_more, put_all}
use Rattle.pop_watch.proofs.layers.put_layer.Goals as goal

pub loop-i-preserved : goal.loop-i-preserved
loop-i-preserved c =
    let e = c.args.cube.now in
    let s = c.args.places.now in
    let v = c.pair-v.result.0 in
    let x = c.pair-v.result.1 in
    put_more s c.loop-i.places e c.args.layer c.loop-i.i v x (slice_get_within e c.loop-i.i (v, x) c.pair-v.ensures)
    (get_or_from_slice_get e c.loop-i.i (v, x) (v, x) c.pair-v.ensures)
    (all_at (λ (p : ℕ × ℕ). p.0 + 1 < length s) e c.loop-i.i (v, x) c.pair-v.ensures c.requires.room)
    c.loop-i.invariant

pub returns : goal.returns
returns c =
    let e : Cube = c.args.cube.now in
    let s = c.args.places.now in
    let whole : take c.loop-i.i e ≡ e = take_all c.loop-i.i e (omega (arith, c.loop-i-test.false, c.len-i-end.ensures.len)) in
    ap (λ n. set c.loop-i.places 0 n) c.max.ensures
    ∙ put_all s c.loop-i.places e c.args.layer c.requires.some
    (subst (λ (l : Cube). ArePut s c.loop-i.places l c.args.layer) whole c.loop-i.invariant)
