use Rattle.std.proofs.Common.{max, ap, ◌∙◌}
use Rattle.std.proofs.lemmas.Option.{get_or_from_slice_get, slice_get_within}
use Rattle.pop_watch.proofs.LayerSteps.{greatest_more}
use Rattle.pop_watch.proofs.layers.layer_of.Goals as goal

pub loop-i-preserved : goal.loop-i-preserved
loop-i-preserved c =
    let e = c.args.cube.now in
    let v = c.pair-v.result.0 in
    let x = c.pair-v.result.1 in
    c.max-greatest.ensures ∙ ap (max c.loop-i.greatest) c.number_at.ensures
    ∙ greatest_more c.args.places.now e c.loop-i.i v x c.loop-i.greatest (slice_get_within e c.loop-i.i (v, x) c.pair-v.ensures)
    (get_or_from_slice_get e c.loop-i.i (v, x) (v, x) c.pair-v.ensures) c.loop-i.invariant
