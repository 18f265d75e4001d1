use Rattle.std.proofs.Common.{◌≡◌, List, Some, slice_get, map, zip, take, sym, ap, subst, get_or, arith, ◌∙◌, ◌+◌}
use Rattle.std.proofs.lemmas.Option.{slice_get-get_or}
use Rattle.pop_log.specs.Layers.{Placed}
use Rattle.pop_log.specs.declared.placed_record.PlacedRecord.{PlacedRecord}
use Rattle.pop_log.specs.PlacedRecords.{placed_of}
use Rattle.pop_log.proofs.PlacedRecordsLemmas.{with_more, with_all}
use Rattle.pop_log.proofs.sorting.with_layers.Goals as goal

pub loop-i-preserved : goal.loop-i-preserved
loop-i-preserved c =
    let log = c.args.log.now in
    let ys = c.args.layers.now in
    let i = c.loop-i.i in
    let p : PlacedRecord = c.of.result in
    let y = get_or ys i 0 in
    let here : slice_get log i ≡ Some p.popped.now =
    c.at.ensures ∙ ap (λ (q : Placed). Some q.0) (sym {A = Placed} c.of.ensures) in
    let layer : slice_get ys i ≡ Some p.layer =
    slice_get-get_or ys i 0 (omega (arith, c.loop-i-test.true, c.len-i-end.ensures, c.requires.each))
    ∙ ap (λ (q : Placed). Some q.1) (sym {A = Placed} c.of.ensures) in
    subst (λ (l : List PlacedRecord). map placed_of l ≡ take (i + 1) (zip log ys)) (sym c.in_ok-push.ensures.items)
    (with_more log ys i c.loop-i.placed.items p here layer c.loop-i.invariant)

pub returns : goal.returns
returns c =
    with_all c.args.log.now c.args.layers.now c.loop-i.i c.loop-i.placed.items c.requires.each
    (omega (arith, c.loop-i-test.false, c.len-i-end.ensures)) c.loop-i.invariant
