use Rattle.std.proofs.Common.{◌∙◌, [], arith, sym}
use Rattle.std.proofs.lemmas.Bool.{false≢true}
use Rattle.pop_log.proofs.PlacedRecordsLemmas.{length-layers}
use Rattle.pop_log.proofs.SaidLayers.{layered_all, turn_other, turn_order, turn_more}
use Rattle.pop_log.proofs.layer_checking.first_unlayered.Goals as goal

pub index-requires : goal.index-requires
index-requires c =
    let size = length-layers [] c.args.log.now c.in_ok-layers.layers.items c.in_ok-layers.ensures in
    let ok = c.in_ok-layers.layers.ok.0 in
    omega (arith, size, ok, c.loop-i-test.true, c.len-i-end.ensures)

pub returns-then-said-i : goal.returns-then-said-i
returns-then-said-i c =
    let log = c.args.log.now in
    let ys = c.in_ok-layers.layers.items in
    turn_other log ys c.args.said.now c.loop-i.i c.loop-i.invariant
    (omega (arith, c.loop-i-test.true, c.len-i-end.ensures)) (length-layers [] log ys c.in_ok-layers.ensures)
    c.requires.each c.index.result.now c.index.ensures c.if-said-i.true

pub returns-then-not-follows : goal.returns-then-not-follows
returns-then-not-follows c =
    let log = c.args.log.now in
    let ys = c.in_ok-layers.layers.items in
    turn_order log ys c.args.said.now c.loop-i.i c.loop-i.invariant
    (omega (arith, c.loop-i-test.true, c.len-i-end.ensures)) (length-layers [] log ys c.in_ok-layers.ensures)
    c.requires.each c.index.result.now c.index.ensures
    (λ follows. false≢true (sym c.if-not-follows.true ∙ c.follows.ensures.1 follows))

pub loop-i-preserved : goal.loop-i-preserved
loop-i-preserved c =
    let log = c.args.log.now in
    let ys = c.in_ok-layers.layers.items in
    turn_more log ys c.args.said.now c.loop-i.i c.loop-i.invariant
    (omega (arith, c.loop-i-test.true, c.len-i-end.ensures)) (length-layers [] log ys c.in_ok-layers.ensures)
    c.requires.each c.index.result.now c.index.ensures c.if-said-i.false (c.follows.ensures.0 c.if-not-follows.false)

pub returns : goal.returns
returns c =
    layered_all c.args.log.now c.in_ok-layers.layers.items c.args.said.now c.loop-i.i c.requires.each
    (omega (arith, c.loop-i-test.false, c.len-i-end.ensures)) c.loop-i.invariant
