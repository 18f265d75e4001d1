use Rattle.std.proofs.Common.{arith}
use Rattle.pop_print.proofs.TreePlaces.{placed_all, placed_more}
use Rattle.pop_print.proofs.tree.places_of.Goals as goal

pub loop-v-preserved : goal.loop-v-preserved
loop-v-preserved c =
    placed_more c.args.vertices c.args.root c.loop-v.v c.vertex_of.result c.get.result c.args.values.now
    c.loop-v.places.items c.requires.root (omega (arith, c.loop-v-test.true)) c.vertex_of.ensures c.get.ensures
    c.loop-v.invariant

pub returns : goal.returns
returns c =
    placed_all c.args.vertices c.args.root c.loop-v.v c.args.values.now c.loop-v.places.items c.requires.count
    (omega (arith, c.requires.count, c.loop-v-test.false)) c.loop-v.invariant
