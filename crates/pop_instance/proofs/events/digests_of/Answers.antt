use Rattle.std.proofs.Common.{◌∙◌, ◌++◌, ◌∷◌, [], ap, ap₂, map, sym}
use Rattle.std.proofs.lemmas.List.{map_more, take_all}
use Rattle.pop_instance.specs.Digests.{digest}
use Rattle.pop_instance.proofs.events.digests_of.Goals as goal

pub loop-cube-preserved : goal.loop-cube-preserved
loop-cube-preserved c =
    let row = c.loop-cube-item.result in
    c.in_ok-push.ensures.items
    ∙ ap₂ (λ xs x. xs ++ x ∷ []) c.loop-cube.invariant (c.digest.ensures ∙ ap (λ r. digest r.1) c.loop-cube-item.is)
    ∙ sym (map_more (λ r. digest r.1) c.args.rows.now c.loop-cube.cube-index row c.loop-cube-test.true)

pub returns : goal.returns
returns c =
    c.loop-cube.invariant
    ∙ ap (map (λ r. digest r.1)) (take_all c.loop-cube.cube-index c.args.rows.now c.loop-cube-test.false)
