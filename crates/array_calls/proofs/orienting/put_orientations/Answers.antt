use Rattle.std.proofs.Common.{◌∙◌, ◌<◌, [], ◌∷◌, length, sym, subst, refl}
use Rattle.std.proofs.lemmas.List.{length-replicate}
use Rattle.pop_model.specs.Stacks.{height_of}
use Rattle.pop_model.specs.Instances.{Instance}
use Rattle.pop_model.specs.Extremal.{IsExtremal}
use Rattle.sink_popping.proofs.OneDirection.{sinks_extremal}
use Rattle.pop_batch.specs.Parts.{CanStart}
use Rattle.array_calls.specs.Draws.{given}
use Rattle.array_calls.specs.Values.{pairs_under}
use Rattle.array_calls.proofs.ValueRows.{pairs_can_start}
use Rattle.array_calls.proofs.orienting.put_orientations.Goals as goal

pub of-requires-clause-extremal : goal.of-requires-clause-extremal
of-requires-clause-extremal c =
    let sinks = c.requires.sinks in
    subst (λ (i : Instance). IsExtremal i.family) (sym sinks.is)
    (sinks_extremal c.args.graph.now sinks.events sinks.of_graph)

pub put_value_samples-requires-clause-start : goal.put_value_samples-requires-clause-start
put_value_samples-requires-clause-start c =
    let d = c.args.draw in
    let sinks = c.requires.sinks in
    let n = length c.args.graph.now.edges in
    let i : Instance = pairs_under d.key d.height n sinks.events in
    subst (λ (x : Instance). CanStart x (given d.from.now 0)) (sym (c.in_ok-samples.ensures ∙ sinks.is))
    (pairs_can_start i n d.height d.from.now (length-replicate n (1 ∷ 1 ∷ [])) (λ v. refl) c.requires.from)

pub put_value_samples-requires-clause-tall : goal.put_value_samples-requires-clause-tall
put_value_samples-requires-clause-tall c =
    let sinks = c.requires.sinks in
    λ v. subst (λ (x : Instance). 0 < height_of x.stacks v) (sym (c.in_ok-samples.ensures ∙ sinks.is)) c.requires.some
