use Rattle.std.proofs.Common.{◌≡◌, ap, sym, arith, refl, ◌∙◌}
use Rattle.std.proofs.lemmas.List.Elements.{All-more}
use Rattle.pop_model.proofs.Members.{all_whole}
use Rattle.graph_read.specs.declared.edge.Edge.{Edge}
use Rattle.cycle_popping.proofs.weights.all_weigh_one.Goals as goal

pub loop-i-preserved : goal.loop-i-preserved
loop-i-preserved c =
    All-more (λ (e : Edge). e.weight ≡ 1) c.args.graph.now.edges c.loop-i.i c.edge.result
    (omega (arith, c.edges-i-end.ensures.count)) c.loop-i.invariant
    (ap (λ (e : Edge). e.weight) (sym c.edge.ensures.edge) ∙ c.if-edge-ne1.false)

pub returns : goal.returns
returns c = (
  λ yes'. all_whole (λ (e : Edge). e.weight ≡ 1) c.args.graph.now.edges c.loop-i.i
      (omega (arith, c.edges-i-end.ensures.count)) c.loop-i.invariant,
  λ all. refl,
)
