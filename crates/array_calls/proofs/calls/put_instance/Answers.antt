use Rattle.std.proofs.Common.{List, ℕ, ◌∙◌, sym, subst}
use Rattle.pop_model.specs.Instances.{Instance}
use Rattle.pop_model.specs.Extremal.{IsExtremal}
use Rattle.pop_model.proofs.CycleFamily.{cycles_extremal}
use Rattle.cycle_popping.specs.Trees.{heads_of_tree}
use Rattle.pop_batch.specs.Parts.{CanStart}
use Rattle.array_calls.specs.Draws.{given}
use Rattle.array_calls.specs.Trees.{trees_under}
use Rattle.array_calls.proofs.TreeParts.{trees_can_start}
use Rattle.array_calls.proofs.calls.put_instance.Goals as goal

pub of-requires-clause-extremal : goal.of-requires-clause-extremal
of-requires-clause-extremal c =
    subst (λ (i : Instance). IsExtremal i.family) (sym c.requires.trees)
    (cycles_extremal (heads_of_tree c.args.ends.now c.args.root))

pub put_samples-requires-clause-trees : goal.put_samples-requires-clause-trees
put_samples-requires-clause-trees c = record {
  key = c.args.draw.key;
  height = c.args.draw.height;
  is = c.in_ok-samples.ensures ∙ c.requires.trees;
}

pub put_samples-requires-clause-start : goal.put_samples-requires-clause-start
put_samples-requires-clause-start c =
    let d = c.args.draw in
    let i : Instance = trees_under d.key d.height c.args.ends.now c.args.root in
    subst (λ (x : Instance). CanStart x (given c.deref.result.now 0)) (sym (c.in_ok-samples.ensures ∙ c.requires.trees))
    (subst (λ (l : List ℕ). CanStart i (given l 0)) (sym (c.deref.ensures.value ∙ c.in_ok-from.ensures))
    (trees_can_start c.args.ends.now c.args.root d.height d.key d.from.now c.requires.root c.requires.from))
