use Rattle.std.proofs.Common.{ap, ◌∙◌}
use Rattle.pop_model.specs.Stacks.{StackTable}
use Rattle.array_calls.proofs.TreeParts.{fits_tree}
use Rattle.array_calls.proofs.instances.tree_instance.Goals as goal

pub of_arrows-requires : goal.of_arrows-requires
of_arrows-requires c = record {
  fits = fits_tree c.in_ok-stacks.stacks c.args.ends.now c.args.root c.in_ok-arrows.arrows
      (ap (λ (s : StackTable). s.weights) c.in_ok-stacks.ensures.made ∙ c.in_ok-arrows.ensures.weights)
      c.in_ok-arrows.ensures.arrows;
}
