use Rattle.std.proofs.Common.{ℕ, List, Option, refl, ap, ◌∙◌}
use Rattle.pop_model.specs.Families.Family.{Cycles}
use Rattle.pop_model.specs.Instances.{Instance}
use Rattle.pop_model.specs.Stacks.{StackTable}
use Rattle.job_subjects.proofs.making.make_cycles.Goals as goal

-- the instance of these cycles over stacks
abbrev instance_with : StackTable → List (List (Option ℕ)) → Instance
instance_with stacks heads = record { stacks = stacks; family = Cycles heads }

pub returns-clause-made : goal.returns-clause-made
returns-clause-made c = record {
  facts_are = refl;
  instance_is = c.of_arrows-instance.ensures
      ∙ ap (λ (s : StackTable). instance_with s c.args.arrows) c.in_ok-stacks.ensures.made;
  sound = c.in_ok-stacks.ensures.sound;
  few = c.in_ok-stacks.ensures.few;
}
