use Rattle.std.proofs.Common.{◌+◌, ◌<◌, All, refl, subst}
use Rattle.std.proofs.lemmas.List.Elements.{All-more}
use Rattle.std.proofs.lemmas.List.{take_all}
use Rattle.pop_model.specs.Stacks.{height_of}
use Rattle.pop_model.specs.Popping.{cursor}
use Rattle.confluence_core.proofs.loops.have_next.Goals as goal

pub loop-v-preserved : goal.loop-v-preserved
loop-v-preserved c =
    All-more (λ v. cursor c.args.cursors.now v + 1 < height_of c.args.current.now.stacks v) c.args.members.now
    c.loop-v.v-index 0 c.loop-v-test.true c.loop-v.invariant (c.if-not-has_next.ensures.0 refl)

pub returns : goal.returns
returns c = (
  λ _. subst (All (λ v. cursor c.args.cursors.now v + 1 < height_of c.args.current.now.stacks v))
      (take_all c.loop-v.v-index c.args.members.now c.loop-v-test.false) c.loop-v.invariant,
  λ _. refl,
)
