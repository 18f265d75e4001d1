use Rattle.std.proofs.Common.{◌≡◌, ℕ, arith, refl, ◌∙◌}
use Rattle.pop_model.specs.Stacks.{value_at}
use Rattle.pop_model.specs.Popping.{cursor}
use Rattle.pop_model.proofs.Members.{all_at, all_more, all_whole}
use Rattle.pop_instance.proofs.cursors.occurs_at.Goals as goal

pub loop-i-preserved : goal.loop-i-preserved
loop-i-preserved c =
    let Agrees : ℕ × ℕ → Type 0 = λ p. value_at c.args.stacks.now p.0 (cursor c.args.entries.now p.0) ≡ p.1 in
    record {
      occurs = all_more Agrees c.args.cube.now c.loop-i.i c.pair-v.result c.pair-v.ensures c.loop-i.invariant.occurs
          (c.if-not-agrees.ensures.agrees.0 refl);
      reader = c.if-not-agrees.ensures.reader ∙ c.loop-i.invariant.reader;
    }

pub returns-clause-occurs : goal.returns-clause-occurs
returns-clause-occurs c =
    let Agrees : ℕ × ℕ → Type 0 = λ p. value_at c.args.stacks.now p.0 (cursor c.args.entries.now p.0) ≡ p.1 in
    (λ yes'. all_whole Agrees c.args.cube.now c.loop-i.i (omega arith) c.loop-i.invariant.occurs, λ all. refl)

pub returns-then-not-agrees-clause-occurs : goal.returns-then-not-agrees-clause-occurs
returns-then-not-agrees-clause-occurs c =
    let Agrees : ℕ × ℕ → Type 0 = λ p. value_at c.args.stacks.now p.0 (cursor c.args.entries.now p.0) ≡ p.1 in (
      λ yes'. cc,
      λ all. c.if-not-agrees.ensures.agrees.1
          (all_at Agrees c.args.cube.now c.loop-i.i c.pair-v.result c.pair-v.ensures all),
    )
