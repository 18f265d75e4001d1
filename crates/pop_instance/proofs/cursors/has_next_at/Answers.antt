use Rattle.std.proofs.Common.{◌<◌, ◌+◌, ℕ, arith, refl}
use Rattle.pop_model.specs.Stacks.{height_of}
use Rattle.pop_model.specs.Popping.{cursor}
use Rattle.pop_model.proofs.Members.{all_at, all_more, all_whole}
use Rattle.pop_instance.proofs.cursors.has_next_at.Goals as goal

pub loop-i-preserved : goal.loop-i-preserved
loop-i-preserved c =
    let P : ℕ × ℕ → Type 0 = λ p. cursor c.args.entries.now p.0 + 1 < height_of c.args.stacks.now p.0 in
    all_more P c.args.cube.now c.loop-i.i c.pair-v.result c.pair-v.ensures c.loop-i.invariant
    (c.if-not-has_entry_behind.ensures.0 refl)

pub returns : goal.returns
returns c =
    let P : ℕ × ℕ → Type 0 = λ p. cursor c.args.entries.now p.0 + 1 < height_of c.args.stacks.now p.0 in
    (λ yes'. all_whole P c.args.cube.now c.loop-i.i (omega arith) c.loop-i.invariant, λ all. refl)

pub returns-then-not-has_entry_behind : goal.returns-then-not-has_entry_behind
returns-then-not-has_entry_behind c =
    let P : ℕ × ℕ → Type 0 = λ p. cursor c.args.entries.now p.0 + 1 < height_of c.args.stacks.now p.0 in (
      λ yes'. cc,
      λ all. c.if-not-has_entry_behind.ensures.1
          (all_at P c.args.cube.now c.loop-i.i c.pair-v.result c.pair-v.ensures all),
    )
