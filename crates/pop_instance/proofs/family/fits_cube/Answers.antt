use Rattle.std.proofs.Common.{◌<◌, ℕ, arith, refl}
use Rattle.pop_model.specs.Stacks.{variables_of, domain_of}
use Rattle.pop_model.proofs.Members.{all_more, all_whole}
use Rattle.pop_instance.proofs.family.fits_cube.Goals as goal

pub loop-i-preserved : goal.loop-i-preserved
loop-i-preserved c =
    let P : ℕ × ℕ → Type 0 = λ p. (p.0 < variables_of c.args.stacks.now) × (p.1 < domain_of c.args.stacks.now p.0) in
    all_more P c.args.cube.now c.loop-i.i c.pair-v.result c.pair-v.ensures c.loop-i.invariant
    (c.if-not-fits_pair.ensures.0 refl)

pub returns : goal.returns
returns c =
    let P : ℕ × ℕ → Type 0 = λ p. (p.0 < variables_of c.args.stacks.now) × (p.1 < domain_of c.args.stacks.now p.0) in
    (λ yes'. all_whole P c.args.cube.now c.loop-i.i (omega arith) c.loop-i.invariant, λ all. refl)
