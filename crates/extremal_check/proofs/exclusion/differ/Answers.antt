use Rattle.std.proofs.Common.{ℕ, All, arith}
use Rattle.std.proofs.lemmas.Bool.{false≢true}
use Rattle.std.proofs.lemmas.List.Elements.{All-contains}
use Rattle.pop_model.proofs.Members.{all_more, all_whole}
use Rattle.extremal_check.specs.Clashes.{DemandsOther}
use Rattle.extremal_check.proofs.exclusion.differ.Goals as goal

pub loop-i-preserved : goal.loop-i-preserved
loop-i-preserved c =
    let Agrees : ℕ × ℕ → Type 0 = λ p. DemandsOther c.args.other.now p → ⊥ in
    all_more Agrees c.args.cube.now c.loop-i.i c.pair-v.result c.pair-v.ensures c.loop-i.invariant
    (λ other. false≢true (c.if-demands_other.ensures.1 other))

pub returns : goal.returns
returns c =
    let Agrees : ℕ × ℕ → Type 0 = λ p. DemandsOther c.args.other.now p → ⊥ in
    let agree : All Agrees c.args.cube.now =
    all_whole Agrees c.args.cube.now c.loop-i.i (omega arith) c.loop-i.invariant in (
      λ h. absurd (false≢true h),
      λ (v, x, y, here, there, differ).
          absurd (All-contains Agrees c.args.cube.now (v, x) agree here (y, there, differ)),
    )
