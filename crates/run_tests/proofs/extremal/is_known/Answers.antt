use Rattle.std.proofs.Common.{ℕ, ◌<◌, arith}
use Rattle.pop_model.proofs.Members.{all_more, all_whole}
use Rattle.run_tests.proofs.extremal.is_known.Goals as goal

pub loop-i-preserved : goal.loop-i-preserved
loop-i-preserved c =
    let Below : ℕ × ℕ → Type 0 = λ p. p.0 < 10 in
    all_more Below c.args.cube.now c.loop-i.i c.pair.result c.pair.ensures c.loop-i.invariant (omega arith)

pub returns : goal.returns
returns c =
    let Below : ℕ × ℕ → Type 0 = λ p. p.0 < 10 in
    all_whole Below c.args.cube.now c.loop-i.i (omega arith) c.loop-i.invariant
