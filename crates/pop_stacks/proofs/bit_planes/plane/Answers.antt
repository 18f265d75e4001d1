use Rattle.std.proofs.Common.{◌≡◌, ◌+◌, ◌/◌, ◌^◌, ◌∙◌, ℕ, bit_and, sym, subst, arith, get_or}
use Rattle.std.proofs.lemmas.Nat.Bits.{shr_and_one, bit_at-lt}
use Rattle.std.specs.Int.{bit_at}
use Rattle.pop_stacks.proofs.PlaneLemmas.{HasBits, one_placed, zero_placed}
use Rattle.pop_stacks.proofs.bit_planes.plane.Goals as goal
use Rattle.pop_stacks.proofs.bit_planes.plane.Goals.{then-values-i-eq1, else-values-i-eq1}

pub loop-i-preserved : goal.loop-i-preserved
loop-i-preserved g c =
    let i = c.loop-i.i in
    let bit : ℕ → ℕ = λ j. bit_at (get_or c.args.values.now j 0) c.args.bit in
    let read : bit_and (get_or c.args.values.now i 0 / 2 ^ c.args.bit) 1 ≡ bit i =
    shr_and_one (get_or c.args.values.now i 0) c.args.bit in
    let below = bit_at-lt (get_or c.args.values.now i 0) c.args.bit in
    elim c.if-values-i-eq1.branch [
      | then-values-i-eq1 w ↦
          subst (λ b. HasBits (i + 1) b bit) (sym w.bits-is)
          (one_placed i c.loop-i.bits bit (omega (arith, c.loop-i-test.true, c.requires.few)) (sym read ∙ w.if-values-i-eq1.true) c.loop-i.invariant)
      | else-values-i-eq1 w ↦
          subst (λ b. HasBits (i + 1) b bit) (sym w.bits-is)
          (zero_placed i c.loop-i.bits bit (omega (arith, below, read, w.if-values-i-eq1.false)) c.loop-i.invariant)
    ]
