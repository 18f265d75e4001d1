use Rattle.std.proofs.Common.{◌+◌, ◌*◌, ◌^◌, ◌<◌, ℕ, arith, sym, subst}
use Rattle.pop_stacks.proofs.DrawsLemmas.{scaled-halves, scaled_below}
use Rattle.pop_stacks.proofs.drawing.scale.Goals as goal

pub returns : goal.returns
returns c =
    let total = c.args.total in
    let number = c.args.low + 2 ^ 32 * c.args.high in
    let low_fits = c.ranges.low.fits in
    let high_fits = c.ranges.high.fits in
    let halves = scaled-halves c.args.low c.args.high total in
    record {
      scaled = sym halves;
      below = subst (λ (n : ℕ). n < total) halves (scaled_below number total (omega arith) c.requires);
    }
