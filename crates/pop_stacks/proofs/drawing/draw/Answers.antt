use Rattle.std.proofs.Common.{◌≡◌, ◌+◌, ◌-◌, ◌*◌, ◌^◌, ◌<◌, ℕ, suc, length, get_or, arith}
use Rattle.pop_stacks.proofs.DrawsLemmas.{rises_at, unit_sums, drawn}
use Rattle.pop_stacks.proofs.drawing.draw.Goals as goal

pub scale-m-requires : goal.scale-m-requires
scale-m-requires c =
    let some = c.requires.some in
    rises_at 0 c.args.sums.now (length c.args.sums.now - 1) c.requires.rising (omega arith)

pub returns-then-total-sums-clause-value : goal.returns-then-total-sums-clause-value
returns-then-total-sums-clause-value c =
    let sums = c.args.sums.now in
    let m = c.scale-m.result in
    let all : get_or sums (length sums - 1) 0 ≡ length sums = c.if-total-sums.true in
    let within : m < length sums = let below = c.scale-m.ensures.below in omega (arith, below, all) in
    let at : (k : ℕ) → k < length sums → get_or sums k 0 ≡ suc k =
    λ k below. unit_sums sums k c.requires.rising below all in
    drawn sums (c.args.low + 2 ^ 32 * c.args.high) m m c.requires.some c.requires.rising c.scale-m.ensures.scaled within
    (let e = at m within in omega (arith, e))
    (λ k less. let e = at k (omega arith) in omega (arith, e))

pub returns-clause-value : goal.returns-clause-value
returns-clause-value c =
    drawn c.args.sums.now (c.args.low + 2 ^ 32 * c.args.high) c.scale-m.result c.first_above.result
    c.requires.some c.requires.rising c.scale-m.ensures.scaled
    c.first_above.ensures.within c.first_above.ensures.above c.first_above.ensures.least
