use Rattle.std.proofs.Common.{◌≡◌, ℕ, ◌+◌, ◌-◌, ◌<◌, length, slice_index, Contains, subst, arith}
use Rattle.std.proofs.lemmas.List.Elements.{Contains-get_or}
use Rattle.extremal_check.proofs.least_clash.has_all_later.Goals as goal

pub returns : goal.returns
returns c = λ j later below.
    let row = c.args.row.now in
    let k : ℕ = j - (c.args.i + 1) in
    let within : k < length row = omega (arith, later, below) in
    let here = c.loop-k.invariant k (omega (arith, within)) in
    let is : slice_index row k ≡ j = omega (arith, here, later) in
    subst (Contains row) is (Contains-get_or row k 0 within)
