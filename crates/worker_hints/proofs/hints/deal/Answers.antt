use Rattle.std.proofs.Common.{◌*◌, ◌/◌, ◌+◌, arith}
use Rattle.std.proofs.Math.Nat.{div-mul-le_self, add-mul}
use Rattle.std.proofs.lemmas.Nat.{le-div}
use Rattle.worker_hints.proofs.hints.deal.Goals as goal

-- a block ends where it begins, or behind
pub overflow_sub-end : goal.overflow_sub-end
overflow_sub-end g c =
    let number = c.args.worker.number in
    let workers = c.args.worker.workers in
    let units = c.args.units in
    let low = div-mul-le_self (number * units) workers in
    let more = add-mul number 1 units in
    let some = c.requires.worker in
    let below = le-div (number * units / workers) ((number + 1) * units) workers (omega (arith, some)) (omega (arith, low, more)) in
    omega (arith, below, c.block_start-first.ensures.start, c.block_start-end.ensures.start)
