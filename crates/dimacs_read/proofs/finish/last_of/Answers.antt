use Rattle.std.proofs.Common.{◌≡◌, ◌-◌, length, arith, sym}
use Rattle.std.proofs.lemmas.Bool.{eqb-false}
use Rattle.dimacs_read.proofs.FinishedText.{last_at}
use Rattle.dimacs_read.proofs.finish.last_of.Goals as goal

pub returns : goal.returns
returns c = last_at 0 (length c.args.ends.now - 1) c.args.ends.now
    (let some : length c.args.ends.now ≡ 0 → ⊥ = eqb-false (length c.args.ends.now) 0 (sym c.if-is_empty.ensures) in
    omega arith)
