use Rattle.std.proofs.Common.{◌++◌, ◌∙◌, ℕ, decimal, ap}
use Rattle.run_cert.proofs.JoinedMore.{joined_more}
use Rattle.run_cert.proofs.rows_text.push_row.Goals as goal

pub loop-k-preserved : goal.loop-k-preserved
loop-k-preserved c =
    let row = c.args.row.now in
    let k = c.loop-k.k in
    joined_more 44 decimal row k 0 c.args.out.now c.loop-k.out c.push_sign.new.out c.push_number.new.self
    c.loop-k-test.true c.loop-k.invariant c.in_ok-push_sign.ensures
    (c.in_ok-push_number.ensures ∙ ap (λ (n : ℕ). c.push_sign.new.out ++ decimal n) c.from.ensures)
