use Rattle.std.proofs.Common.{◌++◌, ◌∙◌, ℕ, List, [], ap, arith}
use Rattle.run_cert.specs.Heads.{row_text}
use Rattle.run_cert.proofs.JoinedMore.{joined_more}
use Rattle.run_cert.proofs.rows_text.push_joined_rows.Goals as goal

pub loop-v-preserved : goal.loop-v-preserved
loop-v-preserved c =
    let rows = c.args.rows.now in
    let v = c.loop-v.v in
    joined_more 59 row_text rows v [] c.args.out.now c.loop-v.out c.push_sign.new.out c.push_row.new.out
    (omega arith)
    c.loop-v.invariant c.in_ok-push_sign.ensures
    (c.in_ok-push_row.ensures ∙ ap (λ (r : List ℕ). c.push_sign.new.out ++ row_text r) c.row.ensures.row)
