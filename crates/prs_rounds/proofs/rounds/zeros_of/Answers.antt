use Rattle.std.proofs.Common.{◌≡◌, ℕ, List, length, replicate, ap, sym, ◌∙◌, arith}
use Rattle.std.proofs.lemmas.List.{length-replicate, get_or-replicate}
use Rattle.std.proofs.lemmas.Result.{IfOk-weaker}
use Rattle.pop_model.specs.Stacks.{StackTable, IsTable, variables_of}
use Rattle.pop_model.specs.Popping.{AreWithin, cursor}
use Rattle.prs_rounds.proofs.rounds.zeros_of.Goals as goal

-- cursors at zero are below the heights
zeros_within : (s : StackTable) (at : List ℕ) → IsTable s → at ≡ replicate (variables_of s) 0 → AreWithin s at
zeros_within s at table are v below =
    let none : cursor at v ≡ 0 = ap (λ c. cursor c v) are ∙ get_or-replicate (variables_of s) v 0 0 below in
    let some = table.entries v below in
    omega (arith, none, some)

pub returns : goal.returns
returns c =
    let s = c.args.stacks.now in
    let to_zeros : (at : List ℕ) → at ≡ replicate c.count.result 0 → at ≡ replicate (variables_of s) 0 =
    λ at is. is ∙ ap (λ n. replicate n 0) c.count.ensures.count in
    record {
      zeros = IfOk-weaker c.zeros.result _ _ to_zeros c.zeros.ensures;
      count = IfOk-weaker c.zeros.result _ _
          (λ at is. sym (ap length (to_zeros at is) ∙ length-replicate (variables_of s) 0)) c.zeros.ensures;
      within = IfOk-weaker c.zeros.result _ _
          (λ at is. zeros_within s at c.count.ensures.table (to_zeros at is)) c.zeros.ensures;
    }
