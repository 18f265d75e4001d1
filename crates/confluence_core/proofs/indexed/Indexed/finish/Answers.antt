use Rattle.std.proofs.Common.{Result, Ok, Err, IfOk, arith}
use Rattle.confluence_core.proofs.indexed.Indexed.finish.Goals as goal

-- what follows from three things that hold of the value, if there is one
all_three : {T E : Type 0} (r : Result T E) (P Q R S : T → Type 0) → ((x : T) → P x → Q x → R x → S x) → IfOk r P
    → IfOk r Q → IfOk r R → IfOk r S
all_three (Ok x) P Q R S then' p q r = then' x p q r
all_three (Err e) P Q R S then' p q r = tt

pub returns-clause-end : goal.returns-clause-end
returns-clause-end c =
    let advanced = c.advance.ensures in
    all_three c.advance.result _ _ _ _
    (λ left end few stuck. record { none = end (omega (arith, few)); stuck_list = stuck })
    advanced.end advanced.few advanced.stuck_list
