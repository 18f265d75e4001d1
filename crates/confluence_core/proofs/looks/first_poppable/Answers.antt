use Rattle.std.proofs.Common.{IfOk, MatchOption, sym, ap, ap₂, subst, ◌∙◌}
use Rattle.pop_model.specs.Stacks.{StackTable}
use Rattle.pop_model.specs.Families.{Family}
use Rattle.pop_model.specs.Instances.{Instance}
use Rattle.pop_model.specs.Runs.{IsEnd, IsFirstPoppable}
use Rattle.pop_instance.specs.Family.{family_of}
use Rattle.confluence_core.specs.Stuck.{event_of}
use Rattle.confluence_core.proofs.looks.first_poppable.Goals as goal

-- the instance of stacks and a family
abbrev instance_of : StackTable → Family → Instance
instance_of s family = record { stacks = s; family = family }

pub returns-in-Listed-clause-first : goal.returns-in-Listed-clause-first
returns-in-Listed-clause-first c =
    let at = c.args.cursors.now in
    subst (λ (i : Instance). IfOk c.first_poppable_listed.result (λ found. MatchOption found (IsEnd i at)
    (λ e. IsFirstPoppable i at (event_of e))))
    (ap₂ instance_of c.stacks-stacks.ensures (sym (ap family_of c.in-Listed.is) ∙ c.family.ensures))
    c.first_poppable_listed.ensures.first

pub returns-in-Cycles-clause-first : goal.returns-in-Cycles-clause-first
returns-in-Cycles-clause-first c =
    let at = c.args.cursors.now in
    subst (λ (i : Instance). IfOk c.first_poppable_cycle.result (λ found. MatchOption found (IsEnd i at)
    (λ e. IsFirstPoppable i at (event_of e))))
    (ap₂ instance_of c.stacks-stacks.ensures (sym (ap family_of c.in-Cycles.is) ∙ c.family.ensures))
    c.first_poppable_cycle.ensures.first
