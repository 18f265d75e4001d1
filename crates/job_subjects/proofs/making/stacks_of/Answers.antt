use Rattle.std.proofs.Common.{inl, inr, subst}
use Rattle.job_subjects.specs.Refusals.{IsRefusal}
use Rattle.job_subjects.specs.StackFaults.{AreFaulty, AreFew, AreTooMany, RefusesStacks}
use Rattle.job_subjects.proofs.Carrying.{refused_error, refused_result_by}
use Rattle.job_subjects.proofs.making.stacks_of.Goals as goal

-- too many samples are asked for
pub returns-in_err-refuse_too_many-clause-refused : goal.returns-in_err-refuse_too_many-clause-refused
returns-in_err-refuse_too_many-clause-refused c =
    let refusal = c.in_err-refuse_too_many.field-0.0 in
    refused_error (IsRefusal (RefusesStacks c.args.facts.now c.args.origin c.args.weights c.args.asked))
    c.from_residual.result refusal c.from_residual.ensures.1
    (inr (inl (subst (λ n. AreTooMany c.args.asked n refusal) c.requires.count c.in_err-refuse_too_many.ensures.many)))

-- the stacks are refused
pub returns-clause-refused : goal.returns-clause-refused
returns-clause-refused c =
    let few = subst (AreFew c.args.asked) c.requires.count c.in_ok-refuse_too_many.ensures.few in
    refused_result_by (AreFaulty c.args.facts.now c.args.origin c.args.weights)
    (RefusesStacks c.args.facts.now c.args.origin c.args.weights c.args.asked) c.stacks.result
    (λ r faulty. inr (faulty, few)) c.stacks.ensures.fault
