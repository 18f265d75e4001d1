use Rattle.std.proofs.Common.{◌≡◌, false, ◌∙◌, length, refl, ap, subst, inl}
use Rattle.pop_model.specs.Stacks.{StackTable}
use Rattle.pop_stacks.specs.Faults.{IsSound}
use Rattle.pop_print.specs.declared.facts.Facts.TheVariants.{Formula as FormulaFacts}
use Rattle.job_subjects.specs.StackFaults.{AreFew, RefusesStacks}
use Rattle.job_subjects.specs.Refused.{AreClashed, RefusesFormula}
use Rattle.job_subjects.specs.Subjects.{pair_weights, instance_of, assignments}
use Rattle.job_subjects.proofs.Carrying.{passed_refusal}
use Rattle.job_subjects.proofs.RefusedForms.{events_refused, pairs_refused}
use Rattle.job_subjects.proofs.making.make_formula.Goals as goal

-- the stacks are refused
pub returns-in_err-stacks-clause-refused : goal.returns-in_err-stacks-clause-refused
returns-in_err-stacks-clause-refused c =
    let f = c.args.formula.now in
    let n = c.variables-variables.result in
    passed_refusal (RefusesStacks (FormulaFacts n) c.args.origin c.pairs.result c.args.count)
    (RefusesFormula c.args.may_clash c.args.origin c.args.count f) c.from_residual.result c.in_err-stacks.field-0.0
    c.from_residual.ensures.1
    (λ r h. inl (pairs_refused FormulaFacts c.args.origin c.args.count c.pairs.result n f.variables c.pairs.ensures
    c.variables-variables.ensures.count r h))
    c.in_err-stacks.ensures.refused

-- the events clash
pub returns-in_err-index-clause-refused : goal.returns-in_err-index-clause-refused
returns-in_err-index-clause-refused c =
    let f = c.args.formula.now in
    let weights : c.pairs.result ≡ pair_weights f.variables =
    c.pairs.ensures ∙ ap pair_weights c.variables-variables.ensures.count in
    passed_refusal (λ r. (c.args.may_clash ≡ false) × AreClashed c.in_ok-events.events r)
    (RefusesFormula c.args.may_clash c.args.origin c.args.count f) c.from_residual-in_err-index.result
    c.in_err-index.field-0.0 c.from_residual-in_err-index.ensures.1
    (events_refused c.args.may_clash c.args.origin c.args.count f c.in_ok-events.events
    (subst (IsSound c.args.origin) weights c.in_ok-stacks.ensures.sound)
    (subst (λ w. AreFew c.args.count (length w)) weights c.in_ok-stacks.ensures.few) c.in_ok-events.ensures.events)
    c.in_err-index.ensures.clash

pub returns-clause-made : goal.returns-clause-made
returns-clause-made c =
    let f = c.args.formula.now in
    let n = c.variables-variables.result in
    let count : n ≡ f.variables = c.variables-variables.ensures.count in
    let weights : c.pairs.result ≡ pair_weights f.variables = c.pairs.ensures ∙ ap pair_weights count in
    let events = c.in_ok-events.events in
    let same : c.of_events-instance.result ≡ instance_of c.args.origin n events =
    c.of_events-instance.ensures
    ∙ ap (λ (s : StackTable). instance_of s.origin n events) c.in_ok-stacks.ensures.made in
    record {
      subject = assignments f events;
      are = record {
        events = events;
        of_formula = c.in_ok-events.ensures.events;
        extremal = c.in_ok-index.ensures.extremal;
        is = refl;
      };
      over = record {
        facts_are = ap FormulaFacts count;
        instance_is = same ∙ ap (λ k. instance_of c.args.origin k events) count;
        sound = subst (IsSound c.args.origin) weights c.in_ok-stacks.ensures.sound;
        few = subst (λ w. AreFew c.args.count (length w)) weights c.in_ok-stacks.ensures.few;
      };
    }
