use Rattle.std.proofs.Common.{inr, ◌≡◌, ◌<◌, ◌/◌, [], ◌∷◌, length, sym, subst, ◌∙◌, refl}
use Rattle.std.proofs.lemmas.List.{length-replicate}
use Rattle.pop_model.specs.Extremal.{IsExtremal}
use Rattle.pop_model.specs.Stacks.{height_of}
use Rattle.pop_model.specs.Instances.{Instance}
use Rattle.dimacs_read.specs.Cnf.{Cnf}
use Rattle.dimacs_read.specs.Falsifying.{AreEventsOf}
use Rattle.dimacs_read.specs.Literals.{cnf_in}
use Rattle.pop_batch.specs.Parts.{CanStart}
use Rattle.array_calls.specs.Assignments.{HasClashOf, RefusesExtremal}
use Rattle.array_calls.specs.Draws.{given}
use Rattle.array_calls.specs.Values.{LeavesValues, pairs_under, value_arrays}
use Rattle.array_calls.proofs.FormulaCarrying.{passed_formula}
use Rattle.array_calls.proofs.ValueRows.{pairs_can_start}
use Rattle.array_calls.proofs.assigning.assignments.Goals as goal

pub put_value_samples-requires-clause-start : goal.put_value_samples-requires-clause-start
put_value_samples-requires-clause-start c =
    let d = c.args.draw in
    let n = c.args.asked.variables in
    let i : Instance = pairs_under d.key d.height n c.in_ok-events.events in
    subst (λ (x : Instance). CanStart x (given d.from.now 0)) (sym (c.with-samples.ensures ∙ c.in_ok-instance.ensures))
    (pairs_can_start i n d.height d.from.now (length-replicate n (1 ∷ 1 ∷ [])) (λ v. refl) c.requires.from)

pub put_value_samples-requires-clause-tall : goal.put_value_samples-requires-clause-tall
put_value_samples-requires-clause-tall c =
    λ v. subst (λ (x : Instance). 0 < height_of x.stacks v) (sym (c.with-samples.ensures ∙ c.in_ok-instance.ensures))
    c.requires.some

pub returns-in_err-check_extremal-clause-refused : goal.returns-in_err-check_extremal-clause-refused
returns-in_err-check_extremal-clause-refused c =
    let a = c.args.asked in
    let f : c.in_ok-formula.formula ≡ cnf_in a.variables a.literals.now = c.in_ok-formula.ensures.formula in
    let events = c.in_ok-events.events in
    passed_formula (HasClashOf events) (RefusesExtremal a.variables a.literals.now)
    c.from_residual-in_err-check_extremal.result c.in_err-check_extremal.field-0.0
    c.from_residual-in_err-check_extremal.ensures.1
    (λ refusal clash. inr (
      c.in_ok-formula.ensures.clauses,
      record {
        events = events;
        of_formula = subst (λ (g : Cnf). AreEventsOf g.clauses events) f c.in_ok-events.ensures.events;
        clash = clash;
      },
    )) c.in_err-check_extremal.ensures.refused

pub returns-clause-leaves : goal.returns-clause-leaves
returns-clause-leaves c =
    let a = c.args.asked in
    let d = c.args.draw in
    let n = c.put_value_samples.new in
    let f : c.in_ok-formula.formula ≡ cnf_in a.variables a.literals.now = c.in_ok-formula.ensures.formula in
    let i = c.in_ok-instance.instance in
    let events = c.in_ok-events.events in
    let old = value_arrays c.args.values.now c.args.useds.now c.args.counts.now in
    let new = value_arrays n.values n.useds n.counts in
    let count = length c.args.counts.now / 2 in
    record {
      instance = i;
      events = record {
        events = events;
        of_formula = subst (λ (g : Cnf). AreEventsOf g.clauses events) f c.in_ok-events.ensures.events;
        is = c.in_ok-instance.ensures;
      };
      extremal = subst (λ (j : Instance). IsExtremal j.family) (sym c.in_ok-instance.ensures)
          c.in_ok-check_extremal.ensures.extremal;
      rows = subst (LeavesValues i a.variables d.first d.from.now d.budget count old new)
          (sym c.outcome_of.ensures.stopped)
          (subst (λ (j : Instance). LeavesValues j a.variables d.first d.from.now d.budget count old new
          c.in_ok-stopped.stopped) c.with-samples.ensures c.in_ok-stopped.ensures.leaves);
    }
