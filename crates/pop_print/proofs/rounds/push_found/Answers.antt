use Rattle.std.proofs.Common.{◌++◌, length, All, sym, subst, ap, ◌∙◌, arith}
use Rattle.std.proofs.lemmas.Result.{on_ok_weaker}
use Rattle.pop_model.proofs.ValuesLemmas.{length-values_at}
use Rattle.pop_print.specs.declared.facts.Facts.TheVariants.{Formula as FormulaFacts}
use Rattle.pop_model.specs.Popping.{values_at}
use Rattle.pop_print.specs.Stuck.{HasNames}
use Rattle.pop_print.specs.Output.{stuck_lines}
use Rattle.pop_print.proofs.OutputLemmas.{found_some}
use Rattle.pop_print.proofs.EndLemmas.{stuck_named}
use Rattle.pop_print.proofs.rounds.push_found.Goals as goal

pub push_assignment_of-requires : goal.push_assignment_of-requires
push_assignment_of-requires c =
    let i = c.args.instance.now in
    let end = c.requires.end in
    ap length c.deref.ensures.value ∙ ap length end.values ∙ length-values_at i.stacks c.args.end.now.cursors
    ∙ end.count
    ∙ c.requires.pairs.count

pub push_stuck-requires : goal.push_stuck-requires
push_stuck-requires c =
    subst (λ family. All (HasNames family) c.args.end.now.stuck) (sym c.family.ensures)
    (stuck_named c.args.instance.now c.args.end.now.cursors c.args.end.now.stuck c.units-units.ensures.instance.units
    c.requires.end.stuck_list)

pub returns-in_ok-push-2 : goal.returns-in_ok-push-2
returns-in_ok-push-2 c =
    let facts = FormulaFacts c.args.variables in
    on_ok_weaker c.push_stuck.result
    (λ pushed. found_some facts c.args.instance.now.family
    (values_at c.args.instance.now.stacks c.args.end.now.cursors) c.args.end.now.stuck c.args.out.now c.push-else-len-eq0.new.self c.push_stuck.new.out (omega arith) c.in_ok-push-2.ensures
    (pushed ∙ ap (λ f. c.push-else-len-eq0.new.self ++ stuck_lines facts f c.args.end.now.stuck) c.family.ensures))
    c.push_stuck.ensures
