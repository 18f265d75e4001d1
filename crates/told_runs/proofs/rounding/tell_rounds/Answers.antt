use Rattle.std.proofs.Common.{refl}
use Rattle.pop_model.specs.Stacks.{variables_of}
use Rattle.pop_print.specs.declared.facts.Facts.TheVariants.{Formula as FormulaFacts}
use Rattle.told_runs.specs.Outcomes.Outcome.{Rounded}
use Rattle.told_runs.proofs.rounding.tell_rounds.Goals as goal

pub returns : goal.returns
returns g c =
    let end = c.in_ok-end.end in
    let i = c.args.instance.now in (
      Rounded (FormulaFacts (variables_of i.stacks)) i end.cursors end.rounds end.stuck end.short,
      (refl, refl, c.in_ok-end.ensures.end),
      record { status_is = c.status_by-status.ensures; out_is = c.in_ok-text.ensures },
    )
