use Rattle.std.proofs.Common.{◌≡◌, false, refl}
use Rattle.told_runs.specs.Outcomes.Outcome.{Refused}
use Rattle.job_subjects.specs.Refused.{AreClashed}
use Rattle.job_subjects.proofs.Carrying.{refused_by}
use Rattle.top_call.specs.Checks.{ComesOfFormula}
use Rattle.top_call.proofs.Carrying.{refused_result}
use Rattle.told_runs.specs.Outcomes.Outcome.{Extremal}
use Rattle.top_call.proofs.checking.check_formula.Goals as goal

-- two events clash
pub returns-in_err-refuse_clash : goal.returns-in_err-refuse_clash
returns-in_err-refuse_clash c =
    let e = c.in_err-refuse_clash.field-0.0 in
    refused_result (ComesOfFormula c.args.formula.now) c.from_residual-in_err-refuse_clash.result e
    c.from_residual-in_err-refuse_clash.ensures.1
    (refused_by (λ r. (false ≡ false) × AreClashed c.in_ok-events.events r)
    (λ r. ComesOfFormula c.args.formula.now (Refused r)) e
    (λ r h. record { events = c.in_ok-events.events; of_formula = c.in_ok-events.ensures.events; clash = h.1 })
    c.in_err-refuse_clash.ensures.clash)

pub returns : goal.returns
returns c = (
  Extremal c.count.result,
  record {
    events = c.in_ok-events.events;
    of_formula = c.in_ok-events.ensures.events;
    extremal = c.in_ok-refuse_clash.ensures.extremal refl;
    size = c.count.ensures.count;
  },
  record { status_is = c.in_ok-told_in_line.ensures.status; out_is = c.in_ok-told_in_line.ensures.text },
)
