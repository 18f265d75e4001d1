use Rattle.std.proofs.lemmas.Result.{IfOk-weaker}
use Rattle.prs_rounds.proofs.rounds.run_rounds.Goals as goal

pub returns : goal.returns
returns g c = record {
  end = IfOk-weaker c.rounds_by.result _ _ (λ left is. is.end) c.rounds_by.ensures;
  count = IfOk-weaker c.rounds_by.result _ _ (λ left is. is.count) c.rounds_by.ensures;
  within = IfOk-weaker c.rounds_by.result _ _ (λ left is. is.within) c.rounds_by.ensures;
  values = IfOk-weaker c.rounds_by.result _ _ (λ left is. is.values) c.rounds_by.ensures;
}
