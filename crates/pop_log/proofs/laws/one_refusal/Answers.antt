use Rattle.pop_log.proofs.OneRefusal.{one_refusal}
use Rattle.pop_log.proofs.laws.one_refusal.Goals as goal

pub returns : goal.returns
returns c = λ names.
    one_refusal names c.args.instance.now c.numbers_fit.ensures.instance c.numbers_fit.ensures.numbers
