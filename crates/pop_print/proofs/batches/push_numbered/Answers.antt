use Rattle.pop_print.proofs.EndLemmas.{sample_printable}
use Rattle.pop_print.proofs.batches.push_numbered.Goals as goal

pub push-requires-clause-end : goal.push-requires-clause-end
push-requires-clause-end c =
    sample_printable c.args.instance.now c.args.j c.args.end.now c.units-units.ensures.instance.units c.requires.end
