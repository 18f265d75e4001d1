use Rattle.pop_print.proofs.EndLemmas.{printable}
use Rattle.pop_print.proofs.printing.push_text.Goals as goal

pub push-requires-clause-end : goal.push-requires-clause-end
push-requires-clause-end c =
    let end = c.args.end.now in
    printable c.args.instance.now end.cursors end.stuck end.values c.units-units.ensures.instance.units c.requires.end
