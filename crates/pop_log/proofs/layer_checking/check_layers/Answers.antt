use Rattle.std.proofs.Common.{All, sym, ap, subst, ◌∙◌, ◌≡◌}
use Rattle.pop_model.specs.Stacks.{variables_of}
use Rattle.pop_model.specs.Popping.{NamesBelow}
use Rattle.pop_model.specs.Logs.{LogRecord}
use Rattle.pop_model.specs.Runs.{start_of}
use Rattle.pop_log.proofs.LayeredPrinting.{records_below}
use Rattle.pop_log.proofs.layer_checking.check_layers.Goals as goal

pub first_unlayered-requires-clause-below : goal.first_unlayered-requires-clause-below
first_unlayered-requires-clause-below c =
    let i = c.args.instance.now in
    let log = c.args.log.now in
    let count : c.count.result ≡ variables_of i.stacks = c.count.ensures.count ∙ ap variables_of c.stacks.ensures in
    subst (λ n. All (λ (r : LogRecord). NamesBelow r.event.cube n) log) (sym count)
    (records_below i c.units-units.ensures.instance (start_of i) log c.requires.legal)
