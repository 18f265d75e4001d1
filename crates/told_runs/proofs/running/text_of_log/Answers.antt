use Rattle.std.proofs.Common.{◌≡◌, All, sym, ap, subst, ◌∙◌}
use Rattle.pop_model.specs.Stacks.{variables_of}
use Rattle.pop_model.specs.Popping.{NamesBelow}
use Rattle.pop_model.specs.Logs.{LogRecord}
use Rattle.pop_model.specs.Runs.{start_of}
use Rattle.pop_log.proofs.LayeredPrinting.{records_below}
use Rattle.told_runs.proofs.ToldRuns.{in_order}
use Rattle.told_runs.proofs.running.text_of_log.Goals as goal

-- the variables of a legal log are those of the stacks
pub of-requires : goal.of-requires
of-requires g c =
    let i = c.args.named.now.instance.now in
    let count : c.count.result ≡ variables_of i.stacks = c.count.ensures.count ∙ ap variables_of c.stacks.ensures in
    subst (λ n. All (λ (r : LogRecord). NamesBelow r.event.cube n) c.args.log.now) (sym count)
    (records_below i c.units-units.ensures.instance (start_of i) c.args.log.now c.requires.legal)

pub text_of_layers-told-requires-clause-legal : goal.text_of_layers-told-requires-clause-legal
text_of_layers-told-requires-clause-legal g c =
    (in_order c.args.named.now.instance.now c.units-units.ensures.instance c.args.log.now c.in_ok-placed.placed c.requires.legal
    c.in_ok-placed.ensures).0

pub text_of_layers-told-requires-clause-leads : goal.text_of_layers-told-requires-clause-leads
text_of_layers-told-requires-clause-leads g c =
    c.requires.leads ∙ sym (in_order c.args.named.now.instance.now c.units-units.ensures.instance c.args.log.now
    c.in_ok-placed.placed c.requires.legal c.in_ok-placed.ensures).1

pub returns : goal.returns
returns g c = c.text_of_layers-told.ensures c.args.log.now c.in_ok-placed.ensures
