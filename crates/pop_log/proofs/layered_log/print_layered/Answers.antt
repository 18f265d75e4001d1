use Rattle.std.proofs.Common.{◌≡◌, List, All, map, refl, sym, ap, subst, ◌∙◌}
use Rattle.std.proofs.lemmas.Result.{IfOk-weaker}
use Rattle.pop_model.specs.Popping.{NamesBelow}
use Rattle.pop_model.specs.Logs.{LogRecord}
use Rattle.pop_model.specs.Runs.{start_of}
use Rattle.pop_model.specs.Stacks.{variables_of}
use Rattle.pop_log.specs.LayeredTexts.{placed_text, IsLayeredText}
use Rattle.pop_log.specs.Layers.{Placed}
use Rattle.pop_log.proofs.LayeredLaws.{layered_is_legal}
use Rattle.pop_log.proofs.LayeredPrinting.{records_below}
use Rattle.pop_log.proofs.UnitEvents.{family_cubes}
use Rattle.pop_log.proofs.layered_log.print_layered.Goals as goal

-- the variables of a legal log are those of the stacks
pub of-requires : goal.of-requires
of-requires c =
    let i = c.args.instance.now in
    let count : c.count.result ≡ variables_of i.stacks = c.count.ensures.count ∙ ap variables_of c.stacks.ensures in
    subst (λ n. All (λ (r : LogRecord). NamesBelow r.event.cube n) c.args.log.now) (sym count)
    (records_below i c.units-units.ensures.instance (start_of i) c.args.log.now c.requires)

-- in their layered order its records are legal
pub print-requires : goal.print-requires
print-requires c =
    let i = c.args.instance.now in
    let placed : List Placed = c.in_ok-placed.placed in
    (layered_is_legal i (family_cubes i.family c.units-units.ensures.instance.family) (start_of i) c.args.log.now
    (map (λ (p : Placed). p.0) placed) c.requires
    (record { placed = placed; sorted = c.in_ok-placed.ensures; records = refl })).0

pub returns : goal.returns
returns c =
    let i = c.args.instance.now in
    let names = c.args.names.now in
    let placed : List Placed = c.in_ok-placed.placed in
    IfOk-weaker c.print.result (λ bytes. bytes.items ≡ placed_text names i placed)
    (λ bytes. IsLayeredText names i c.args.log.now bytes.items)
    (λ bytes is. record { placed = placed; sorted = c.in_ok-placed.ensures; text_is = is })
    c.print.ensures
