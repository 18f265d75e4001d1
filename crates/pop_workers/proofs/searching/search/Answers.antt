use Rattle.std.proofs.Common.{◌≡◌, false, rules, subst, sym, ap, ◌∙◌}
use Rattle.pop_model.specs.Instances.{Instance}
use Rattle.claim_words.specs.Openings.{is_listed}
use Rattle.claim_words.specs.Passes.{view, opening_of}
use Rattle.pop_workers.specs.Attempts.{FindsAlone}
use Rattle.pop_workers.proofs.Looks.{unit_goes, unit_finds, walk_finds}
use Rattle.pop_workers.proofs.searching.search.Goals as goal

pub returns-in_default-clause-alone : goal.returns-in_default-clause-alone
returns-in_default-clause-alone g c sole =
    let k = opening_of c.args.board.now in
    let cycles : is_listed c.args.shared.now.instance.now.family ≡ false = search rules in
    subst (FindsAlone k (view c.args.pass.now) (view c.walk_on.new.pass) c.args.unit c.args.pops) (sym c.found.ensures)
    (walk_finds k (view c.args.pass.now) (view c.walk_on.new.pass) c.args.unit c.args.pops c.walk_on.ensures.stays.share
    c.walk_on.ensures.pass.0.1 (ap (λ (i : Instance). is_listed i.family) c.requires.shared.instance ∙ cycles)
    c.requires.pops sole c.walk_on.result c.walk_on.ensures.mine c.walk_on.ensures.answer)

pub returns-clause-goes : goal.returns-clause-goes
returns-clause-goes g c =
    unit_goes c.args.shared.now.instance.now (opening_of c.args.board.now) (view c.args.pass.now)
    (view c.try_unit.new.pass) c.args.unit c.try_unit.ensures.share c.try_unit.ensures.pass.0.1 c.try_unit.result
    c.try_unit.ensures.answer c.try_unit.ensures.records

pub returns-clause-alone : goal.returns-clause-alone
returns-clause-alone g c sole =
    let k = opening_of c.args.board.now in
    subst (FindsAlone k (view c.args.pass.now) (view c.try_unit.new.pass) c.args.unit c.args.pops) (sym c.found-2.ensures)
    (unit_finds c.args.shared.now.instance.now k (view c.args.pass.now) (view c.try_unit.new.pass) c.args.unit
    c.try_unit.ensures.share c.try_unit.ensures.pass.0.1 c.try_unit.result c.try_unit.ensures.answer
    c.try_unit.ensures.records c.try_unit.ensures.sole sole c.args.pops)
