use Rattle.std.proofs.Common.{ap, subst, sym}
use Rattle.pop_model.specs.Families.{units_of}
use Rattle.pop_model.specs.Instances.{Instance, IsInstance}
use Rattle.claim_words.specs.Passes.{view, opening_of}
use Rattle.pop_workers.specs.Attempts.{IsRound}
use Rattle.pop_workers.proofs.Rounds.{fewer_left, round_ends}
use Rattle.pop_workers.proofs.rounding.round_off.Goals as goal

pub loop-smaller : goal.loop-smaller
loop-smaller g c =
    let k = opening_of c.args.board.now in
    let units = units_of c.args.shared.now.instance.now.family in
    let round = subst (IsRound k (view c.loop.pass) (view c.pops_nothing.new.pass) units) c.if-branch.false
    c.in_ok-pops_nothing.ensures.round in
    fewer_left k (view c.loop.pass) (view c.pops_nothing.new.pass) units
    (subst IsInstance (sym c.requires.shared.instance) c.loop.invariant.instance) c.loop.invariant.count round

pub returns-then-branch-clause-end : goal.returns-then-branch-clause-end
returns-then-branch-clause-end g c =
    let k = opening_of c.args.board.now in
    let units = units_of c.args.shared.now.instance.now.family in
    let round = subst (IsRound k (view c.loop.pass) (view c.pops_nothing.new.pass) units) c.if-branch.true
    c.in_ok-pops_nothing.ensures.round in
    record {
      sole = c.in_ok-pops_nothing.ensures.pass.sole;
      end = round_ends k (view c.loop.pass) (view c.pops_nothing.new.pass) units
          (sym (ap (λ (i : Instance). units_of i.family) c.requires.shared.instance)) round;
    }
