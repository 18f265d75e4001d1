use Rattle.std.proofs.Common.{rules, ◌≡◌, subst, ◌∙◌}
use Rattle.claim_words.specs.Passes.{view, opening_of}
use Rattle.pop_workers.specs.Attempts.{IsRound}
use Rattle.pop_workers.proofs.rounding.pops_nothing.Goals as goal

-- the round has come over all units
pub returns-clause-round : goal.returns-clause-round
returns-clause-round g c =
    let over : c.loop-unit.unit ≡ c.units-unit-end.result = search rules in
    subst (λ n. IsRound (opening_of c.args.board.now) (view c.args.pass.now) (view c.loop-unit.pass) n c.loop-unit.nothing)
    (over ∙ c.units-unit-end.ensures.units) c.loop-unit.invariant.round
