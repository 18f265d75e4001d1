use Rattle.std.proofs.Common.{◌≢◌, ◌∙◌, ℕ, ap, sym}
use Rattle.std.proofs.lemmas.Bool.{false≢true}
use Rattle.std.proofs.lemmas.List.Elements.{All-more}
use Rattle.pop_model.specs.Popping.{Cube}
use Rattle.pop_model.proofs.Members.{all_whole}
use Rattle.pop_instance.proofs.events.has_cube.Goals as goal

pub loop-other-preserved : goal.loop-other-preserved
loop-other-preserved c =
    let Other : ℕ × Cube → Type 0 = λ r. r.1 ≢ c.args.cube.now in
    let row = c.loop-other-item.result in
    All-more Other c.args.rows.now c.loop-other.other-index row c.loop-other-test.true c.loop-other.invariant
    (λ is. false≢true (sym c.if-eq.false ∙ c.eq.ensures.same.1 (ap (λ r. r.1) c.loop-other-item.is ∙ is)))

pub returns : goal.returns
returns c =
    let Other : ℕ × Cube → Type 0 = λ r. r.1 ≢ c.args.cube.now in
    let none = all_whole Other c.args.rows.now c.loop-other.other-index c.loop-other-test.false c.loop-other.invariant in
    (λ yes'. cc, λ has. absurd (none has.1.0 (has.0, c.args.cube.now) has.1.1 (ap (λ r. r.1) has.1.2)))
