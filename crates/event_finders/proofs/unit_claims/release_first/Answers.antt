use Rattle.std.proofs.Common.{arith, ◌≡◌, ◌-◌, ℕ, ap, ◌∙◌, refl, length}
use Rattle.claim_words.specs.Passes.{view}
use Rattle.event_finders.proofs.TrailLemmas.{variables_long}
use Rattle.event_finders.proofs.HeldEnds.{released_to, released_none, unit_next}
use Rattle.std.proofs.lemmas.List.{length-take}
use Rattle.std.proofs.Common.{take}
use Rattle.event_finders.proofs.unit_claims.release_first.Goals as goal

pub loop-left-init : goal.loop-left-init
loop-left-init c =
    let held = (view c.args.pass.now).held in
    let first = take c.args.n c.args.cube.now in
    record {
      pass = c.requires.pass;
      few = omega arith;
      view = released_none (view c.args.pass.now) c.args.n (omega (
        arith,
        ap length c.requires.held,
        variables_long held,
        variables_long first,
        length-take c.args.n c.args.cube.now,
      ));
    }

pub release-requires-clause-held : goal.release-requires-clause-held
release-requires-clause-held c =
    let i = c.loop-left.invariant in
    (unit_next c.args.cube.now c.len-len.ensures.cube c.args.n (c.loop-left.left - 1) c.loop-left.left c.pair-v.result
    (view c.args.pass.now) (view c.loop-left.pass) _ c.requires.held (omega (arith, i.few, c.loop-left-test.true))
    (omega (arith, c.loop-left-test.true)) c.pair-v.ensures i.view refl).0

pub loop-left-preserved : goal.loop-left-preserved
loop-left-preserved c =
    let i = c.loop-left.invariant in
    record {
      pass = c.release.ensures.pass;
      few = omega (arith, i.few);
      view = (unit_next c.args.cube.now c.len-len.ensures.cube c.args.n (c.loop-left.left - 1) c.loop-left.left
          c.pair-v.result (view c.args.pass.now) (view c.loop-left.pass) _ c.requires.held
          (omega (arith, i.few, c.loop-left-test.true)) (omega (arith, c.loop-left-test.true)) c.pair-v.ensures i.view
          c.release.ensures.step).1;
    }

pub returns-clause-view : goal.returns-clause-view
returns-clause-view c =
    let done : c.loop-left.left ≡ 0 = omega (arith, c.loop-left-test.false) in
    c.loop-left.invariant.view ∙ ap (λ (n : ℕ). released_to n (view c.args.pass.now)) done
