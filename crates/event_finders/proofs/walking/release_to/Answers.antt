use Rattle.std.proofs.Common.{arith, ◌≡◌, ◌<◌, ℕ, length, ap, ◌∙◌}
use Rattle.claim_words.specs.declared.view.View.{View}
use Rattle.claim_words.specs.Passes.{view}
use Rattle.event_finders.proofs.TrailLemmas.{variables_long}
use Rattle.event_finders.proofs.HeldEnds.{released_to, released_none}
use Rattle.event_finders.proofs.TrailReleases.{cut, cut_none, cut_next, cut_once, cut_released}
use Rattle.event_finders.proofs.walking.release_to.Goals as goal

pub loop-walker-init : goal.loop-walker-init
loop-walker-init c =
    let held = (view c.args.pass.now).held in
    let path = c.args.walker.now.path in
    record {
      pass = c.requires.pass;
      spare = c.requires.spare;
      keep = c.requires.keep;
      view = released_none (view c.args.pass.now) (length path)
          (omega (arith, ap length c.requires.tied, variables_long held, variables_long path));
      walker = cut_none c.args.walker.now;
    }

pub release-requires-clause-held : goal.release-requires-clause-held
release-requires-clause-held c =
    let i = c.loop-walker.invariant in
    let e = c.pop-v.ensures in
    cut_once (view c.args.pass.now) c.args.walker.now c.loop-walker.walker c.pop-v.new.self c.pop-v.result c.requires.tied
    i.walker e.path e.count c.len.ensures.trail (view c.loop-walker.pass) (ap (λ (v : View). v.held) i.view)

pub loop-walker-preserved : goal.loop-walker-preserved
loop-walker-preserved c =
    let i = c.loop-walker.invariant in
    let e = c.pop-v.ensures in
    let d : View = view c.args.pass.now in
    let old = c.args.walker.now in
    let more : c.args.keep < c.len.result = c.loop-walker-test.true in
    record {
      pass = c.release.ensures.pass;
      spare = omega (arith, i.spare, e.shorter, e.count, c.release.ensures.spare);
      keep = omega (arith, more, c.len.ensures.len, e.shorter);
      view = cut_released d old c.loop-walker.walker c.pop-v.new.self c.pop-v.result c.requires.tied i.walker e.path
          e.count c.len.ensures.trail _ _ i.view c.release.ensures.step;
      walker = cut_next d old c.loop-walker.walker c.pop-v.new.self c.pop-v.result c.requires.tied i.walker e.path
          e.count c.len.ensures.trail;
    }

pub returns-clause-view : goal.returns-clause-view
returns-clause-view c =
    let i = c.loop-walker.invariant in
    let done : length c.loop-walker.walker.path ≡ c.args.keep = omega
    (arith, i.keep, c.loop-walker-test.false, c.len.ensures.len) in
    i.view ∙ ap (λ (n : ℕ). released_to n (view c.args.pass.now)) done

pub returns-clause-walker : goal.returns-clause-walker
returns-clause-walker c =
    let i = c.loop-walker.invariant in
    let done : length c.loop-walker.walker.path ≡ c.args.keep = omega
    (arith, i.keep, c.loop-walker-test.false, c.len.ensures.len) in
    i.walker ∙ ap (λ (n : ℕ). cut n c.args.walker.now) done
