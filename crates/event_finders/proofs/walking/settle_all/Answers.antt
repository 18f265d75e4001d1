use Rattle.std.proofs.Common.{arith, ◌≡◌, ℕ, length, ap, ◌∙◌}
use Rattle.pop_model.specs.Popping.{variables}
use Rattle.claim_words.specs.Openings.{is_listed}
use Rattle.claim_words.specs.declared.view.View.{View}
use Rattle.claim_words.specs.Passes.{view, opening_of}
use Rattle.event_finders.proofs.TrailReleases.{cut, cut_none, cut_next, cut_once, cut_settled, cut_may, settled_to, settled_none}
use Rattle.event_finders.proofs.walking.settle_all.Goals as goal

pub loop-walker-init : goal.loop-walker-init
loop-walker-init c = record {
  pass = c.requires.pass;
  spare = c.requires.walking.spare;
  view = settled_none (view c.args.pass.now) (length c.args.walker.now.path)
      (omega (arith, ap length c.requires.walking.stands.held));
  walker = cut_none c.args.walker.now;
  sole = c.requires.walking.sole;
}

pub settle-requires-clause-held : goal.settle-requires-clause-held
settle-requires-clause-held c =
    let i = c.loop-walker.invariant in
    let e = c.pop-v.ensures in
    cut_once (view c.args.pass.now) c.args.walker.now c.loop-walker.walker c.pop-v.new.self c.pop-v.result
    (ap variables c.requires.walking.stands.held) i.walker e.path e.count c.len.ensures.trail (view c.loop-walker.pass)
    (ap (λ (v : View). v.held) i.view)

pub settle-requires-clause-cycles : goal.settle-requires-clause-cycles
settle-requires-clause-cycles c = ap is_listed c.requires.walking.table.family

pub settle-requires-clause-may : goal.settle-requires-clause-may
settle-requires-clause-may c =
    let i = c.loop-walker.invariant in
    let e = c.pop-v.ensures in
    let stands = c.requires.walking.stands in
    cut_may (view c.args.pass.now) c.args.walker.now c.loop-walker.walker c.pop-v.new.self c.pop-v.result
    (ap variables stands.held) i.walker e.path e.count c.len.ensures.trail (opening_of c.args.board.now)
    (view c.loop-walker.pass) stands c.requires.may i.view

pub loop-walker-preserved : goal.loop-walker-preserved
loop-walker-preserved c =
    let i = c.loop-walker.invariant in
    let e = c.pop-v.ensures in
    let d : View = view c.args.pass.now in
    let old = c.args.walker.now in
    let tied = ap variables c.requires.walking.stands.held in
    record {
      pass = c.settle.ensures.pass;
      spare = omega (arith, i.spare, e.shorter, e.count, c.settle.ensures.spare);
      view = cut_settled d old c.loop-walker.walker c.pop-v.new.self c.pop-v.result tied i.walker e.path e.count
          c.len.ensures.trail _ _ i.view c.settle.ensures.step;
      walker = cut_next d old c.loop-walker.walker c.pop-v.new.self c.pop-v.result tied i.walker e.path e.count
          c.len.ensures.trail;
      sole = c.settle.ensures.sole;
    }

pub returns-clause-view : goal.returns-clause-view
returns-clause-view c =
    let i = c.loop-walker.invariant in
    let done : length c.loop-walker.walker.path ≡ 0 = omega (arith, c.loop-walker-test.false, c.len.ensures.len) in
    i.view ∙ ap (λ (n : ℕ). settled_to n (view c.args.pass.now)) done

pub returns-clause-walker : goal.returns-clause-walker
returns-clause-walker c =
    let i = c.loop-walker.invariant in
    let done : length c.loop-walker.walker.path ≡ 0 = omega (arith, c.loop-walker-test.false, c.len.ensures.len) in
    i.walker ∙ ap (λ (n : ℕ). cut n c.args.walker.now) done
