use Rattle.std.proofs.Common.{rules, arith, sym, subst, ap, ◌∙◌, ◌+◌, ℕ}
use Rattle.claim_words.specs.Maps.{In}
use Rattle.claim_words.specs.Tells.{SoleKnows}
use Rattle.claim_words.specs.declared.view.View.{View}
use Rattle.claim_words.specs.Passes.{view, opening_of}
use Rattle.event_finders.specs.WalkSteps.{Says, EndsAt}
use Rattle.event_finders.specs.Walks.{Closes}
use Rattle.event_finders.proofs.WalkGains.{known_from, gained_more, over_mine, end_mine, over_answer, stays_then}
use Rattle.event_finders.proofs.WalkSeen.{seen_round, seen_on, within_less}
use Rattle.event_finders.proofs.walks.walk_on.Goals as goal

pub returns-in-Over-clause-seen : goal.returns-in-Over-clause-seen
returns-in-Over-clause-seen c =
    let d : View = view c.args.pass.now in
    let e : View = view c.go_round.new.pass in
    within_less d e (c.loop.counter + 1) c.args.bounds.pops (omega (arith, c.loop-test.true))
    (seen_round d (view c.loop.pass) e c.loop.counter c.loop.walker.path c.loop.invariant.seen c.in-Over.ensures.seen)

pub returns-in-Over-clause-answer : goal.returns-in-Over-clause-answer
returns-in-Over-clause-answer c =
    let k = opening_of c.args.board.now in
    let d : View = view c.args.pass.now in
    let e : View = view c.go_round.new.pass in
    let n : ℕ = c.loop.counter in
    let i = c.loop.invariant in
    let says : Says e c.args.bounds.start c.in-Over.answer =
    subst (λ (v : ℕ). Says e v c.in-Over.answer) i.begins c.in-Over.ensures.round.4 in
    let ends : EndsAt k n d e c.args.bounds.start c.in-Over.answer =
    subst (λ (v : ℕ). EndsAt k n d e v c.in-Over.answer) i.begins (c.in-Over.ensures.traced n d i.traced) in
    over_answer k n d e c.args.bounds.start c.args.bounds.pops c.in-Over.answer c.loop-test.true
    (stays_then d (view c.loop.pass) e i.stays c.in-Over.ensures.stays).share says ends

pub returns-in-Over-clause-mine : goal.returns-in-Over-clause-mine
returns-in-Over-clause-mine c =
    let f = c.in-Over.ensures in
    over_mine (opening_of c.args.board.now) (view c.args.pass.now) (view c.loop.pass) (view c.go_round.new.pass)
    c.loop.counter c.loop.last c.args.bounds.start c.args.bounds.pops c.in-Over.answer _ f.seen.added
    c.loop.invariant.gained f.round.0 f.seen.seen c.loop-test.true f.round.4

pub returns-clause-mine : goal.returns-clause-mine
returns-clause-mine c =
    let k = opening_of c.args.board.now in
    let to = c.release_to.ensures.view in
    end_mine k (view c.args.pass.now) (view c.loop.pass) (view c.release_to.new.pass) c.loop.counter c.loop.last
    c.args.bounds.start c.args.bounds.pops c.loop.invariant.gained (ap (λ (v : View). v.mine) to)
    (ap (λ (v : View). v.seen) to) (omega arith) c.requires.pops

pub loop-preserved : goal.loop-preserved
loop-preserved c =
    let d : View = view c.args.pass.now in
    let e : View = view c.go_round.new.pass in
    let i = c.loop.invariant in
    let k = opening_of c.args.board.now in
    let f = c.in-Popped.ensures in
    let r = f.round in
    record {
      pass = f.pass;
      spare = f.spare;
      stays = stays_then d (view c.loop.pass) e i.stays f.stays;
      settled = λ p m. f.settled p (i.settled p m);
      stands = r.2;
      some = r.3;
      begins = r.4 ∙ i.begins;
      reader = f.reader ∙ i.reader;
      traced = f.traced c.loop.counter d i.traced;
      seen = seen_on d e (c.loop.counter + 1) c.go_round.new.walker.path
          (seen_round d (view c.loop.pass) e c.loop.counter c.loop.walker.path i.seen f.seen);
      gained = gained_more k d (view c.loop.pass) e c.loop.counter c.loop.last c.in-Popped.ticket
          c.args.bounds.start r.0 f.seen.added i.gained r.1 f.seen.seen
          (subst (λ (v : ℕ). Closes k c.loop.counter d e v r.0) i.begins (r.6 c.loop.counter d i.traced));
      sole = r.5;
    }

pub returns-clause-answer : goal.returns-clause-answer
returns-clause-answer c = subst SoleKnows (sym c.release_to.ensures.view) c.loop.invariant.sole

pub loop-init : goal.loop-init
loop-init c = record {
  pass = search rules;
  spare = search rules;
  stays = search rules;
  settled = known_from _ _ _ c.reserve.ensures.view c.claim_on.ensures.same;
  stands = search rules;
  some = search rules;
  begins = search rules;
  reader = search rules;
  traced = search rules;
  seen = search rules;
  gained = search rules;
  sole = search rules;
}

pub returns-in-Settled-clause-settled : goal.returns-in-Settled-clause-settled
returns-in-Settled-clause-settled c = known_from _ _ _ c.reserve.ensures.view c.claim_on.ensures.same

pub returns-in-Busy-clause-settled : goal.returns-in-Busy-clause-settled
returns-in-Busy-clause-settled c = known_from _ _ _ c.reserve.ensures.view c.claim_on.ensures.same

pub returns-in-Over-clause-settled : goal.returns-in-Over-clause-settled
returns-in-Over-clause-settled c p i = c.in-Over.ensures.settled p (c.loop.invariant.settled p i)

pub returns-clause-settled : goal.returns-clause-settled
returns-clause-settled c p i =
    subst (λ (v : View). In p v.settled) (sym c.release_to.ensures.view) (c.loop.invariant.settled p i)
