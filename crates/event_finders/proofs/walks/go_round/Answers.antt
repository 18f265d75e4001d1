use Rattle.std.proofs.Common.{arith, ◌+◌, ℕ, length, take, sym, ap, subst, ◌∙◌}
use Rattle.std.proofs.lemmas.List.{length-take}
use Rattle.claim_words.specs.Maps.{In}
use Rattle.claim_words.specs.Tells.{SoleKnows}
use Rattle.claim_words.specs.declared.view.View.{View}
use Rattle.claim_words.specs.Passes.{view, opening_of}
use Rattle.event_finders.specs.Trails.{Trail}
use Rattle.event_finders.specs.Walks.{Traced}
use Rattle.claim_words.proofs.Memberships.{in_right}
use Rattle.event_finders.proofs.TrailLemmas.{stand_variable}
use Rattle.event_finders.proofs.WalkGains.{gains_none, gains_one}
use Rattle.event_finders.proofs.WalkRounds.{goes_on}
use Rattle.event_finders.proofs.WalkTraces.{trace_up, trace_same, trace_to_seen}
use Rattle.event_finders.proofs.walks.go_round.Goals as goal

pub returns-in-Ok-clause-spare : goal.returns-in-Ok-clause-spare
returns-in-Ok-clause-spare c =
    let f = c.in-Back.ensures.followed in
    let on = goes_on c.follow.ensures.walking.stands f.why.0 f.why.1 c.in-Ok.ensures.popped c.pop_loop.ensures.walker
    c.release_to.ensures.walker c.move_on.ensures.walker c.release_to.ensures.view c.move_on.ensures.trail in
    let cut = c.release_to.ensures.walker in
    omega (
      arith,
      c.release_to.ensures.spare,
      on.long,
      ap (λ (x : Trail). length x.path) cut,
      ap (λ (x : Trail). length (take (c.in-Back.place + 1) x.path)) c.pop_loop.ensures.walker,
      ap (λ (x : Trail). x.count) cut,
      ap (λ (x : Trail). x.count) c.pop_loop.ensures.walker,
      ap (λ (x : Trail). x.count) on.is,
    )

pub returns-in-Ok-clause-round : goal.returns-in-Ok-clause-round
returns-in-Ok-clause-round c =
    let d : View = view c.follow.new.pass in
    let e : View = view c.pop_loop.new.pass in
    let g : View = view c.release_to.new.pass in
    let t : Trail = c.follow.new.walker in
    let f = c.in-Back.ensures.followed in
    let p = c.in-Ok.ensures.popped in
    let on = goes_on c.follow.ensures.walking.stands f.why.0 f.why.1 p c.pop_loop.ensures.walker
    c.release_to.ensures.walker c.move_on.ensures.walker c.release_to.ensures.view c.move_on.ensures.trail in
    let g_is = c.release_to.ensures.view in
    let begins = sym (stand_variable t.path 0) ∙ ap (λ (x : ℕ × ℕ). x.0) f.begins
    ∙ stand_variable c.args.walker.now.path 0 in (
      p.popped,
      gains_one (opening_of c.args.board.now) (view c.args.pass.now) d e g t.path c.in-Back.place c.in-Ok.ticket
          c.follow.ensures.same.mine p (ap (λ (v : View). v.mine) g_is),
      on.stands,
      omega (arith, on.long, length-take (c.in-Back.place + 1) t.path, f.why.0),
      on.begins ∙ begins,
      subst SoleKnows (sym g_is) c.pop_loop.ensures.sole,
      λ n first traced. record {
        path = t.path;
        led = c.follow.ensures.walking.stands.led;
        begins = begins;
        traced = trace_same n first d g t.path (c.in-Back.ensures.traced n first traced)
            (ap (λ (v : View). v.seen) g_is ∙ p.seen);
        place = c.in-Back.place;
        within = f.why.0;
        goes = f.why.1;
        loop = p.loop;
      },
    )

pub returns-in-Ok-clause-traced : goal.returns-in-Ok-clause-traced
returns-in-Ok-clause-traced c n from traced =
    let g : View = view c.release_to.new.pass in
    let t : Trail = c.follow.new.walker in
    let f = c.in-Back.ensures.followed in
    let p = c.in-Ok.ensures.popped in
    let on = goes_on c.follow.ensures.walking.stands f.why.0 f.why.1 p c.pop_loop.ensures.walker
    c.release_to.ensures.walker c.move_on.ensures.walker c.release_to.ensures.view c.move_on.ensures.trail in
    subst (λ (x : Trail). Traced (n + 1) from g x.path) (sym on.is)
    (trace_up n from (view c.follow.new.pass) g t.path c.in-Back.place f.why.0 (c.in-Back.ensures.traced n from traced)
    (ap (λ (v : View). v.seen) c.release_to.ensures.view ∙ p.seen))

pub returns-in-Busy-clause-round : goal.returns-in-Busy-clause-round
returns-in-Busy-clause-round c =
    let f = c.in-Busy.ensures.followed in
    let to = c.release_to-in-Busy.ensures.view in
    let path = c.release_to-in-Busy.ensures.walker in (
      gains_none (opening_of c.args.board.now) (view c.args.pass.now) (view c.release_to-in-Busy.new.pass)
          (ap (λ (v : View). v.mine) to ∙ c.follow.ensures.same.mine),
      ap (λ (v : View). v.held) to,
      ap (λ (t : Trail). t.path) path,
      ap (λ (t : Trail). t.count) path ∙ c.follow.ensures.walking.stands.counts ∙ sym c.requires.walking.stands.counts,
      (
        f.why.1,
        (λ sole. f.why.2 (sym (ap (λ (v : View). v.share) to) ∙ sole)),
        subst SoleKnows (sym to) c.follow.ensures.walking.sole,
      ),
    )

pub returns-in-Busy-clause-traced : goal.returns-in-Busy-clause-traced
returns-in-Busy-clause-traced c n from traced =
    let f = c.in-Busy.ensures.followed in
    let t : Trail = c.follow.new.walker in
    record {
      path = t.path;
      led = c.follow.ensures.walking.stands.led;
      some = c.follow.ensures.walking.some;
      begins =
          sym (stand_variable t.path 0) ∙ ap (λ (x : ℕ × ℕ). x.0) f.begins
          ∙ stand_variable c.args.walker.now.path 0;
      goes = f.why.0;
      traced = trace_to_seen n from (view c.follow.new.pass) _ t.path c.in-Busy.v c.in-Busy.word
          (c.in-Busy.ensures.traced n from traced)
          (ap (λ (v : View). v.seen) c.release_to-in-Busy.ensures.view);
    }

pub returns-in-Rests-clause-settled : goal.returns-in-Rests-clause-settled
returns-in-Rests-clause-settled c p i =
    let d : View = view c.follow.new.pass in
    subst (λ (v : View). In p v.settled) (sym c.settle_all.ensures.view)
    (in_right p d.held d.settled (c.follow.ensures.same.known p i))

pub returns-in-Ok-clause-settled : goal.returns-in-Ok-clause-settled
returns-in-Ok-clause-settled c p i =
    subst (λ (v : View). In p v.settled) (sym c.release_to.ensures.view)
    (subst (In p) (sym c.in-Ok.ensures.popped.known) (c.follow.ensures.same.known p i))

pub returns-in-Err-clause-settled : goal.returns-in-Err-clause-settled
returns-in-Err-clause-settled c p i =
    subst (λ (v : View). In p v.settled) (sym c.release_to-in-Err.ensures.view)
    (subst (λ (v : View). In p v.settled) (sym c.in-Err.ensures.popped) (c.follow.ensures.same.known p i))

pub returns-in-Busy-clause-settled : goal.returns-in-Busy-clause-settled
returns-in-Busy-clause-settled c p i =
    subst (λ (v : View). In p v.settled) (sym c.release_to-in-Busy.ensures.view) (c.follow.ensures.same.known p i)
