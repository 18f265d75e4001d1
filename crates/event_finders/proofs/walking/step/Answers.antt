use Rattle.std.proofs.Common.{rules, arith, ◌≤◌, ◌<◌, ◌+◌, ◌-◌, ◌∷◌, ◌++◌, [], ℕ, length, get_or, refl, sym, ap, subst, ◌∙◌}
use Rattle.std.proofs.lemmas.Bool.{false≢true}
use Rattle.std.proofs.lemmas.List.{length_push}
use mathlib.Core.Logic.{dite}
use native.Mathlib.Decide.{dec_le}
use Rattle.pop_model.specs.Stacks.{StackTable, height_of}
use Rattle.claim_words.specs.Passes.{view}
use Rattle.event_finders.specs.Trails.{Trail}
use Rattle.event_finders.proofs.WalkClaims.{walks_on}
use Rattle.event_finders.proofs.TrailArrows.{rests_last, rests_root, rests_known, board_head}
use Rattle.event_finders.proofs.WalkSeen.{last_none, last_one}
use Rattle.event_finders.proofs.WalkTraces.{walked_one}
use Rattle.event_finders.specs.WalkSteps.{Grows}
use Rattle.event_finders.proofs.walking.step.Goals as goal

pub returns-then-not-has_next_at-clause-step : goal.returns-then-not-has_next_at-clause-step
returns-then-not-has_next_at-clause-step c =
    let w = c.requires.walking in
    let e : ℕ × ℕ = c.last-v.result in
    let h : ℕ = height_of c.args.current.now.stacks e.0 in
    let low : h ≤ e.1 + 1 = dite (dec_le h (e.1 + 1)) (λ last. last)
    (λ more. absurd (false≢true
    (sym c.if-not-has_next_at.true ∙ c.has_next_at.ensures.1 (omega (arith, more))))) in
    record {
      same = refl;
      why = rests_last w.stands w.some c.last-v.ensures.last
          (subst (λ (s : StackTable). height_of s e.0 ≤ e.1 + 1) (sym w.table.stacks) low);
      seen = last_none _ c.args.walker.now.path w.stands.trail.once;
      found = tt;
    }

pub returns-in_default-clause-step : goal.returns-in_default-clause-step
returns-in_default-clause-step c =
    let w = c.requires.walking in
    let head = board_head w.table c.last-v.result ∙ sym c.head_at.ensures.head ∙ c.in_default.is in
    record {
      same = refl;
      why = rests_root w.stands w.some c.last-v.ensures.last head;
      seen = last_none _ c.args.walker.now.path w.stands.trail.once;
      found = tt;
    }

pub returns-in-Some-place-clause-step : goal.returns-in-Some-place-clause-step
returns-in-Some-place-clause-step c = record {
  same = refl;
  why = search rules;
  seen = last_none _ c.args.walker.now.path c.requires.walking.stands.trail.once;
  found = tt;
}

pub returns-in-Mine-clause-step : goal.returns-in-Mine-clause-step
returns-in-Mine-clause-step c =
    let old = c.args.walker.now in
    let s : ℕ × ℕ = (c.in-Some.w, c.in-Mine.field-0) in
    let m = c.in-Mine.ensures.seen in
    subst (Grows _ _ old) (sym c.in-Mine.ensures.puts) (record {
      longer = omega (arith, length_push old.path s);
      walked = walked_one _ _ old.path s m.0 c.requires.walking.some m.1 m.2.0 m.2.1;
    })

pub returns-in-Mine-clause-walking : goal.returns-in-Mine-clause-walking
returns-in-Mine-clause-walking c =
    walks_on c.requires.walking c.claim_on.ensures.stands c.claim_on.ensures.spare
    (omega (arith, ap (λ (t : Trail). length t.path) c.in-Mine.ensures.puts, length_push c.args.walker.now.path (c.in-Some.w, c.in-Mine.field-0)))
    c.claim_on.ensures.sole

pub returns-in-Settled-clause-walking : goal.returns-in-Settled-clause-walking
returns-in-Settled-clause-walking c =
    walks_on c.requires.walking c.claim_on.ensures.stands c.claim_on.ensures.spare
    (omega (arith, ap (λ (t : Trail). length t.path) c.in-Settled.ensures.puts.0, c.requires.walking.some))
    c.claim_on.ensures.sole

pub returns-in-Busy-clause-walking : goal.returns-in-Busy-clause-walking
returns-in-Busy-clause-walking c =
    walks_on c.requires.walking c.claim_on.ensures.stands c.claim_on.ensures.spare
    (omega (arith, ap (λ (t : Trail). length t.path) c.in-Busy.ensures.puts.0, c.requires.walking.some))
    c.claim_on.ensures.sole

pub returns-in-Settled-clause-step : goal.returns-in-Settled-clause-step
returns-in-Settled-clause-step c =
    let w = c.requires.walking in
    let p = c.in-Settled.ensures.puts in
    let m = c.in-Settled.ensures.seen in
    let head = board_head w.table c.last-v.result ∙ sym c.head_at.ensures.head ∙ c.in-Some.is in
    let some = subst (λ (x : Trail). 0 < length x.path) (sym p.0) w.some in
    let last = c.last-v.ensures.last ∙ ap (λ (x : Trail). get_or x.path (length x.path - 1) (0, 0)) (sym p.0) in
    record {
      same = p.0;
      why = rests_known c.claim_on.ensures.stands some last c.in-Some.w c.in-Settled.field-0 head p.1;
      seen = last_one _ _ c.args.walker.now.path c.in-Some.w m.0 w.stands.trail.once (search rules) m.1;
      found = tt;
    }

pub returns-in-Busy-clause-step : goal.returns-in-Busy-clause-step
returns-in-Busy-clause-step c =
    let m = c.in-Busy.ensures.seen in
    record {
      same = c.in-Busy.ensures.puts.0;
      why = search rules;
      seen = last_one _ _ c.args.walker.now.path c.in-Some.w m.0 c.requires.walking.stands.trail.once (search rules) m.1;
      found = m.1 ∙ ap (λ (w : ℕ). (view c.args.pass.now).seen ++ (1 + c.in-Some.w, w) ∷ []) (sym m.2.2);
    }
