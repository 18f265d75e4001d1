use Rattle.std.proofs.Common.{arith, ◌≡◌, ◌<◌, ℕ, refl, sym, ap, subst, ◌∙◌}
use Rattle.pop_model.specs.Popping.{variables}
use Rattle.claim_words.specs.Maps.{Pairs, times_in}
use Rattle.claim_words.specs.declared.view.View.{View}
use Rattle.claim_words.specs.declared.claim.Claim.TheVariants.{Mine, Busy as Refused}
use Rattle.claim_words.specs.Answers.{Claims}
use Rattle.claim_words.specs.Passes.{view, opening_of}
use Rattle.event_finders.specs.Trails.{Trail, Stands, IsAt, IsTrail}
use Rattle.event_finders.specs.WalkSteps.{Puts}
use Rattle.event_finders.proofs.TrailLemmas.{room_more}
use Rattle.event_finders.proofs.TrailArrows.{stands_push}
use Rattle.event_finders.proofs.WalkClaims.{claim_same, mine_held, refused_busy, refused_shared}
use Rattle.event_finders.proofs.walking.claim_on.Goals as goal

pub try_claim-claim-requires-clause-room : goal.try_claim-claim-requires-clause-room
try_claim-claim-requires-clause-room c =
    let t = c.args.walker.now in
    let is = c.requires.stands in
    let near : c.args.v < t.count = omega (arith, c.requires.known, is.counts) in
    omega (arith, c.requires.spare, room_more t.count t.path (c.args.v, 0) is.trail near c.requires.fresh)

pub returns-in-Mine-clause-stands : goal.returns-in-Mine-clause-stands
returns-in-Mine-clause-stands c =
    let k = opening_of c.args.board.now in
    let d : View = view c.args.pass.now in
    let e : View = view c.try_claim-claim.new.pass in
    let s : ℕ × ℕ = (c.args.v, c.in-Mine.cursor) in
    let step : Claims d c.args.v e (Mine c.in-Mine.cursor) =
    subst (Claims d c.args.v e) c.in-Mine.is c.try_claim-claim.ensures.step in
    let at : IsAt k s = record {
      near = c.requires.known;
      low = omega (arith, step.2.1, step.1.low k c.requires.pass.0.1);
    } in
    let trail = subst (λ (t : Trail). IsTrail t.count t.path) c.push.ensures.path c.push.ensures.trail in
    subst (Stands k e) (sym c.push.ensures.path)
    (stands_push k d e c.args.walker.now s c.requires.stands
    (claim_same d c.args.v e (Mine c.in-Mine.cursor) step).stays (mine_held d c.args.v e c.in-Mine.cursor step) at c.requires.leads trail)

pub returns-in-Busy-clause-puts : goal.returns-in-Busy-clause-puts
returns-in-Busy-clause-puts c =
    let d : View = view c.args.pass.now in
    let e : View = view c.try_claim-claim.new.pass in
    let v : ℕ = c.args.v in
    let w : ℕ = c.in-Busy.field-0 in
    let step : Claims d v e (Refused w) = subst (Claims d v e) c.in-Busy.is c.try_claim-claim.ensures.step in
    let free : times_in v (variables d.held) ≡ 0 =
    ap (λ (l : Pairs). times_in v (variables l)) c.requires.stands.held ∙ c.requires.fresh in
    subst (Puts e c.args.walker.now c.args.walker.now v) (sym c.in-Busy.is)
    (refl, refused_busy d v e w step, refused_shared d v e w step free)
