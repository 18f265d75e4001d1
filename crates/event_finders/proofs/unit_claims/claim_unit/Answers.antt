use Rattle.std.proofs.Common.{rules, arith, ℕ, ap, sym, subst, ◌∙◌, ◌≡◌, ◌+◌, take}
use Rattle.pop_model.specs.Stacks.{StackTable, value_at}
use Rattle.pop_model.specs.Instances.{Instance}
use Rattle.claim_words.specs.Words.{cursor_in}
use Rattle.claim_words.specs.Passes.{view}
use Rattle.event_finders.proofs.UnitClaimsGrow.{NextClaim, entered, refused_next, granted_next, new_here, found_here, has_claimed, values_next}
use Rattle.event_finders.proofs.LeastAtLast.{LastSo, LastHere, last_next}
use Rattle.event_finders.proofs.unit_claims.claim_unit.Goals as goal

pub returns-in-Differs-clause-looks : goal.returns-in-Differs-clause-looks
returns-in-Differs-clause-looks c =
    let look = c.in-Differs.ensures.look in
    let t = look.0 in
    let s : NextClaim (view c.args.pass.now) (view c.loop-i.pass) (view c.look_at.new.pass) c.args.cube.now c.loop-i.i
    c.pair-v.result t.0 =
    record { is = c.len-i-end.ensures.cube; at = c.pair-v.ensures; first = c.loop-i.invariant.first; to = t.1.view } in (
      c.pair-v.result.1,
      c.pair-v.ensures,
      granted_next s t.2.0,
      has_claimed s t.2.0 t.3,
      found_here s t.2.0 ∙ sym t.2.1,
      look.1,
    )

pub returns-in-Busy-clause-looks : goal.returns-in-Busy-clause-looks
returns-in-Busy-clause-looks c =
    let t = c.in-Busy.ensures.look in
    let s : NextClaim (view c.args.pass.now) (view c.loop-i.pass) (view c.look_at.new.pass) c.args.cube.now c.loop-i.i
    c.pair-v.result t.0 =
    record { is = c.len-i-end.ensures.cube; at = c.pair-v.ensures; first = c.loop-i.invariant.first; to = t.1.view } in (
      c.pair-v.result.1,
      c.pair-v.ensures,
      refused_next s t.2.0,
      (t.0, entered s, t.2),
      λ sole. let held = t.1.refused (s.first.same.share ∙ sole) t.2.0 t.2.1 in absurd (omega (arith, held, new_here s)),
    )

pub loop-i-preserved : goal.loop-i-preserved
loop-i-preserved c =
    let i : Instance = c.args.instance.now in
    let inv = c.loop-i.invariant in
    let look = c.in-Fits.ensures.look in
    let t = look.0 in
    let s : NextClaim (view c.args.pass.now) (view c.loop-i.pass) (view c.look_at.new.pass) c.args.cube.now c.loop-i.i
    c.pair-v.result t.0 =
    record { is = c.len-i-end.ensures.cube; at = c.pair-v.ensures; first = c.loop-i.invariant.first; to = t.1.view } in
    let p : ℕ × ℕ = c.pair-v.result in
    let value : value_at i.stacks p.0 (cursor_in t.0) ≡ p.1 = ap (value_at i.stacks p.0) (sym t.2.1) ∙ look.1 in
    let stacks : c.stacks.result.now ≡ i.stacks = c.stacks.ensures in
    let here : LastHere i p.0 (cursor_in t.0) c.at_last.result =
    subst (λ (x : ℕ). LastHere i p.0 x c.at_last.result) t.2.1
    (subst (λ (s : StackTable). LastHere (record { stacks = s; family = i.family }) p.0 c.in-Fits.cursor
    c.at_last.result) stacks c.at_last.ensures) in
    record {
      pass = c.look_at.ensures.pass;
      first = granted_next s t.2.0;
      values = values_next s t.2.0 i t.3 value inv.values;
      last = subst (LastSo i (view c.look_at.new.pass) (take (c.loop-i.i + 1) c.args.cube.now)) (sym c.or-last.ensures)
          (last_next s i t.2.0 inv.values c.loop-i.last c.at_last.result inv.last here);
      room = omega (arith, inv.room, c.look_at.ensures.spare);
      log_spare = search rules;
      reader = search rules;
    }
