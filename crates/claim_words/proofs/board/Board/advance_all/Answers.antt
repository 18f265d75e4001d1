use Rattle.std.proofs.Common.{arith, refl, ℕ, ◌∷◌, [], sym, ◌∙◌, subst, ◌≡◌, ◌≤◌, ◌+◌, suc, length, drop, take, take_all}
use Rattle.claim_words.specs.declared.view.View.{View}
use Rattle.claim_words.specs.Maps.{Pairs, look}
use Rattle.claim_words.specs.Machine.{uses_held}
use Rattle.claim_words.specs.KeptLogs.{Adds, HasRoom}
use Rattle.claim_words.specs.Passes.{count_of}
use Rattle.claim_words.proofs.DueAdvances.{turn, next_due, here_due, done_due}
use Rattle.claim_words.proofs.KeptPops.{Same, adds_none, adds_more, room_step, room_one, uses_push, same_first, same_next}
use Rattle.claim_words.proofs.board.Board.advance_all.Goals as goal

pub loop-i-init : goal.loop-i-init
loop-i-init c = record {
  seat = c.requires.seat;
  due = c.requires.due;
  view = refl;
  slots = refl;
  log = adds_none c.args.log.now;
  room = c.requires.room;
  held = same_first c.args.seat.now.me.0.held c.args.cube.now;
}

pub advance_step-found-requires : goal.advance_step-found-requires
advance_step-found-requires c =
    let i = c.loop-i.invariant in
    let t = here_due (count_of c.args.self.now) c.loop-i.seat.me.0 c.args.cube.now c.loop-i.i c.pair-v.result i.due
    c.pair-v.ensures in
    record { seat = i.seat; known = t.0; due = t.2 }

pub add_use-requires : goal.add_use-requires
add_use-requires c =
    let rest = drop (suc c.loop-i.i) c.args.cube.now in
    room_one c.loop-i.log (length rest)
    (subst (λ (l : Pairs). HasRoom c.loop-i.log (length l))
    (turn c.args.cube.now c.loop-i.i c.pair-v.result c.pair-v.ensures) c.loop-i.invariant.room)

pub loop-i-preserved : goal.loop-i-preserved
loop-i-preserved c =
    let i = c.loop-i.invariant in
    let n = count_of c.args.self.now in
    let p : ℕ × ℕ = c.pair-v.result in
    let v : ℕ = p.0 in
    let cube = c.args.cube.now in
    let at = c.loop-i.i in
    let rest = drop (suc at) cube in
    let held : Pairs = c.args.seat.now.me.0.held in
    let next : suc at ≡ at + 1 = omega arith in
    let d : View = c.loop-i.seat.me.0 in
    let e = c.advance_step-found.ensures in
    let log = c.add_use.new.log in
    let here = turn cube at p c.pair-v.ensures in
    let t = next_due n d c.advance_step-found.new.seat.me.0 cube at p i.due c.pair-v.ensures e.view in
    let same : Same held d.held (p ∷ rest) = subst (Same held d.held) here i.held in
    let entry : c.cursor_of.result ≡ look v held = c.cursor_of.ensures ∙ e.cursor ∙ same.0 in
    let added : Adds c.loop-i.log log ((v, p.1, look v held) ∷ []) =
    subst (λ (k : ℕ). Adds c.loop-i.log log ((v, p.1, k) ∷ [])) entry c.add_use.ensures in
    let none = (here_due n d cube at p i.due c.pair-v.ensures).3 in
    record {
      seat = e.seat.0;
      due = t.0;
      view = t.1 ∙ i.view;
      slots = e.seat.1 ∙ i.slots;
      log = subst (Adds c.args.log.now log) (sym (uses_push cube held at p c.pair-v.ensures))
          (adds_more c.args.log.now c.loop-i.log log (uses_held (take at cube) held) (v, p.1, look v held) i.log added);
      room = subst (λ (j : ℕ). HasRoom log (length (drop j cube))) next
          (room_step c.loop-i.log log (v, p.1, look v held) (length rest)
          (subst (λ (l : Pairs). HasRoom c.loop-i.log (length l)) here i.room) added);
      held = subst (λ (j : ℕ). Same held c.advance_step-found.new.seat.me.0.held (drop j cube)) next
          (subst (λ (x : View). Same held x.held rest) (sym e.view) (same_next held d.held rest v none same.1));
    }

pub returns : goal.returns
returns c =
    let i = c.loop-i.invariant in
    let at_end : length c.args.cube.now ≤ c.loop-i.i = omega arith in
    let t = done_due (count_of c.args.self.now) c.loop-i.seat.me.0 c.args.cube.now c.loop-i.i i.due at_end in
    record {
      seat = (i.seat, i.slots);
      view = t ∙ i.view;
      log = subst (λ (l : Pairs). Adds c.args.log.now c.loop-i.log (uses_held l c.args.seat.now.me.0.held))
          (take_all c.loop-i.i c.args.cube.now at_end) i.log;
    }
