use Rattle.std.proofs.Common.{rules, arith, ℕ, subst, sym, ◌≡◌, ◌<◌}
use Rattle.pop_model.specs.Popping.{Cube, IsCube}
use Rattle.claim_words.specs.declared.view.View.{View}
use Rattle.claim_words.specs.Maps.{Each}
use Rattle.claim_words.specs.Steps.{drawn_by}
use Rattle.claim_words.specs.Conditions.{CanPop, IsDue}
use Rattle.claim_words.specs.Passes.{opening_of, count_of}
use Rattle.claim_words.proofs.TicketKeepsRule.{draws}
use Rattle.claim_words.proofs.DueAdvances.{first_due}
use Rattle.claim_words.proofs.board.Board.ticket_step.Goals as goal

pub fetch_add-requires : goal.fetch_add-requires
fetch_add-requires g c =
    let k = opening_of c.args.self.now in
    let d = c.args.seat.now.me.0 in
    let t = c.requires.event in
    let is : IsCube g.W.Chosen.cube = subst IsCube t.1 c.len-len.ensures.cube in
    let can : CanPop k.instance.value d g.W.Chosen.unit g.W.Chosen.cube =
    subst (λ (u : ℕ). CanPop k.instance.value d u g.W.Chosen.cube) t.0
    (subst (λ (e : Cube). CanPop k.instance.value d c.args.unit e) t.1 c.requires.poppable) in (
      c.requires.seat.0,
      omega (arith, c.args.self.now.sized),
      draws k _ _ _ g.W.Chosen.unit g.W.Chosen.cube c.requires.seat.1 c.requires.clear is can,
    )

pub returns-clause-due : goal.returns-clause-due
returns-clause-due g c =
    let n = count_of c.args.self.now in
    let d = c.args.seat.now.me.0 in
    let t = c.requires.event in
    let tells = c.fetch_add.ensures.2 in
    let near = subst (λ (e : Cube). Each (λ (p : ℕ × ℕ). p.0 < n) e) (sym t.1)
    (tells.3 (opening_of c.args.self.now) c.requires.seat.1) in
    let to : c.fetch_add.new.seat.me.0 ≡ drawn_by d c.args.unit c.args.cube.now c.fetch_add.result = search rules in
    subst (λ (x : View). IsDue n x c.args.cube.now) (sym to)
    (first_due (opening_of c.args.self.now).instance.value n d c.args.unit c.args.cube.now c.fetch_add.result
    c.len-len.ensures.cube c.requires.poppable near)
