use Rattle.std.proofs.Common.{arith, subst, ap, sym, ◌∙◌}
use Rattle.pop_model.specs.Popping.{variables}
use Rattle.claim_words.specs.declared.view.View.{View}
use Rattle.claim_words.specs.Maps.{Pairs, many_from}
use Rattle.claim_words.specs.Openings.{count_in}
use Rattle.claim_words.specs.Steps.{raised_by}
use Rattle.claim_words.specs.Machine.{uses_held}
use Rattle.claim_words.specs.Tells.{SoleKnows}
use Rattle.claim_words.specs.KeptLogs.{HasTickets, Adds, IsSealable}
use Rattle.claim_words.proofs.KeptPops.{sealable, sealed}
use Rattle.claim_words.proofs.HeldLemmas.{variables-raise_all}
use Rattle.claim_words.proofs.board.Board.pop.Goals as goal

pub invariant_of-pass-clause-tied : goal.invariant_of-pass-clause-tied
invariant_of-pass-clause-tied c =
    let d : View = c.args.pass.now.seat.me.0 in
    let cube = c.args.cube.now in
    let to = c.advance_all.ensures.view ∙ ap (λ (x : View). raised_by x cube) c.ticket_step-ticket.ensures.view in
    c.args.pass.now.tied ∙ sym (ap (λ (x : View). variables x.held) to ∙ variables-raise_all cube d.held)

pub invariant_of-pass-clause-near : goal.invariant_of-pass-clause-near
invariant_of-pass-clause-near c =
    let d : View = c.args.pass.now.seat.me.0 in
    let cube = c.args.cube.now in
    let to = c.advance_all.ensures.view ∙ ap (λ (x : View). raised_by x cube) c.ticket_step-ticket.ensures.view in
    ap (λ (x : View). many_from (count_in x.opening) c.args.pass.now.held.items) to ∙ c.args.pass.now.near

pub seal-requires : goal.seal-requires
seal-requires c =
    let d : View = c.args.pass.now.seat.me.0 in
    let cube = c.args.cube.now in
    let held = ap (λ (x : View). x.held) c.ticket_step-ticket.ensures.view in
    let added = subst (λ (h : Pairs). Adds c.args.pass.now.log c.advance_all.new.log (uses_held cube h)) held
    c.advance_all.ensures.log in
    subst (IsSealable c.advance_all.new.log) (sym c.len.ensures.len)
    (sealable c.args.pass.now.log c.advance_all.new.log d.mine cube d.held c.args.pass.now.logged added
    c.len.ensures.cube (omega (arith, c.len.ensures.short, c.len.ensures.len)))

pub invariant_of-pass-clause-logged : goal.invariant_of-pass-clause-logged
invariant_of-pass-clause-logged c =
    let d : View = c.args.pass.now.seat.me.0 in
    let cube = c.args.cube.now in
    let ticket = c.ticket_step-ticket.result in
    let held = ap (λ (x : View). x.held) c.ticket_step-ticket.ensures.view in
    let added = subst (λ (h : Pairs). Adds c.args.pass.now.log c.advance_all.new.log (uses_held cube h)) held
    c.advance_all.ensures.log in
    let to = c.advance_all.ensures.view ∙ ap (λ (x : View). raised_by x cube) c.ticket_step-ticket.ensures.view in
    subst (λ (x : View). HasTickets c.seal.new.log x.mine) (sym to)
    (sealed c.args.pass.now.log c.advance_all.new.log c.seal.new.log d.mine cube d.held ticket c.args.unit
    c.args.pass.now.logged added c.seal.ensures)

pub returns-clause-sole : goal.returns-clause-sole
returns-clause-sole c =
    let d : View = c.args.pass.now.seat.me.0 in
    let cube = c.args.cube.now in
    let ticket = c.ticket_step-ticket.result in
    let to = c.advance_all.ensures.view ∙ ap (λ (x : View). raised_by x cube) c.ticket_step-ticket.ensures.view in
    subst SoleKnows (sym to) (subst SoleKnows c.ticket_step-ticket.ensures.view c.ticket_step-ticket.ensures.sole)
