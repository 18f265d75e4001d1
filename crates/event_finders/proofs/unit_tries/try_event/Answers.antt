use Rattle.std.proofs.Common.{arith, ℕ, ap, sym, ◌∙◌, take}
use Rattle.std.proofs.lemmas.Option.{slice_get_within}
use Rattle.pop_model.specs.Popping.{Cube, variables}
use Rattle.claim_words.specs.declared.view.View.{View}
use Rattle.claim_words.specs.Passes.{view, opening_of}
use Rattle.claim_words.proofs.HeldLemmas.{variables-raise_all}
use Rattle.event_finders.specs.OwedMarks.{emptied}
use Rattle.event_finders.proofs.UnitEnds.{can_pop, differs_out, last_out}
use Rattle.event_finders.proofs.CubePrefixes.{each_named}
use Rattle.event_finders.specs.UnitLooks.{HasValue}
use Rattle.event_finders.proofs.UnitTries.{started, stays_out, finds_none, sticks, clears, refuses, popped}
use Rattle.event_finders.proofs.ListedEvents.{below_index}
use Rattle.event_finders.proofs.unit_tries.try_event.Goals as goal

pub returns-then-is_err-clause-tries : goal.returns-then-is_err-clause-tries
returns-then-is_err-clause-tries c =
    stays_out (opening_of c.args.board.now) c.args.instance.now _ _ c.args.event.now.unit c.args.event.now.cube.now
    c.requires.idle c.reserve.ensures.view

pub returns-then-not-take-clause-tries : goal.returns-then-not-take-clause-tries
returns-then-not-take-clause-tries c =
    finds_none (opening_of c.args.board.now) c.args.instance.now _ (view c.reserve.new.pass) _ c.args.event.now.unit
    c.args.event.now.cube.now c.requires.pass.0.1 c.requires.idle c.reserve.ensures.view c.if-not-take.ensures.step

pub pop-ticket-requires-clause-poppable : goal.pop-ticket-requires-clause-poppable
pop-ticket-requires-clause-poppable c =
    let looks = c.in-Poppable.ensures.looks in
    can_pop (opening_of c.args.board.now) _ _ c.requires.instance c.requires.event looks.1 looks.2

pub mark_sharers-requires-clause-event : goal.mark_sharers-requires-clause-event
mark_sharers-requires-clause-event c = below_index c.requires.index c.requires.event

pub release_first-requires-clause-held : goal.release_first-requires-clause-held
release_first-requires-clause-held c =
    let cube : Cube = c.args.event.now.cube.now in
    let first = c.in-Poppable.ensures.looks.0 in
    ap (λ (x : View). variables x.held) c.mark_sharers.ensures.view
    ∙ ap (λ (x : View). variables x.held) c.pop-ticket.ensures.step
    ∙ variables-raise_all cube (view c.claim_unit.new.pass).held ∙ first.held
    ∙ ap (λ (n : ℕ). variables (take n cube)) (sym c.len-len.ensures.len)

pub clear-requires-clause-held : goal.clear-requires-clause-held
clear-requires-clause-held c =
    let looks = c.in-AtLast.ensures.looks in
    let has = HasValue c.args.instance.now (view c.take.new.pass) (view c.claim_unit.new.pass) in
    (each_named has c.args.event.now.cube.now c.in-AtLast.v looks.1 looks.2.holds.0).2.0.once

pub clear-requires-clause-out : goal.clear-requires-clause-out
clear-requires-clause-out c =
    let looks = c.in-AtLast.ensures.looks in
    last_out (opening_of c.args.board.now) _ _ c.requires.instance c.requires.event looks.1 looks.2.holds

pub clear-requires-in-Differs-clause-out : goal.clear-requires-in-Differs-clause-out
clear-requires-in-Differs-clause-out c =
    let looks = c.in-Differs.ensures.looks in
    differs_out (opening_of c.args.board.now) _ (c.in-Differs.v, looks.0) c.requires.instance c.requires.event looks.1
    looks.3 looks.4 looks.5

pub overflow_add-place : goal.overflow_add-place
overflow_add-place c =
    let looks = c.in-Differs.ensures.looks in
    let within = slice_get_within c.args.event.now.cube.now c.in-Differs.place (c.in-Differs.v, looks.0) looks.1 in
    omega (arith, within, c.len-len.ensures.len, c.len-len.ensures.short)

pub release_first-requires-in-Differs-clause-short : goal.release_first-requires-in-Differs-clause-short
release_first-requires-in-Differs-clause-short c =
    let looks = c.in-Differs.ensures.looks in
    let within = slice_get_within c.args.event.now.cube.now c.in-Differs.place (c.in-Differs.v, looks.0) looks.1 in
    omega (arith, within)

pub release_first-requires-in-Busy-clause-short : goal.release_first-requires-in-Busy-clause-short
release_first-requires-in-Busy-clause-short c =
    let looks = c.in-Busy.ensures.looks in
    let within = slice_get_within c.args.event.now.cube.now c.in-Busy.place (c.in-Busy.v, looks.0) looks.1 in
    omega (arith, within)

pub returns-in-Poppable-clause-tries : goal.returns-in-Poppable-clause-tries
returns-in-Poppable-clause-tries c =
    let looks = c.in-Poppable.ensures.looks in
    let s = started c.requires.instance c.requires.pass.0.1 c.requires.idle c.requires.event
    c.len-len.ensures.cube c.reserve.ensures.view c.if-not-take.ensures.step looks.0 in
    let pop = c.pop-ticket.ensures in
    popped s _ _ _ c.pop-ticket.result pop.step c.mark_sharers.ensures.view c.release_first.ensures.view
    c.mark_sharers.ensures.marks looks.1 looks.2 pop.newer pop.sole

pub returns-in-AtLast-clause-tries : goal.returns-in-AtLast-clause-tries
returns-in-AtLast-clause-tries c =
    let looks = c.in-AtLast.ensures.looks in
    let s = started c.requires.instance c.requires.pass.0.1 c.requires.idle c.requires.event
    c.len-len.ensures.cube c.reserve.ensures.view c.if-not-take.ensures.step looks.0 in
    sticks s _ c.in-AtLast.v c.in-AtLast.cursor
    (c.release_first-in-AtLast.ensures.view ∙ ap emptied c.clear.ensures.step) looks.1 looks.2 looks.3

pub returns-in-Differs-clause-tries : goal.returns-in-Differs-clause-tries
returns-in-Differs-clause-tries c =
    let looks = c.in-Differs.ensures.looks in
    let s = started c.requires.instance c.requires.pass.0.1 c.requires.idle c.requires.event
    c.len-len.ensures.cube c.reserve.ensures.view c.if-not-take.ensures.step looks.2 in
    clears s _ c.in-Differs.place c.in-Differs.v looks.0 c.in-Differs.cursor
    (c.release_first-in-Differs.ensures.view ∙ ap emptied c.clear-in-Differs.ensures.step) looks.1 looks.3 looks.4 looks.5

pub returns-in-Busy-clause-tries : goal.returns-in-Busy-clause-tries
returns-in-Busy-clause-tries c =
    let looks = c.in-Busy.ensures.looks in
    let s = started c.requires.instance c.requires.pass.0.1 c.requires.idle c.requires.event
    c.len-len.ensures.cube c.reserve.ensures.view c.if-not-take.ensures.step looks.2 in
    let step = c.mark.ensures.step in
    refuses s _ c.in-Busy.place c.in-Busy.v looks.0 c.in-Busy.word step.0
    (c.release_first-in-Busy.ensures.view ∙ ap emptied step.1) looks.1 looks.3 looks.4
