use Rattle.std.proofs.Common.{◌≡◌, ◌∙◌, ◌<◌, ◌++◌, ap, sym, subst, length, List, ℕ, Option}
use Rattle.pop_model.specs.Stacks.{variables_of}
use Rattle.pop_model.specs.Popping.{Cube, variables}
use Rattle.pop_model.specs.Instances.{Instance}
use Rattle.confluence_core.proofs.EventVariables.{event_known}
use Rattle.claim_words.specs.declared.view.View.{View}
use Rattle.claim_words.specs.declared.opening.Opening.{Opening}
use Rattle.claim_words.specs.Maps.{Each}
use Rattle.claim_words.specs.Steps.{sharers, sharing}
use Rattle.claim_words.specs.Conditions.{CanPop}
use Rattle.claim_words.specs.Passes.{view, instance_of, marks_of}
use Rattle.claim_words.proofs.HeldLemmas.{variables-raise_all}
use Rattle.claim_words.proofs.HeldWhole.{ready_all, owed_below}
use Rattle.worker_tests.proofs.claims.one_pop.pop_first.Goals as goal

-- what is poppable at the cursors of a pass that holds all variables may be popped
pub pop-ticket-requires-clause-poppable : goal.pop-ticket-requires-clause-poppable
pop-ticket-requires-clause-poppable g c =
    let i : Instance = c.args.instance.now in
    let d : View = view c.args.pass.now in
    let cs : List ℕ = c.args.cursors.now in
    let unit : ℕ = c.first_event-unit.result.0 in
    let cube : Cube = c.first_event-unit.result.1 in
    let first = c.first_event-unit.ensures in
    let all = c.requires.held in
    let count : variables_of i.stacks ≡ length cs =
    sym (all.count ∙ ap (λ (x : Instance). variables_of x.stacks) c.requires.instance) in
    let can : CanPop i d unit cube = record {
      event = first.event;
      ready = ready_all i cs d.held cube all.held
          (event_known i _ cs c.units-units.ensures.instance.fits first.event count) first.poppable;
    } in
    subst (λ (x : Instance). CanPop x d unit cube) (sym c.requires.instance) can

pub returns-clause-held : goal.returns-clause-held
returns-clause-held g c =
    ap (λ (x : View). variables x.held) c.pop-ticket.ensures.step
    ∙ variables-raise_all c.first_event-unit.result.1 (view c.args.pass.now).held

-- each mark that is owed is one of the board
pub returns-clause-owed : goal.returns-clause-owed
returns-clause-owed g c =
    let d : View = view c.args.pass.now in
    let cube : Cube = c.first_event-unit.result.1 in
    let i : Instance = instance_of c.args.board.now in
    let owed : (view c.pop-ticket.new.pass).owed ≡ sharing i.family cube =
    ap (λ (x : View). x.owed) c.pop-ticket.ensures.step ∙ ap (λ (l : List ℕ). l ++ sharers d.opening cube) c.requires.owed
    ∙ ap (λ (o : Option Opening). sharers o cube) c.requires.pass.0.1 in
    subst (Each (λ u. u < marks_of c.args.board.now)) (sym owed) (owed_below i.family cube)
