use Rattle.std.proofs.Common.{◌≡◌, ◌∙◌, ◌<◌, [], ◌++◌, ap, sym, subst, length, List, ℕ, Option}
use Rattle.pop_model.specs.Stacks.{variables_of}
use Rattle.pop_model.specs.Popping.{Cube, variables}
use Rattle.pop_model.specs.Instances.{Instance}
use Rattle.confluence_core.proofs.EventVariables.{event_known}
use Rattle.claim_words.specs.declared.view.View.{View}
use Rattle.claim_words.specs.declared.opening.Opening.{Opening}
use Rattle.claim_words.specs.Maps.{Each}
use Rattle.claim_words.specs.Openings.{marks_in}
use Rattle.claim_words.specs.Steps.{sharing, sharers}
use Rattle.claim_words.specs.Conditions.{CanPop}
use Rattle.claim_words.specs.Passes.{view, instance_of}
use Rattle.claim_words.proofs.HeldLemmas.{variables-raise_all}
use Rattle.claim_words.proofs.HeldWhole.{ready_all, owed_below}
use Rattle.worker_tests.proofs.claims.working.pop_first.Goals as goal

pub pop-ticket-requires-clause-poppable : goal.pop-ticket-requires-clause-poppable
pop-ticket-requires-clause-poppable g c =
    let i : Instance = c.args.instance.now in
    let d : View = view c.args.pass.now in
    let cs : List ℕ = c.args.cursors.now in
    let found = rw c.expect-found.ensures at c.first_poppable.ensures.first in
    let first = rw c.in-Some.is at found in
    let all = c.requires.held in
    let fits = c.units-units.ensures.instance.fits in
    let count : variables_of i.stacks ≡ length cs =
    sym (all.count ∙ ap (λ (x : Instance). variables_of x.stacks) c.requires.instance) in
    let can : CanPop i d c.in-Some.unit c.in-Some.cube = record {
      event = first.event;
      ready = ready_all i cs d.held c.in-Some.cube all.held
          (event_known i _ cs fits first.event count) first.poppable;
    } in
    subst (λ (x : View). CanPop (instance_of c.args.board.now) x c.in-Some.unit c.in-Some.cube) (sym c.reserve.ensures.view)
    (subst (λ (x : Instance). CanPop x d c.in-Some.unit c.in-Some.cube) (sym c.requires.instance) can)

pub mark_all-requires-clause-owed : goal.mark_all-requires-clause-owed
mark_all-requires-clause-owed g c =
    let i : Instance = c.args.instance.now in
    let d : View = view c.reserve.new.pass in
    let cube : Cube = c.in-Some.cube in
    let none : d.owed ≡ [] = ap (λ (x : View). x.owed) c.reserve.ensures.view ∙ c.requires.none.1 in
    let owed : (view c.pop-ticket.new.pass).owed ≡ sharing i.family cube =
    ap (λ (x : View). x.owed) c.pop-ticket.ensures.step ∙ ap (λ (l : List ℕ). l ++ sharers d.opening cube) none
    ∙ ap (λ (o : Option Opening). sharers o cube) c.reserve.ensures.pass.0.1
    ∙ ap (λ (x : Instance). sharing x.family cube) c.requires.instance in
    subst (λ (n : ℕ). Each (λ u. u < n) (view c.pop-ticket.new.pass).owed) (sym c.marks_in.ensures)
    (subst (Each (λ u. u < marks_in i.family)) (sym owed) (owed_below i.family cube))

pub returns-clause-held : goal.returns-clause-held
returns-clause-held g c =
    let cube : Cube = c.in-Some.cube in
    let d : View = view c.reserve.new.pass in
    ap variables c.mark_all.ensures.held ∙ ap (λ (x : View). variables x.held) c.pop-ticket.ensures.step
    ∙ variables-raise_all cube d.held ∙ ap (λ (x : View). variables x.held) c.reserve.ensures.view
