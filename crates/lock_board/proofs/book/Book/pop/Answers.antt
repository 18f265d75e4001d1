use Rattle.std.proofs.Common.{◌++◌, ◌∷◌, [], ap, ◌∙◌, sym, subst}
use Rattle.pop_model.specs.Popping.{IsPoppable}
use Rattle.pop_model.specs.Instances.{IsInstance}
use Rattle.lock_board.specs.Books.{Progress}
use Rattle.confluence_core.proofs.EventVariables.{event_known}
use Rattle.lock_board.proofs.BookLemmas.{book_pop}
use Rattle.lock_board.proofs.book.Book.pop.Goals as goal

pub at-requires : goal.at-requires
at-requires g c = record {
  known =
      let is = subst IsInstance c.self.invariant.0 c.units-units.ensures.instance in
      event_known g.N.Site.instance (record { unit = c.args.unit; cube = c.args.cube.now }) c.self.inside.cursors
      is.fits c.requires.event c.self.invariant.1.count;
}

pub pop-requires-clause-known : goal.pop-requires-clause-known
pop-requires-clause-known g c =
    let is = subst IsInstance c.self.invariant.0 c.units-units.ensures.instance in
    event_known g.N.Site.instance (record { unit = c.args.unit; cube = c.args.cube.now }) c.self.inside.cursors is.fits
    c.requires.event c.self.invariant.1.count

pub invariant_of-self-2 : goal.invariant_of-self-2
invariant_of-self-2 g c =
    let i = g.N.Site.instance in
    let old : Progress = record { cursors = c.self.inside.cursors; log = c.self.inside.log } in
    let new : Progress = record { cursors = c.pop.new.self; log = c.push.new.self } in
    let poppable : IsPoppable i.stacks old.cursors c.args.cube.now =
    subst (λ (b : Progress). IsPoppable i.stacks b.cursors c.args.cube.now) (sym c.self.view_is) c.requires.poppable in (
      c.self.invariant.0,
      book_pop i g.N.Site.start old new (record { unit = c.args.unit; cube = c.args.cube.now }) c.self.invariant.1 c.requires.event
          poppable (c.in_ok-push.ensures.pushed ∙ ap (λ r. old.log ++ r ∷ []) c.in_ok-popped.ensures) c.pop.ensures,
    )
