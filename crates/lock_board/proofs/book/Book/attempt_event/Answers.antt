use Rattle.std.proofs.Common.{subst}
use Rattle.pop_model.specs.Instances.{IsInstance}
use Rattle.confluence_core.proofs.EventVariables.{event_known}
use Rattle.lock_board.proofs.book.Book.attempt_event.Goals as goal

pub poppable-requires-clause-known : goal.poppable-requires-clause-known
poppable-requires-clause-known g c =
    let is = subst IsInstance c.self.invariant.0 c.units-units.ensures.instance in
    event_known g.N.Site.instance (record { unit = c.args.unit; cube = c.args.cube.now }) c.self.inside.cursors is.fits
    c.requires.event c.self.invariant.1.count
