use Rattle.std.proofs.Common.{arith}
use Rattle.confluence_core.proofs.current_arrows.CurrentArrows.has_next.Goals as goal

pub has_next_at-requires-clause-place : goal.has_next_at-requires-clause-place
has_next_at-requires-clause-place c =
    let at = c.requires.cursors.within c.args.v (omega (arith, c.requires.known, c.count-count.ensures.instance.fits.0)) in
    omega (arith, at, c.get.ensures)
