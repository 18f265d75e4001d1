use Rattle.std.proofs.Common.{arith}
use Rattle.confluence_core.proofs.current_arrows.CurrentArrows.head.Goals as goal

pub head_at-requires-clause-place : goal.head_at-requires-clause-place
head_at-requires-clause-place c =
    let at = c.requires.cursors.within c.args.v (omega (arith, c.requires.known, c.count-count.ensures.instance.fits.0)) in
    omega (arith, at, c.get.ensures)
