use Rattle.popsample_c.proofs.FittingCalls.{fits_then}
use Rattle.popsample_c.proofs.laws.fits_then.Goals as goal

pub returns : goal.returns
returns c = fits_then
