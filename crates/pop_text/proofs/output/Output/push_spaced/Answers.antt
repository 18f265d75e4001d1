use Rattle.std.proofs.Common.{length, ap, arith}
use Rattle.pop_text.proofs.DigitsLemmas.{length_twenty}
use Rattle.pop_text.proofs.output.Output.push_spaced.Goals as goal

pub put_spaced-requires : goal.put_spaced-requires
put_spaced-requires c =
    omega (arith, ap length c.new-text.ensures, length_twenty c.args.n c.ranges.n.fits)
