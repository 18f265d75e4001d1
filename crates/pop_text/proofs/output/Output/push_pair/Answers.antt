use Rattle.std.proofs.Common.{length, length-append, ap, arith}
use Rattle.pop_text.proofs.DigitsLemmas.{length_twenty}
use Rattle.pop_text.proofs.output.Output.push_pair.Goals as goal

pub put_number-requires : goal.put_number-requires
put_number-requires c =
    omega (arith, ap length c.new-text.ensures, length_twenty c.args.second c.ranges.second.fits)

pub put-requires : goal.put-requires
put-requires c =
    omega (
      arith,
      ap length c.new-text.ensures,
      simp length-append at (ap length c.put_number.ensures),
      length_twenty c.args.second c.ranges.second.fits,
    )

pub put_spaced-requires : goal.put_spaced-requires
put_spaced-requires c =
    omega (
      arith,
      ap length c.new-text.ensures,
      simp length-append at (ap length c.put_number.ensures),
      ap length c.put.ensures,
      length_twenty c.args.first c.ranges.first.fits,
      length_twenty c.args.second c.ranges.second.fits,
    )
