use Rattle.std.proofs.Common.{length, length-append, ap, arith}
use Rattle.pop_text.proofs.DigitsLemmas.{length_ten}
use Rattle.pop_text.proofs.tests.a_short_text_is_written_from_its_end_to_its_front.Goals as goal

pub put_spaced-requires : goal.put_spaced-requires
put_spaced-requires g c =
    omega (arith, ap length c.new-text.ensures, ap length c.put.ensures, length_ten 4294967295 (omega arith))

pub put_number-requires : goal.put_number-requires
put_number-requires g c =
    omega (
      arith,
      ap length c.new-text.ensures,
      ap length c.put.ensures,
      simp length-append at (ap length c.put_spaced.ensures),
      length_ten 4294967295 (omega arith),
      length_ten 10 (omega arith),
    )

pub put-requires-2 : goal.put-requires-2
put-requires-2 g c =
    omega (
      arith,
      ap length c.new-text.ensures,
      ap length c.put.ensures,
      simp length-append at (ap length c.put_spaced.ensures),
      simp length-append at (ap length c.put_number.ensures),
      length_ten 4294967295 (omega arith),
      length_ten 10 (omega arith),
    )
