use Rattle.std.proofs.Common.{◌≡◌, ◌<◌, ◌≤◌, ◌^◌, ◌∷◌, ◌++◌, [], ℕ, List, length, decimal, ap, arith}
use Rattle.pop_text.proofs.DigitsLemmas.{length_ten, length_spaced}
use Rattle.pop_print.proofs.arrow.push_arrow.Goals as goal

-- two numbers with a space before each, in front of the end of a line
length_two : (n m : ℕ) (none end one two : List ℕ) → n < 2 ^ 32 → m < 2 ^ 32 → none ≡ [] → end ≡ 10 ∷ none
    → one ≡ 32 ∷ decimal n ++ end → two ≡ 32 ∷ decimal m ++ one → length two ≤ 23
length_two n m none end one two few few' empty ends first second =
    omega (
      arith,
      ap length empty,
      ap length ends,
      length_spaced n end one few first,
      length_spaced m one two few' second,
    )

pub put_spaced-requires : goal.put_spaced-requires
put_spaced-requires c =
    omega (arith, ap length c.new-line.ensures, ap length c.put.ensures, length_ten c.from.result (omega arith))

pub put_spaced-requires-2 : goal.put_spaced-requires-2
put_spaced-requires-2 c =
    omega (
      arith,
      ap length c.new-line.ensures,
      ap length c.put.ensures,
      length_spaced c.from.result _ _ (omega arith) c.put_spaced.ensures,
      length_ten c.from-2.result (omega arith),
    )

pub put_spaced-requires-3 : goal.put_spaced-requires-3
put_spaced-requires-3 c =
    omega (
      arith,
      length_two c.from.result c.from-2.result _ _ _ _ (omega arith) (omega arith) c.new-line.ensures c.put.ensures
          c.put_spaced.ensures c.put_spaced-2.ensures,
      length_ten c.from-3.result (omega arith),
    )

pub put-requires-2 : goal.put-requires-2
put-requires-2 c =
    omega (
      arith,
      length_two c.from.result c.from-2.result _ _ _ _ (omega arith) (omega arith) c.new-line.ensures c.put.ensures
          c.put_spaced.ensures c.put_spaced-2.ensures,
      length_spaced c.from-3.result _ _ (omega arith) c.put_spaced-3.ensures,
    )
