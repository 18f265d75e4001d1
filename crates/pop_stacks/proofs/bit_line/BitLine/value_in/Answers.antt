use Rattle.std.proofs.Common.{sym, ◌∙◌}
use Rattle.std.proofs.lemmas.Nat.Bits.{shr_and_one}
use Rattle.std.specs.Int.{bit_at}
use Rattle.pop_stacks.proofs.KeptLemmas.{kept_by_line}
use Rattle.pop_stacks.proofs.bit_line.BitLine.value_in.Goals as goal

pub returns : goal.returns
returns c =
    kept_by_line c.args.lines.now c.args.v c.in_ok-line.line.now (λ l. l.mark) (λ l. bit_at l.bits) c.args.k
    c.in_ok-place.place _ c.in_ok-line.ensures.lookup.3.0 c.in_ok-line.ensures.lookup.1
    (sym c.place_of.ensures ∙ c.in_ok-place.was)
    (shr_and_one c.in_ok-line.line.now.bits c.in_ok-place.place)
