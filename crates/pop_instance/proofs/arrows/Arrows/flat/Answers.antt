use Rattle.std.proofs.Common.{arith, refl}
use Rattle.pop_instance.proofs.NumberRows.{count_heads, number_arrows, short_heads}
use Rattle.pop_instance.proofs.arrows.Arrows.flat.Goals as goal

pub invariant_of-result : goal.invariant_of-result
invariant_of-result c =
    let rows = c.args.rows in (
      number_arrows rows (c.if-not-are_head_numbers.ensures.0 refl),
      omega (arith, count_heads rows, c.requires.short),
      short_heads rows c.requires.short_rows,
    )
