use Rattle.std.proofs.Common.{◌+◌, ◌*◌, ◌^◌, ◌∙◌, length, ap, sym, arith}
use Rattle.pop_model.specs.Stacks.{weighted}
use Rattle.pop_stacks.proofs.DrawsLemmas.{halves}
use Rattle.pop_stacks.proofs.WeightsBySums.{sums_there, sums_at, pair_at}
use Rattle.pop_stacks.proofs.sums.Sums.draw.Goals as goal

pub row-requires : goal.row-requires
row-requires c =
    sums_there c.args.self.now c.self.inside.kept c.in-Rows.rows c.args.v c.in-Rows.is c.self.view_is c.requires

pub draw-requires : goal.draw-requires
draw-requires c =
    let at = sums_at c.args.self.now c.self.inside.kept c.in-Rows.rows c.args.v c.row.result.now
    c.in-Rows.is c.self.view_is c.self.invariant c.requires c.row.ensures.row in
    record {
      some = at.some;
      short = at.short;
      rising = at.rising;
    }

pub returns-in-Rows : goal.returns-in-Rows
returns-in-Rows c =
    let at = sums_at c.args.self.now c.self.inside.kept c.in-Rows.rows c.args.v c.row.result.now
    c.in-Rows.is c.self.view_is c.self.invariant c.requires c.row.ensures.row in
    let number = c.args.low + 2 ^ 32 * c.args.high in
    record {
      value = c.draw.ensures.value
          ∙ ap (λ ws. weighted ws number) (sym at.row);
      within = let within = c.draw.ensures.within in omega (arith, at.size, within);
    }

pub returns-in-Pairs : goal.returns-in-Pairs
returns-in-Pairs c =
    let pair = pair_at c.args.self.now c.self.inside.kept c.in-Pairs.field-0 c.args.v
    c.in-Pairs.is c.self.view_is c.requires in
    let number = c.args.low + 2 ^ 32 * c.args.high in
    let fits = c.ranges.high.fits in
    record {
      value = halves c.args.low c.args.high c.ranges.low.fits fits ∙ ap (λ ws. weighted ws number) (sym pair);
      within = omega (arith, ap length pair, fits);
    }
