use Rattle.std.proofs.Common.{length, ap, sym, arith}
use Rattle.pop_stacks.proofs.WeightsBySums.{sums_there, sums_at, pair_at}
use Rattle.pop_stacks.proofs.sums.Sums.slots.Goals as goal

pub row-requires : goal.row-requires
row-requires c =
    sums_there c.args.self.now c.self.inside.kept c.in-Rows.rows c.args.v c.in-Rows.is c.self.view_is c.requires

pub overflow_cast-result : goal.overflow_cast-result
overflow_cast-result c =
    let at = sums_at c.args.self.now c.self.inside.kept c.in-Rows.rows c.args.v c.row.result.now
    c.in-Rows.is c.self.view_is c.self.invariant c.requires c.row.ensures.row in
    omega (arith, at.short)

pub returns-in-Rows : goal.returns-in-Rows
returns-in-Rows c =
    let at = sums_at c.args.self.now c.self.inside.kept c.in-Rows.rows c.args.v c.row.result.now
    c.in-Rows.is c.self.view_is c.self.invariant c.requires c.row.ensures.row in
    sym at.size

pub returns-in-Pairs : goal.returns-in-Pairs
returns-in-Pairs c =
    let pair = pair_at c.args.self.now c.self.inside.kept c.in-Pairs.field-0 c.args.v
    c.in-Pairs.is c.self.view_is c.requires in
    sym (ap length pair)
