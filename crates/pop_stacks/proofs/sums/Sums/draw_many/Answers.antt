use Rattle.std.proofs.Common.{sym, subst, arith}
use Rattle.pop_stacks.specs.Draws.{AreDrawn}
use Rattle.pop_stacks.proofs.WeightsBySums.{sums_there, sums_at, pair_at}
use Rattle.pop_stacks.proofs.sums.Sums.draw_many.Goals as goal

pub row-requires : goal.row-requires
row-requires g c =
    sums_there c.args.self.now c.self.inside.kept c.in-Rows.rows c.args.v c.in-Rows.is c.self.view_is
    c.requires.known

pub draw_all-requires : goal.draw_all-requires
draw_all-requires g c =
    let at = sums_at c.args.self.now c.self.inside.kept c.in-Rows.rows c.args.v c.row.result.now
    c.in-Rows.is c.self.view_is c.self.invariant c.requires.known c.row.ensures.row in
    let small = c.requires.small in
    let place = c.requires.place in
    (omega (arith, place), (place, (at.some, (omega (arith, at.size, small), at.rising))))

pub returns-in-Rows : goal.returns-in-Rows
returns-in-Rows g c =
    let at = sums_at c.args.self.now c.self.inside.kept c.in-Rows.rows c.args.v c.row.result.now
    c.in-Rows.is c.self.view_is c.self.invariant c.requires.known c.row.ensures.row in
    subst (λ weights. AreDrawn weights c.args.words.now c.args.at g.row.N c.draw_all.result) (sym at.row) c.draw_all.ensures

pub returns-in-Pairs : goal.returns-in-Pairs
returns-in-Pairs g c =
    let pair = pair_at c.args.self.now c.self.inside.kept c.in-Pairs.field-0 c.args.v
    c.in-Pairs.is c.self.view_is c.requires.known in
    subst (λ weights. AreDrawn weights c.args.words.now c.args.at g.row.N c.draw_pairs.result) (sym pair) c.draw_pairs.ensures
