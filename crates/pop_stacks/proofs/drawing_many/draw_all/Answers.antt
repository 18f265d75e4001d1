use Rattle.std.proofs.Common.{◌-◌, length, get_or, sym, subst, arith}
use Rattle.pop_stacks.specs.Draws.{IsFirstAbove}
use Rattle.pop_stacks.proofs.DrawsLemmas.{rises_at}
use Rattle.pop_stacks.proofs.ManyDraws.{drawn_many, unit_first}
use Rattle.pop_stacks.proofs.drawing_many.draw_all.Goals as goal

pub scale_all-numbers-requires : goal.scale_all-numbers-requires
scale_all-numbers-requires g c =
    let some = c.requires.some in
    let place = c.requires.place in (
      omega (arith, place),
      (
        place,
        rises_at 0 c.args.sums.now (length c.args.sums.now - 1) c.requires.rising (omega arith),
      ),
    )

pub returns-then-total-sums : goal.returns-then-total-sums
returns-then-total-sums g c =
    let sums = c.args.sums.now in
    let numbers = c.scale_all-numbers.result in
    drawn_many sums c.args.words.now c.args.at g.row.N numbers c.narrow.result c.requires.some c.requires.rising
    c.scale_all-numbers.ensures.scaled
    (λ i below.
    let within = c.scale_all-numbers.ensures.below i below in
    subst (IsFirstAbove sums (get_or numbers i 0)) (sym (c.narrow.ensures i below))
    (unit_first sums (get_or numbers i 0) c.requires.rising c.if-total-sums.true
    (omega (arith, within, c.if-total-sums.true))))

pub returns-then-sums-le-FEW : goal.returns-then-sums-le-FEW
returns-then-sums-le-FEW g c =
    drawn_many c.args.sums.now c.args.words.now c.args.at g.row.N c.scale_all-numbers.result c.pass_all.result
    c.requires.some c.requires.rising c.scale_all-numbers.ensures.scaled c.pass_all.ensures

pub returns : goal.returns
returns g c =
    drawn_many c.args.sums.now c.args.words.now c.args.at g.row.N c.scale_all-numbers.result c.halve_all.result
    c.requires.some c.requires.rising c.scale_all-numbers.ensures.scaled c.halve_all.ensures
