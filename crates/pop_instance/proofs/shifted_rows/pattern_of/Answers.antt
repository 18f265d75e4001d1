use Rattle.std.proofs.Common.{◌∙◌, ◌+◌, ◌-◌, ◌%◌, ◌^◌, ℕ, List, ◌++◌, ◌∷◌, [], ap, ap₂, get_or, sym}
use Rattle.std.proofs.lemmas.List.{map-append, take_all, take_more}
use Rattle.pop_instance.specs.ShiftedRows.{shifted}
use Rattle.pop_instance.proofs.ShiftedRowsLemmas.{shifted_back}
use Rattle.pop_instance.proofs.shifted_rows.pattern_of.Goals as goal

pub loop-x-preserved : goal.loop-x-preserved
loop-x-preserved c =
    let v : ℕ = c.args.v in
    let x : ℕ = get_or c.args.row.now c.loop-x.x-index 0 in
    ap (shifted v) c.in_ok-push.ensures.items
    ∙ map-append (λ y. (v + y) % 2 ^ 32) c.loop-x.pattern.items ((x + (2 ^ 32 - v)) % 2 ^ 32 ∷ [])
    ∙ ap₂ (λ (xs : List ℕ) (y : ℕ). xs ++ y ∷ []) c.loop-x.invariant
    (shifted_back v x c.ranges.v.fits (c.type_inv.row c.loop-x.x-index).fits)
    ∙ sym (take_more c.args.row.now c.loop-x.x-index 0 c.loop-x-test.true)

pub returns : goal.returns
returns c = c.loop-x.invariant ∙ take_all c.loop-x.x-index c.args.row.now c.loop-x-test.false
