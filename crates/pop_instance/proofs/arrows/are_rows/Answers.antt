use Rattle.std.proofs.Common.{◌<◌, [], length, refl, sym, subst, ◌∙◌, arith}
use Rattle.std.proofs.lemmas.List.{length-map}
use Rattle.std.proofs.lemmas.List.Elements.{All-more}
use Rattle.pop_model.proofs.Members.{all_whole}
use Rattle.pop_instance.specs.Arrows.{IsRow, heads_of}
use Rattle.pop_instance.proofs.HeadRows.{row_is}
use Rattle.pop_instance.proofs.arrows.are_rows.Goals as goal

pub loop-row-preserved : goal.loop-row-preserved
loop-row-preserved c =
    let rows = c.args.rows.now in
    let k = c.loop-row.row-index in
    let size = length-map rows (λ row. row.items) in
    let inside : k < length rows = omega arith in
    let row = row_is rows k c.row-item.result inside c.row-item.is in
    let sound : IsRow (length rows) c.deref.result.now = c.if-not-is_row.ensures.0 refl in
    All-more (IsRow (length rows)) (heads_of rows) k [] (omega (arith, size, inside)) c.loop-row.invariant
    (subst (IsRow (length rows)) (c.deref.ensures.value ∙ sym row) sound)

pub returns-then-not-is_row : goal.returns-then-not-is_row
returns-then-not-is_row c =
    let rows = c.args.rows.now in
    let k = c.loop-row.row-index in
    let size = length-map rows (λ row. row.items) in
    let inside : k < length rows = omega arith in
    let row = row_is rows k c.row-item.result inside c.row-item.is in (
      λ yes'. cc,
      λ all. c.if-not-is_row.ensures.1 (subst (IsRow (length rows)) (row ∙ sym c.deref.ensures.value)
          (all k [] (omega (arith, size, inside)))),
    )

pub returns : goal.returns
returns c =
    let rows = c.args.rows.now in
    let size = length-map rows (λ row. row.items) in (
      λ yes'. all_whole (IsRow (length rows)) (heads_of rows) c.loop-row.row-index (omega (arith, size))
          c.loop-row.invariant,
      λ all. refl,
    )
