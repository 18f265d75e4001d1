use Rattle.std.proofs.Common.{◌<◌, [], length, get_or, ap, arith}
use Rattle.std.proofs.lemmas.List.{length-map}
use Rattle.pop_instance.specs.KeptHeads.{heads_kept}
use Rattle.pop_instance.proofs.HeadRows.{row_is}
use Rattle.pop_instance.proofs.kept_heads.KeptHeads.slots.Goals as goal

pub overflow_cast-result : goal.overflow_cast-result
overflow_cast-result c =
    let rows = c.in-Nested.rows.items in
    let v = c.args.v in
    let size = length-map rows (λ row. row.items) in
    let kept = ap heads_kept c.in-Nested.is in
    let inside : v < length rows = omega (arith, size, ap length kept, c.requires.known) in
    let row = ap length (row_is rows v c.index.result.now inside c.index.ensures) in
    let same = ap (λ heads. length (get_or heads v [])) kept in
    let short = c.requires.short v [] c.requires.known in
    omega (arith, row, same, short, c.len.ensures)
