use Rattle.std.proofs.Common.{[], length, refl, arith}
use Rattle.std.proofs.lemmas.List.Elements.{All-more}
use Rattle.pop_model.proofs.Members.{all_whole}
use Rattle.pop_instance.specs.Arrows.{IsNumberRow}
use Rattle.pop_instance.proofs.arrows.are_head_numbers.Goals as goal

pub loop-v-preserved : goal.loop-v-preserved
loop-v-preserved c =
    let rows = c.args.rows.now in
    let count = length rows in
    All-more (IsNumberRow count) rows c.loop-v.v [] (omega (arith, c.count-count.ensures)) c.loop-v.invariant
    (rw (← c.row.ensures.row, ← c.count-count.ensures) (c.if-not-is_number_row.ensures.0 refl))

pub returns : goal.returns
returns c =
    let rows = c.args.rows.now in (
      λ yes'. all_whole (IsNumberRow (length rows)) rows c.loop-v.v (omega (arith, c.count-count.ensures))
          c.loop-v.invariant,
      λ all. refl,
    )
