use Rattle.std.proofs.Common.{rules, ◌≡◌, ◌+◌, ◌-◌, option_map, vec_items, length, sym, ap, ◌∙◌, arith, Some, nat_eq, [], ◌∷◌, ◌++◌}
use Rattle.std.proofs.lemmas.Iterator.Consumers.{YieldsList-at, YieldsList-turn, YieldsList-end}
use Rattle.std.proofs.lemmas.Iterator.Splits.{YieldsList-from_slice_split}
use Rattle.std.proofs.lemmas.List.{length_push, length-map, map-append}
use borrow.Author.Tests.{tests}
use Rattle.pop_stacks.specs.Rows.{lists_of}
use Rattle.pop_words.proofs.RowParts.{no_row, no_more_rows, row_more, rows_all}
use Rattle.pop_words.proofs.value.rows_in.Goals as goal

pub returns-in_default : goal.returns-in_default
returns-in_default c =
    let turn = YieldsList-turn (YieldsList-at c.into_iter-part-iterator.ensures.into_iter_gives
    (YieldsList-from_slice_split _ (λ b. nat_eq b 59) c.args.word.now c.split-part-items.ensures.rest
    c.split-part-items.ensures.done c.split-part-items.ensures.closure (λ x b q k. search (rules, tests))))
    c.loop-part.yielded _ c.loop-part.yielded_by _ _ c.in-Some.part c.in-Some.is c.next.ensures.steps in
    sym (no_row c.args.word.now _ _ c.loop-part.room c.in-Some.part.now
    (sym c.is_empty.ensures ∙ c.if-is_empty.false)
    c.loop-part.invariant turn.0 turn.1 (sym c.in_ok-row.ensures ∙ ap (option_map vec_items) c.in_default.is))

pub returns-then-len-ge-MAX_ROWS : goal.returns-then-len-ge-MAX_ROWS
returns-then-len-ge-MAX_ROWS c =
    let turn = YieldsList-turn (YieldsList-at c.into_iter-part-iterator.ensures.into_iter_gives
    (YieldsList-from_slice_split _ (λ b. nat_eq b 59) c.args.word.now c.split-part-items.ensures.rest
    c.split-part-items.ensures.done c.split-part-items.ensures.closure (λ x b q k. search (rules, tests))))
    c.loop-part.yielded _ c.loop-part.yielded_by _ _ c.in-Some.part c.in-Some.is c.next.ensures.steps in
    sym (no_more_rows c.args.word.now _ _ c.loop-part.room c.in-Some.part.now c.in-Some-2.row.items
    (sym c.is_empty.ensures ∙ c.if-is_empty.false) c.loop-part.invariant turn.0 turn.1
    (sym c.in_ok-row.ensures ∙ ap (option_map vec_items) c.in-Some-2.is)
    (omega (arith, length-map c.loop-part.rows.items (λ v. v.items))))

pub loop-part-preserved : goal.loop-part-preserved
loop-part-preserved c =
    let turn = YieldsList-turn (YieldsList-at c.into_iter-part-iterator.ensures.into_iter_gives
    (YieldsList-from_slice_split _ (λ b. nat_eq b 59) c.args.word.now c.split-part-items.ensures.rest
    c.split-part-items.ensures.done c.split-part-items.ensures.closure (λ x b q k. search (rules, tests))))
    c.loop-part.yielded _ c.loop-part.yielded_by _ _ c.in-Some.part c.in-Some.is c.next.ensures.steps in
    let pushed : lists_of c.push.new.self.items ≡ lists_of c.loop-part.rows.items ++ c.in-Some-2.row.items ∷ [] =
    ap lists_of c.in_ok-push.ensures.items ∙ map-append _ c.loop-part.rows.items (c.in-Some-2.row ∷ []) in
    let count : length (c.loop-part.yielded ++ c.in-Some.part ∷ []) ≡ length c.loop-part.yielded + 1 =
    length_push _ _ in
    let left : c.loop-part.room - c.len-room.result ≡ c.loop-part.room - length c.in-Some-2.row.items =
    omega (arith, c.len-room.ensures) in
    rw (pushed, count, left) (row_more c.args.word.now _ _ c.loop-part.room c.in-Some.part.now c.in-Some-2.row.items
    c.loop-part.invariant turn.0 turn.1
    (sym c.in_ok-row.ensures ∙ ap (option_map vec_items) c.in-Some-2.is)
    (omega (arith, length-map c.loop-part.rows.items (λ v. v.items))))

pub returns : goal.returns
returns c =
    let end = YieldsList-end (YieldsList-at c.into_iter-part-iterator.ensures.into_iter_gives
    (YieldsList-from_slice_split _ (λ b. nat_eq b 59) c.args.word.now c.split-part-items.ensures.rest
    c.split-part-items.ensures.done c.split-part-items.ensures.closure (λ x b q k. search (rules, tests))))
    c.loop-part.yielded _ c.loop-part.yielded_by _ _ c.in-None.is c.next.ensures.steps in
    ap Some c.of-2.ensures ∙ sym (rows_all c.args.word.now _ _ c.loop-part.room
    (sym c.is_empty.ensures ∙ c.if-is_empty.false) c.loop-part.invariant (omega (arith, end.1)))
