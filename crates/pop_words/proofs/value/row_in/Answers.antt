use Rattle.std.proofs.Common.{rules, ◌≡◌, ◌+◌, length, sym, ap, ◌∙◌, arith, nat_eq, None, [], ◌∷◌, ◌++◌}
use Rattle.std.proofs.lemmas.Bool.{le-leb}
use Rattle.std.proofs.lemmas.Iterator.Consumers.{YieldsList-at, YieldsList-turn, YieldsList-end}
use Rattle.std.proofs.lemmas.Iterator.Splits.{YieldsList-from_slice_split}
use Rattle.std.proofs.lemmas.List.{length_push}
use borrow.Author.Tests.{tests}
use Rattle.pop_edge.specs.Numbers.{number_of}
use Rattle.pop_words.specs.Values.{only_if, comma_parts, fits_in}
use Rattle.pop_words.proofs.ValuesLemmas.{passes}
use Rattle.pop_words.proofs.Parts.{read_more, none_of_all, read_all, none_passes}
use Rattle.pop_words.proofs.RowParts.{row_by_parts, too_long}
use Rattle.pop_words.proofs.value.row_in.Goals as goal

pub returns-in_default : goal.returns-in_default
returns-in_default c =
    let parts = comma_parts c.args.word.now in
    let turn = YieldsList-turn (YieldsList-at c.into_iter-part-iterator.ensures.into_iter_gives
    (YieldsList-from_slice_split _ (λ b. nat_eq b 44) c.args.word.now c.split-part-items.ensures.rest
    c.split-part-items.ensures.done c.split-part-items.ensures.closure (λ x b q k. search (rules, tests))))
    c.loop-part.yielded _ c.loop-part.yielded_by _ _ c.in-Some.part c.in-Some.is c.next.ensures.steps in
    let no_number : number_of c.in-Some.part.now ≡ None = sym c.in_default.ensures in
    sym (ap (only_if (fits_in c.args.room)) (row_by_parts c.args.word.now
    (sym c.is_empty.ensures ∙ c.if-is_empty.false))
    ∙ ap (only_if (fits_in c.args.room)) (none_of_all number_of parts _ _ c.in-Some.part.now
    c.loop-part.invariant.read turn.0 turn.1 no_number))

pub loop-part-preserved : goal.loop-part-preserved
loop-part-preserved c =
    let turn = YieldsList-turn (YieldsList-at c.into_iter-part-iterator.ensures.into_iter_gives
    (YieldsList-from_slice_split _ (λ b. nat_eq b 44) c.args.word.now c.split-part-items.ensures.rest
    c.split-part-items.ensures.done c.split-part-items.ensures.closure (λ x b q k. search (rules, tests))))
    c.loop-part.yielded _ c.loop-part.yielded_by _ _ c.in-Some.part c.in-Some.is c.next.ensures.steps in
    let items : c.push.new.self.items ≡ c.loop-part.row.items ++ c.in-Some-number.n ∷ [] =
    c.in_ok-push.ensures.items in
    let count : length (c.loop-part.yielded ++ c.in-Some.part ∷ []) ≡ length c.loop-part.yielded + 1 =
    length_push _ _ in
    record {
      read = rw (items, count) (read_more number_of (comma_parts c.args.word.now) _ _ c.in-Some.part.now
          c.in-Some-number.n
          c.loop-part.invariant.read turn.0 turn.1 (sym c.in-Some-number.ensures));
      fits = rw items (omega (arith, length_push c.loop-part.row.items c.in-Some-number.n));
    }

pub returns-then-len-room : goal.returns-then-len-room
returns-then-len-room c =
    let parts = comma_parts c.args.word.now in
    let turn = YieldsList-turn (YieldsList-at c.into_iter-part-iterator.ensures.into_iter_gives
    (YieldsList-from_slice_split _ (λ b. nat_eq b 44) c.args.word.now c.split-part-items.ensures.rest
    c.split-part-items.ensures.done c.split-part-items.ensures.closure (λ x b q k. search (rules, tests))))
    c.loop-part.yielded _ c.loop-part.yielded_by _ _ c.in-Some.part c.in-Some.is c.next.ensures.steps in
    sym (ap (only_if (fits_in c.args.room)) (row_by_parts c.args.word.now
    (sym c.is_empty.ensures ∙ c.if-is_empty.false))
    ∙ none_passes number_of parts _ _ c.in-Some.part.now c.in-Some-number.n
    (fits_in c.args.room) c.loop-part.invariant.read
    turn.0 turn.1 (sym c.in-Some-number.ensures) (too_long c.loop-part.row.items c.args.room c.in-Some-number.n
    (omega arith)))

pub returns : goal.returns
returns c =
    let parts = comma_parts c.args.word.now in
    let end = YieldsList-end (YieldsList-at c.into_iter-part-iterator.ensures.into_iter_gives
    (YieldsList-from_slice_split _ (λ b. nat_eq b 44) c.args.word.now c.split-part-items.ensures.rest
    c.split-part-items.ensures.done c.split-part-items.ensures.closure (λ x b q k. search (rules, tests))))
    c.loop-part.yielded _ c.loop-part.yielded_by _ _ c.in-None.is c.next.ensures.steps in
    sym (ap (only_if (fits_in c.args.room)) (row_by_parts c.args.word.now
    (sym c.is_empty.ensures ∙ c.if-is_empty.false))
    ∙ passes _ _ c.loop-part.row.items (read_all number_of parts _ _ c.loop-part.invariant.read
    (omega (arith, end.1)))
    (le-leb _ _ c.loop-part.invariant.fits))
