use Rattle.std.proofs.Common.{inl, inr, rules, ◌≡◌, sym, ap, ◌∙◌, arith, nat_eq}
use Rattle.std.specs.Str.{bytes_eq}
use Rattle.std.proofs.lemmas.Bool.{not-true, not-false}
use Rattle.std.proofs.lemmas.Iterator.Consumers.{YieldsList-at, YieldsList-turn, YieldsList-end}
use Rattle.std.proofs.lemmas.Iterator.Splits.{YieldsList-from_slice_split}
use Rattle.std.proofs.lemmas.List.{length_push}
use borrow.Author.Tests.{tests}
use Rattle.pop_words.specs.Values.{totals_name, heights_name, layers_name}
use Rattle.pop_words.proofs.ReportParts.{IsPast, totals_more, heights_more, layers_more, not_fresh, all_named}
use Rattle.pop_words.proofs.value.reports_in.Goals as goal
use Rattle.pop_words.proofs.value.reports_in.Goals.{else-eq-via-then-eq+else-not-reports, else-eq-via-else-eq, else-eq-2-via-then-eq-2+else-not-reports-2, else-eq-2-via-else-eq-2, else-eq-3-via-then-eq-3+else-not-reports-3, else-eq-3-via-else-eq-3}

pub loop-part-preserved-then-not-reports : goal.loop-part-preserved-then-not-reports
loop-part-preserved-then-not-reports c =
    let turn = YieldsList-turn (YieldsList-at c.into_iter-part-iterator.ensures.into_iter_gives
    (YieldsList-from_slice_split _ (λ b. nat_eq b 44) c.args.word.now c.split-part-items.ensures.rest
    c.split-part-items.ensures.done c.split-part-items.ensures.closure (λ x b q k. search (rules, tests))))
    c.loop-part.yielded _ c.loop-part.yielded_by _ _ c.in-Some.part c.in-Some.is c.next.ensures.steps in
    rw (length_push c.loop-part.yielded c.in-Some.part) (totals_more c.args.word.now _ c.loop-part.reports
    c.in-Some.part.now c.loop-part.invariant turn.0 turn.1
    (ap (bytes_eq c.in-Some.part.now) (sym c.as_bytes.ensures.value) ∙ sym c.eq.ensures ∙ c.if-eq.true)
    (not-true _ c.if-not-reports.true))

pub loop-part-preserved-then-not-reports-2 : goal.loop-part-preserved-then-not-reports-2
loop-part-preserved-then-not-reports-2 c =
    let turn = YieldsList-turn (YieldsList-at c.into_iter-part-iterator.ensures.into_iter_gives
    (YieldsList-from_slice_split _ (λ b. nat_eq b 44) c.args.word.now c.split-part-items.ensures.rest
    c.split-part-items.ensures.done c.split-part-items.ensures.closure (λ x b q k. search (rules, tests))))
    c.loop-part.yielded _ c.loop-part.yielded_by _ _ c.in-Some.part c.in-Some.is c.next.ensures.steps in
    rw (length_push c.loop-part.yielded c.in-Some.part) (heights_more c.args.word.now _ c.loop-part.reports
    c.in-Some.part.now c.loop-part.invariant turn.0 turn.1
    (ap (bytes_eq c.in-Some.part.now) (sym c.as_bytes-else-eq.ensures.value) ∙ sym c.eq-else-eq.ensures
    ∙ c.if-eq-2.true)
    (not-true _ c.if-not-reports-2.true))

pub loop-part-preserved : goal.loop-part-preserved
loop-part-preserved c =
    let turn = YieldsList-turn (YieldsList-at c.into_iter-part-iterator.ensures.into_iter_gives
    (YieldsList-from_slice_split _ (λ b. nat_eq b 44) c.args.word.now c.split-part-items.ensures.rest
    c.split-part-items.ensures.done c.split-part-items.ensures.closure (λ x b q k. search (rules, tests))))
    c.loop-part.yielded _ c.loop-part.yielded_by _ _ c.in-Some.part c.in-Some.is c.next.ensures.steps in
    rw (length_push c.loop-part.yielded c.in-Some.part) (layers_more c.args.word.now _ c.loop-part.reports
    c.in-Some.part.now c.loop-part.invariant turn.0 turn.1
    (ap (bytes_eq c.in-Some.part.now) (sym c.as_bytes-else-eq-2.ensures.value) ∙ sym c.eq-else-eq-2.ensures
    ∙ c.if-eq-3.true)
    (not-true _ c.if-not-reports-3.true))

pub returns-else-eq-3 : goal.returns-else-eq-3
returns-else-eq-3 c =
    let turn = YieldsList-turn (YieldsList-at c.into_iter-part-iterator.ensures.into_iter_gives
    (YieldsList-from_slice_split _ (λ b. nat_eq b 44) c.args.word.now c.split-part-items.ensures.rest
    c.split-part-items.ensures.done c.split-part-items.ensures.closure (λ x b q k. search (rules, tests))))
    c.loop-part.yielded _ c.loop-part.yielded_by _ _ c.in-Some.part c.in-Some.is c.next.ensures.steps in
    let is_totals : bytes_eq c.in-Some.part.now totals_name ≡ c.eq.result =
    ap (bytes_eq c.in-Some.part.now) (sym c.as_bytes.ensures.value) ∙ sym c.eq.ensures in
    let is_heights : bytes_eq c.in-Some.part.now heights_name ≡ c.eq-else-eq.result =
    ap (bytes_eq c.in-Some.part.now) (sym c.as_bytes-else-eq.ensures.value) ∙ sym c.eq-else-eq.ensures in
    let totals : IsPast c.in-Some.part.now totals_name c.loop-part.reports.totals = elim c.else-eq.branch [
      | else-eq-via-then-eq+else-not-reports w ↦ inr (is_totals ∙ w.if-eq.true, not-false _ w.if-not-reports.false)
      | else-eq-via-else-eq w ↦ inl (is_totals ∙ w.if-eq.false)
    ] in
    let heights : IsPast c.in-Some.part.now heights_name c.loop-part.reports.heights = elim c.else-eq-2.branch [
      | else-eq-2-via-then-eq-2+else-not-reports-2 w ↦ inr (
        is_heights ∙ w.if-eq-2.true,
        not-false _ w.if-not-reports-2.false,
      )
      | else-eq-2-via-else-eq-2 w ↦ inl (is_heights ∙ w.if-eq-2.false)
    ] in
    let is_layers : bytes_eq c.in-Some.part.now layers_name ≡ c.eq-else-eq-2.result =
    ap (bytes_eq c.in-Some.part.now) (sym c.as_bytes-else-eq-2.ensures.value) ∙ sym c.eq-else-eq-2.ensures in
    let layers : IsPast c.in-Some.part.now layers_name c.loop-part.reports.layers = elim c.else-eq-3.branch [
      | else-eq-3-via-then-eq-3+else-not-reports-3 w ↦ inr (
        is_layers ∙ w.if-eq-3.true,
        not-false _ w.if-not-reports-3.false,
      )
      | else-eq-3-via-else-eq-3 w ↦ inl (is_layers ∙ w.if-eq-3.false)
    ] in
    sym (not_fresh c.args.word.now _ c.loop-part.reports c.in-Some.part.now c.loop-part.invariant turn.0 turn.1
    totals heights layers)

pub returns : goal.returns
returns c =
    let end = YieldsList-end (YieldsList-at c.into_iter-part-iterator.ensures.into_iter_gives
    (YieldsList-from_slice_split _ (λ b. nat_eq b 44) c.args.word.now c.split-part-items.ensures.rest
    c.split-part-items.ensures.done c.split-part-items.ensures.closure (λ x b q k. search (rules, tests))))
    c.loop-part.yielded _ c.loop-part.yielded_by _ _ c.in-None.is c.next.ensures.steps in
    sym (all_named c.args.word.now _ c.loop-part.reports c.loop-part.invariant (omega (arith, end.1)))
