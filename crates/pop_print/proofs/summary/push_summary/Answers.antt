use Rattle.std.proofs.Common.{◌++◌, ◌+◌, ap, ◌∙◌, arith}
use Rattle.std.proofs.lemmas.Result.{on_ok_weaker}
use Rattle.pop_print.specs.Made.{grid_line, count_line, slot_sum, sum_line}
use Rattle.graph_read.specs.Grids.{grid_of}
use Rattle.pop_print.proofs.EndLemmas.{values_count, slots_known}
use Rattle.pop_print.proofs.SummaryLemmas.{summary_sample, summary_stuck}
use Rattle.pop_print.proofs.summary.push_summary.Goals as goal

pub returns-in_ok-push_line-2 : goal.returns-in_ok-push_line-2
returns-in_ok-push_line-2 c =
    on_ok_weaker c.push_line-then-len-eq0-2.result
    (λ summed. summary_sample c.args.side c.args.end.now.pops c.args.instance.now.stacks c.args.end.now.cursors
    c.args.end.now.stuck c.args.out.now c.push.new.self c.push_line.new.out c.push_totals.new.out
    c.push_line-then-len-eq0.new.out c.push_line-then-len-eq0-2.new.out (omega arith) c.in_ok-push.ensures
    (c.in_ok-push_line.ensures ∙ ap (λ n. c.push.new.self ++ grid_line n) c.from.ensures)
    c.in_ok-push_totals.ensures c.in_ok-push_line-2.ensures
    (summed ∙ ap (λ n. c.push_line-then-len-eq0.new.out ++ sum_line n)
    (c.slot_sum.ensures ∙ ap slot_sum c.requires.end.values.are)))
    c.push_line-then-len-eq0-2.ensures

pub returns-in_ok-push_totals-2 : goal.returns-in_ok-push_totals-2
returns-in_ok-push_totals-2 c =
    on_ok_weaker c.push_line-else-len-eq0-3.result
    (summary_stuck c.args.side c.args.end.now.pops c.args.instance.now.stacks c.args.end.now.cursors
    c.args.end.now.stuck c.args.out.now c.push-else-len-eq0.new.self c.push_line-else-len-eq0.new.out
    c.push_line-else-len-eq0-2.new.out c.push_totals-else-len-eq0.new.out c.push_line-else-len-eq0-3.new.out
    (omega arith) c.in_ok-push-2.ensures
    (c.in_ok-push_line-3.ensures
    ∙ ap (λ n. c.push-else-len-eq0.new.self ++ grid_line n) c.from-else-len-eq0.ensures)
    (c.in_ok-push_line-4.ensures
    ∙ ap (λ n. c.push_line-else-len-eq0.new.out ++ count_line n) c.len-else-len-eq0.ensures)
    c.in_ok-push_totals-2.ensures)
    c.push_line-else-len-eq0-3.ensures

pub slot_sum-requires-clause-count : goal.slot_sum-requires-clause-count
slot_sum-requires-clause-count c =
    let i = c.args.instance.now in
    let end = c.args.end.now in
    ap (λ n. n + 1) (values_count i end.cursors end.stuck end.values c.requires.end) ∙ c.requires.grid.tree.count

pub slot_sum-requires-clause-slots : goal.slot_sum-requires-clause-slots
slot_sum-requires-clause-slots c =
    let i = c.args.instance.now in
    let end = c.args.end.now in
    slots_known i (grid_of c.args.side) 1 end.values c.requires.grid.tree
    (values_count i end.cursors end.stuck end.values c.requires.end) c.requires.end.values.within
