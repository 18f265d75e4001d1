use Rattle.std.proofs.Common.{ℕ, List, Some, sym, ap, ◌∙◌}
use Rattle.told_runs.proofs.FirstOfKind.{skipped, found}
use Rattle.told_runs.proofs.telling.report_of.Goals as goal

pub returns-then-kind_of-wanted : goal.returns-then-kind_of-wanted
returns-then-kind_of-wanted g c =
    ap (λ (bytes : List ℕ). Some bytes) c.in_ok-report_by.ensures
    ∙ sym (found _ c.args.watchers.now c.loop-i.i c.args.wanted c.index-watchers-i.result c.loop-i-test.true
    c.index-watchers-i.is (sym c.kind_of.ensures ∙ c.if-kind_of-wanted.true) c.loop-i.invariant)

pub loop-i-preserved : goal.loop-i-preserved
loop-i-preserved g c =
    skipped _ c.args.watchers.now c.loop-i.i c.args.wanted c.index-watchers-i.result c.loop-i-test.true
    c.index-watchers-i.is (λ has. c.if-kind_of-wanted.false (c.kind_of.ensures ∙ has)) c.loop-i.invariant
