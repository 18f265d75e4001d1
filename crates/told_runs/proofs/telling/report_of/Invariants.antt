use Rattle.std.proofs.Common.{◌≡◌, map, drop}
use Rattle.pop_watch.specs.Telling.{Watcher, first_report}
use Rattle.told_runs.proofs.telling.report_of.Given as goal

-- no watcher up to here has the kind
abbrev pub invariant-loop-i : goal.invariant-loop-i
invariant-loop-i g l =
    first_report l.wanted
    (map {B = Watcher} (λ b. let w = goal.Watch-dyn g (b.vtable, b.value) in (w.kind b.value, w.state b.value))
    l.watchers)
    ≡ first_report l.wanted
    (map {B = Watcher} (λ b. let w = goal.Watch-dyn g (b.vtable, b.value) in (w.kind b.value, w.state b.value))
    (drop l.i l.watchers))
