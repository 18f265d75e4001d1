use Rattle.std.proofs.Common.{◌≡◌, map, take}
use Rattle.pop_watch.specs.Telling.{Watcher, log_told}
use Rattle.told_runs.proofs.telling.tell_log.Given as goal

-- the watchers were told the records up to here
abbrev pub invariant-loop-t : goal.invariant-loop-t
invariant-loop-t g l =
    map {B = Watcher} (λ b. let w = goal.Watch-dyn g (b.vtable, b.value) in (w.kind b.value, w.state b.value))
    l.watchers
    ≡ log_told (take l.t l.log)
    (map {B = Watcher} (λ b. let w = goal.Watch-dyn g (b.vtable, b.value) in (w.kind b.value, w.state b.value))
    l.fn.watchers)
