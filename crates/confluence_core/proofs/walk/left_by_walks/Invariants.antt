use Rattle.std.proofs.Common.{◌≡◌, ◌<◌, ℕ}
use Rattle.confluence_core.specs.Walks.{IsSettled}
use Rattle.confluence_core.specs.LoopErasedWalks.{Stands}
use Rattle.confluence_core.specs.Steps.{RunsOn}
use Rattle.confluence_core.proofs.walk.left_by_walks.Given as goal

-- the variables before here are settled
abbrev pub invariant-loop-v : goal.invariant-loop-v
invariant-loop-v l = record {
  stands : Stands l.walk;
  settled : (v : ℕ) → v < l.v → IsSettled l.walk.marks.items v;
  runs : RunsOn l.fn.current l.fn.walked l.walk.walked;
  current : l.walk.current ≡ l.fn.current;
  reader : l.reader ≡ l.fn.reader;
}
