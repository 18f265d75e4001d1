use Rattle.std.proofs.Common.{◌≡◌, ◌<◌, ℕ}
use Rattle.confluence_core.specs.LeastVariables.{IsQuietAt}
use Rattle.confluence_core.proofs.cycle_search.first_poppable_cycle.Given as goal

-- no cycle whose least variable is before here is poppable
abbrev pub invariant-loop-v : goal.invariant-loop-v
invariant-loop-v l = record {
  quiet : (v : ℕ) → v < l.v → IsQuietAt l.current l.cursors v;
  reader : l.reader ≡ l.fn.reader;
}
