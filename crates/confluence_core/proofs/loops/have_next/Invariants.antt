use Rattle.std.proofs.Common.{take}
use Rattle.confluence_core.specs.Loops.{HaveNext}
use Rattle.confluence_core.proofs.loops.have_next.Given as goal

-- the variables before here have
abbrev pub invariant-loop-v : goal.invariant-loop-v
invariant-loop-v l = HaveNext l.current l.cursors (take l.v-index l.members)
