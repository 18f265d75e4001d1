use Rattle.confluence_core.specs.Loops.{Marks}
use Rattle.confluence_core.proofs.loops.mark_all.Given as goal

abbrev pub invariant-loop-v : goal.invariant-loop-v
invariant-loop-v l = Marks l.members l.v-index l.mark l.fn.marks l.marks
