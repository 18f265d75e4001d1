use Rattle.confluence_core.specs.Loops.{Raises}
use Rattle.confluence_core.proofs.loops.raise.Given as goal

abbrev pub invariant-loop-v : goal.invariant-loop-v
invariant-loop-v l = Raises l.members l.v-index l.fn.cursors l.cursors
