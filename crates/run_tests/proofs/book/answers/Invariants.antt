use Rattle.pop_stacks.specs.Readers.{Belongs}
use Rattle.run_tests.proofs.book.answers.Given as goal

abbrev pub invariant-loop-unit : goal.invariant-loop-unit
invariant-loop-unit g l = Belongs g.N.Site.instance.stacks l.reader
