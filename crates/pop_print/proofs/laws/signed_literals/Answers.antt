use Rattle.pop_print.proofs.SignedLiterals as law
use Rattle.pop_print.proofs.laws.signed_literals.Goals as goal

pub returns : goal.returns
returns c = law.signed_literals
