-- The literal of a variable by its value.
use Rattle.std.proofs.Common.{◌≡◌, suc, ◌+◌, ◌∷◌, decimal, refl, ap, arith}
use Rattle.pop_print.specs.Laws.{SignedLiterals}

-- the law
pub signed_literals : SignedLiterals
signed_literals v = (refl, let next : v + 1 ≡ suc v = omega arith in ap (λ n. 45 ∷ decimal n) next)
