-- Lists with an array for each of them.
use Rattle.std.specs.Prelude.{List, map, Vec}

-- the lists in vectors
abbrev pub lists_in : {X A : Type 0} → List (Vec X A) → List (List X)
lists_in vectors = map (λ v. v.items) vectors
