-- Lists that count things.
use Rattle.std.specs.Prelude.{◌↔◌, ◌≢◌, List, AllPairs, Contains}

-- a list of everything with this property, each once; its length is their number
pub record AreAll {X : Type 0} (P : X → Type 0) (xs : List X) : Type 0 where
  pub differ : AllPairs (λ x y. x ≢ y) xs
  pub exact : (x : X) → Contains xs x ↔ P x
