-- The line of a record, as its layer and the bytes after it.
use Rattle.std.specs.Prelude.{◌≡◌, ℕ, ◌<◌, ◌^◌, List, ◌∷◌, ◌++◌, decimal, codes}
use Rattle.pop_log.specs.declared.log_version.LogVersion.{LogVersion}
use Rattle.pop_log.specs.declared.log_version.LogVersion.TheVariants.{Ordered, Layered}

-- the line states a layer, at least 1, and then has these bytes
pub record SaysLayer (l : List ℕ) (y : ℕ) (words : List ℕ) : Type 0 where
  pub some : 0 < y
  pub small : y < 2 ^ 64
  pub line_is : l ≡ codes "pop " ++ (decimal y ++ 32 ∷ words)

-- the bytes of a line after its layer; if the version states none, the layer is 0
abbrev pub HasWords : LogVersion → List ℕ → ℕ → List ℕ → Type 0
HasWords Ordered l y words = (y ≡ 0) × (l ≡ codes "pop " ++ words)
HasWords Layered l y words = SaysLayer l y words
