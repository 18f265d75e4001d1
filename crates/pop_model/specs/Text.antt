-- Lines of printed text.
use Rattle.std.specs.Prelude.{ℕ, List, [], ◌∷◌, ◌++◌, flat_map}

-- the bytes of a line, with its line end
abbrev pub line : List ℕ → List ℕ
line bytes = bytes ++ 10 ∷ []

-- tokens with a space before each
abbrev pub spaced : List (List ℕ) → List ℕ
spaced words = flat_map (λ word. 32 ∷ word) words
