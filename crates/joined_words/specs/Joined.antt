-- Arguments in one array of bytes; each is ended by a byte 0.
use Rattle.std.specs.Prelude.{◌≡◌, ◌≢◌, ℕ, List, [], ◌∷◌, ◌++◌, flat_map, All, IsUtf8}

-- an argument with the byte that ends it
abbrev pub ended : List ℕ → List ℕ
ended word = word ++ 0 ∷ []

-- no byte of the argument is 0
abbrev pub IsPlain : List ℕ → Type 0
IsPlain word = All (λ b. b ≢ 0) word

-- the bytes are those of the arguments, each with a byte 0 at its end
pub record AreJoined (bytes : List ℕ) (words : List (List ℕ)) : Type 0 where
  pub joined : bytes ≡ flat_map ended words
  pub plain : All IsPlain words

-- the bytes are not those of arguments in UTF-8
abbrev pub AreNoWords : List ℕ → Type 0
AreNoWords bytes = (words : List (List ℕ)) → All IsUtf8 words → AreJoined bytes words → ⊥
