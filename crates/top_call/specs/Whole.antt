-- A source that is read completely, or up to the first byte past a limit.
use Rattle.std.specs.Prelude.{◌≡◌, ℕ, ◌+◌, ◌≤◌, List, ◌++◌, length, Option}
use Rattle.std.specs.Io.KnownBytes.{Consumes, IsAtEnd}

-- this many bytes were taken of the source and added; if there were none, it is at its end
pub record TakesPiece (left left' : Option (List ℕ)) (before now : List ℕ) (count : ℕ)
    : Type 0 where
  pub piece : List ℕ
  pub consumed : Consumes left left' piece
  pub added : now ≡ before ++ piece
  pub size : length piece ≡ count
  pub at_end : count ≡ 0 → IsAtEnd left'

-- these bytes were taken of the source: all that there were, or one more than the limit
pub record IsReadTo (limit : ℕ) (left left' : Option (List ℕ)) (bytes : List ℕ) : Type 0 where
  pub consumed : Consumes left left' bytes
  pub most : length bytes ≤ limit + 1
  pub whole : length bytes ≤ limit → IsAtEnd left'

-- some bytes were taken of the source: all that there were, or one more than the limit
abbrev pub WasRead : ℕ → Option (List ℕ) → Option (List ℕ) → Type 0
WasRead limit left left' = (bytes : List ℕ) × IsReadTo limit left left' bytes
