-- How pieces of bytes are cut into lines.
use Rattle.std.specs.Prelude.{◌≡◌, ◌↔◌, ℕ, ◌+◌, ◌-◌, ◌<◌, ◌≤◌, Bool, true, false, List, [], ◌∷◌, ◌++◌, length, take, drop, slice_range, Option, None, Some}
use Rattle.std.specs.List.{concat, list_any}
use Rattle.std.specs.Iterator.{Yields}
use Rattle.std.specs.Io.KnownBytes.{Consumes, IsAtEnd}
use Rattle.pop_edge.specs.declared.splitter.Splitter.{Splitter}
use Rattle.pop_edge.specs.Lines.{is_end, text_limit}
use Rattle.pop_edge.specs.LineState.{LineState, at_hand}
use Rattle.pop_edge.specs.NeededReads.{NeedsMore, is_nothing}

-- the bytes up to the first line end go to the begun line, or all if there is none
abbrev pub Moves : List ℕ → List ℕ → List ℕ → Option ℕ → Type 0
Moves old new bytes (Some n) =
    (front : List ℕ) × (list_any is_end front ≡ false) × (bytes ≡ front ++ 10 ∷ drop n bytes)
    × (n ≤ length bytes) × (n ≡ length front + 1) × (new ≡ old ++ front)
Moves old new bytes None = (list_any is_end bytes ≡ false) × (new ≡ old ++ bytes)

-- the bytes at hand after the lines returned so far
abbrev pub rest_of : Splitter → List ℕ
rest_of s = s.begun.items ++ slice_range s.piece.items s.at s.end

-- what holds of a splitter between two calls
pub record IsSplitter (s : Splitter) : Type 0 where
  pub piece : length s.piece.items ≡ 4096
  pub at : s.at ≤ s.end
  pub end : s.end ≤ 4096
  pub begun : list_any is_end s.begun.items ≡ false
  pub taken : s.taken ≤ text_limit + 4096
  pub number : s.number + length (rest_of s) ≤ s.taken

-- a line was taken off the start, or there is none
abbrev pub Cuts : Splitter → Splitter → Bool → Type 0
Cuts old new true =
    (rest_of old ≡ new.line.items ++ 10 ∷ rest_of new) × (list_any is_end new.line.items ≡ false)
    × (new.number ≡ old.number + 1)
Cuts old new false =
    (list_any is_end (rest_of old) ≡ false) × (new.begun.items ≡ rest_of old) × (new.at ≡ new.end)
    × (new.line.items ≡ old.line.items) × (new.number ≡ old.number)

-- more bytes were read after those at hand; those past the limit belong to no line
pub record HasFilled (old new : Splitter) (left left' : Option (List ℕ)) (gives : List ℕ → Type 0)
    : Type 0 where
  pub bytes : List ℕ
  pub given : gives bytes
  pub consumed : Consumes left left' bytes
  pub taken : new.taken ≡ old.taken + length bytes
  pub rest : rest_of new ≡ rest_of old ++ take (text_limit - old.taken) bytes
  pub ended : (new.ended ≡ true) ↔ (length bytes ≡ 0)
  pub at_end : new.ended ≡ true → IsAtEnd left'

-- the state of a list of lines without an error
abbrev pub state_of : Splitter → LineState
state_of s =
    record {
      rest = rest_of s;
      line = s.line.items;
      number = s.number;
      taken = s.taken;
      ended = s.ended;
      kept = None;
    }

-- the next bytes were taken, and no line was returned meanwhile
pub record Reads (old new : LineState) (left left' : Option (List ℕ)) (bytes : List ℕ)
    : Type 0 where
  pub consumed : Consumes left left' bytes
  pub taken : new.taken ≡ old.taken + length bytes
  pub rest : new.rest ≡ at_hand old bytes
  pub idle : list_any is_end old.rest ≡ true → bytes ≡ []
  pub at_end : old.ended ≡ true → bytes ≡ []
  pub line : new.line ≡ old.line
  pub number : new.number ≡ old.number
  pub stays : old.ended ≡ true → new.ended ≡ true

-- some pieces were read this way, and each was necessary after those before it
pub record HasRead {S : Type 0} (gives : S → Option (List ℕ) → S → Type 0) (old new : LineState)
    (left left' : Option (List ℕ)) (source source' : S) : Type 0 where
  pub pieces : List (List ℕ)
  pub reads : Reads old new left left' (concat pieces)
  pub needed : (j : ℕ) → j < length pieces → NeedsMore old (take j pieces)
  pub some : new.ended ≡ false → list_any is_nothing pieces ≡ false
  pub read : Yields gives source pieces source'
