-- The reads of a call for the next line: each was necessary.
use Rattle.std.specs.Prelude.{◌≡◌, ℕ, ◌+◌, ◌<◌, ◌≤◌, Bool, ◌==◌, false, List, length, take, Option, None, Some, Result, Ok, Err}
use Rattle.std.specs.List.{concat, list_any}
use Rattle.std.specs.Iterator.{Yields}
use Rattle.std.specs.Io.KnownBytes.{Consumes}
use Rattle.pop_edge.specs.declared.refusal.ReadRefusal.{ReadRefusal}
use Rattle.pop_edge.specs.declared.refusal.ReadRefusal.TheVariants.{ReadFault}
use Rattle.pop_edge.specs.declared.next.Next.{Next}
use Rattle.pop_edge.specs.Lines.{is_end, text_limit}
use Rattle.pop_edge.specs.LineState.{LineState, at_hand}

-- what a read gave: the start of the room, or None if it failed
abbrev pub given : {E : Type 0} → Result ℕ E → List ℕ → Option (List ℕ)
given (Ok n) room = Some (take n room)
given (Err _) room = None

-- a read that gave no bytes was at the end of the input
abbrev pub is_nothing : List ℕ → Bool
is_nothing piece = length piece == 0

-- After these pieces, which the call has read, it needs another one: the end was not read, the
-- limit is not exceeded, and no whole line is at hand.
pub record NeedsMore (old : LineState) (pieces : List (List ℕ)) : Type 0 where
  pub going : old.ended ≡ false
  pub some : list_any is_nothing pieces ≡ false
  pub short : old.taken + length (concat pieces) ≤ text_limit
  pub no_line : list_any is_end (at_hand old (concat pieces)) ≡ false

-- The call read nothing after these pieces; or it needed another read, which failed, and it
-- reports this.
abbrev pub EndsReading : {S : Type 0} → (S → Option (List ℕ) → S → Type 0) → LineState
    → List (List ℕ) → S → S → Result Next ReadRefusal → Type 0
EndsReading gives old pieces last source (Err ReadFault) =
    NeedsMore old pieces × gives last None source
EndsReading gives old pieces last source answer = source ≡ last

-- The call read pieces one after another, and each was necessary after those before it. Together
-- they are the bytes that it took. `gives` says what one read does to the source.
pub record ReadsAsNeeded {S : Type 0} (gives : S → Option (List ℕ) → S → Type 0)
    (old new : LineState) (left left' : Option (List ℕ)) (source source' : S)
    (answer : Result Next ReadRefusal) : Type 0 where
  pub pieces : List (List ℕ)
  pub consumed : Consumes left left' (concat pieces)
  pub taken : new.taken ≡ old.taken + length (concat pieces)
  pub needed : (j : ℕ) → j < length pieces → NeedsMore old (take j pieces)
  pub last : S
  pub read : Yields gives source pieces last
  pub ends : EndsReading gives old pieces last source' answer
