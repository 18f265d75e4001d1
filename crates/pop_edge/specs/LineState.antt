-- The lines of a source, returned one after another, and the bytes that were taken for them.
use Rattle.std.specs.Prelude.{◌≡◌, ◌⊎◌, ℕ, ◌+◌, ◌-◌, ◌<◌, ◌≤◌, Bool, true, false, List, [], ◌∷◌, ◌++◌, length, take, Option, None, Result, Ok, Err, ⊤}
use Rattle.std.specs.List.{list_any}
use Rattle.std.specs.Io.KnownBytes.{Consumes}
use Rattle.pop_edge.specs.declared.refusal.ReadRefusal.{ReadRefusal}
use Rattle.pop_edge.specs.declared.refusal.ReadRefusal.TheVariants.{Limit, ReadFault, OutOfMemory}
use Rattle.pop_edge.specs.declared.next.Next.{Next}
use Rattle.pop_edge.specs.declared.next.Next.TheVariants.{Line, End}
use Rattle.pop_edge.specs.Lines.{is_end, text_limit, lines_of}

-- the state of a list of lines between two calls
pub record LineState : Type 0 where
  -- the bytes that were taken within the limit and belong to no line returned so far
  pub rest : List ℕ
  -- the line returned last
  pub line : List ℕ
  -- the number of lines returned
  pub number : ℕ
  -- the number of bytes taken
  pub taken : ℕ
  -- a read returned 0 bytes
  pub ended : Bool
  -- the error of an earlier call
  pub kept : Option ReadRefusal

-- nothing was taken yet
abbrev pub opening : LineState
opening = record { rest = []; line = []; number = 0; taken = 0; ended = false; kept = None }

-- the bytes at hand after a call has taken these; those past the limit belong to no line
abbrev pub at_hand : LineState → List ℕ → List ℕ
at_hand s bytes = s.rest ++ take (text_limit - s.taken) bytes

-- the line at the start of the bytes at hand was returned: it has its line end, or it is
-- everything that is left
pub record GivesLine (old new : LineState) (bytes : List ℕ) : Type 0 where
  pub front : (at_hand old bytes ≡ new.line ++ 10 ∷ new.rest)
      ⊎ ((at_hand old bytes ≡ new.line) × (new.rest ≡ []) × (0 < length new.line)
      × (new.ended ≡ true) × (new.taken ≤ text_limit))
  pub whole : list_any is_end new.line ≡ false
  pub number : new.number ≡ old.number + 1

-- every line was returned, and nothing is left
pub record GivesEnd (old new : LineState) (bytes : List ℕ) : Type 0 where
  pub nothing : at_hand old bytes ≡ []
  pub rest : new.rest ≡ []
  pub ended : new.ended ≡ true
  pub short : new.taken ≤ text_limit
  pub line : new.line ≡ old.line
  pub number : new.number ≡ old.number

-- no whole line is at hand
pub record GivesNone (old new : LineState) (bytes : List ℕ) : Type 0 where
  pub no_line : list_any is_end (at_hand old bytes) ≡ false
  pub line : new.line ≡ old.line
  pub number : new.number ≡ old.number

-- the result of a call that took these bytes
abbrev pub Answers : LineState → LineState → List ℕ → Result Next ReadRefusal → Type 0
Answers old new bytes (Ok Line) = GivesLine old new bytes
Answers old new bytes (Ok End) = GivesEnd old new bytes
Answers old new bytes (Err (Limit kind line)) =
    GivesNone old new bytes × (text_limit < new.taken) × (kind ≡ 1) × (line ≡ old.number + 1)
Answers old new bytes (Err ReadFault) =
    GivesNone old new bytes × (new.taken ≤ text_limit) × (old.ended ≡ false)
Answers old new bytes (Err OutOfMemory) = (new.line ≡ old.line) × (new.number ≡ old.number)
Answers old new bytes (Err _) = ⊥

-- a call took these bytes; it reads only if no whole line is at hand
pub record Takes (old new : LineState) (left left' : Option (List ℕ)) (bytes : List ℕ)
    : Type 0 where
  pub consumed : Consumes left left' bytes
  pub taken : new.taken ≡ old.taken + length bytes
  pub idle : list_any is_end old.rest ≡ true → bytes ≡ []
  pub at_end : old.ended ≡ true → bytes ≡ []
  pub stays : old.ended ≡ true → new.ended ≡ true

-- a call without an earlier error takes some bytes, and its result depends on them
pub record IsNext (old new : LineState) (left left' : Option (List ℕ))
    (result : Result Next ReadRefusal) : Type 0 where
  pub taken : List ℕ
  pub takes : Takes old new left left' taken
  pub answers : Answers old new taken result

-- the state without its earlier error
abbrev pub fresh : LineState → LineState
fresh s = record s { kept = None }

-- a call after an error returns it again, reads nothing and changes nothing
abbrev pub Repeats : LineState → LineState → Option (List ℕ) → Option (List ℕ)
    → Result Next ReadRefusal → ReadRefusal → Type 0
Repeats old new left left' result refusal =
    (result ≡ Err refusal) × (new ≡ old) × (left' ≡ left)

-- lines, each with its line end
abbrev pub closed : List (List ℕ) → List ℕ
closed [] = []
closed (line ∷ lines) = line ++ 10 ∷ closed lines

-- these lines contain no line end
abbrev pub AreLines : List (List ℕ) → Type 0
AreLines [] = ⊤
AreLines (line ∷ lines) = (list_any is_end line ≡ false) × AreLines lines

-- what was taken within the limit is these lines, each with its line end, and the rest
pub record IsCut (s : LineState) (bytes : List ℕ) (lines : List (List ℕ)) : Type 0 where
  pub lines_are : AreLines lines
  pub front : closed lines ++ s.rest ≡ take text_limit bytes

-- everything was taken and returned
pub record IsDone (s : LineState) (bytes : List ℕ) (lines : List (List ℕ)) : Type 0 where
  pub all : lines ≡ lines_of bytes
  pub short : length bytes ≤ text_limit
  pub rest : s.rest ≡ []
  pub ended : s.ended ≡ true

-- the state after these bytes were taken and these lines returned
pub record Follows (s : LineState) (bytes : List ℕ) (lines : List (List ℕ)) : Type 0 where
  pub taken : s.taken ≡ length bytes
  pub number : s.number ≡ length lines
  pub stands : IsCut s bytes lines ⊎ IsDone s bytes lines
