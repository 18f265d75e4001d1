-- The first error in the order of an input.
use Rattle.std.specs.Prelude.{ℕ, ◌+◌, nat_lt, if◌then◌else◌, List, [], ◌∷◌, ◌++◌, length, Option, None, Some}
use Rattle.pop_edge.specs.declared.refusal.ReadRefusal.{ReadRefusal}
use Rattle.pop_edge.specs.declared.refusal.ReadRefusal.TheVariants.{Malformed, Limit}
use Rattle.pop_edge.specs.Lines.{text_limit, judged_lines}

-- what is wrong at one place of an input: a code, or the kind of a limit that is exceeded
pub data Fault : Type 0 where
  Code : (code : ℕ) → Fault
  Passes : (kind : ℕ) → Fault

-- the error of a line with this fault
abbrev pub refusal_at : ℕ → Fault → ReadRefusal
refusal_at line (Code code) = Malformed line code
refusal_at line (Passes kind) = Limit kind line

-- the error of a line with this fault, if it has one
abbrev pub at_line : ℕ → Option Fault → Option ReadRefusal
at_line line None = None
at_line line (Some fault) = Some (refusal_at line fault)

-- the first error, or the second if there is no first
abbrev pub or_else : Option ReadRefusal → Option ReadRefusal → Option ReadRefusal
or_else None later = later
or_else (Some refusal) later = Some refusal

-- The error of the first item that is at fault after those before it. Each item has the number of
-- its line.
abbrev pub first_refusal : {X : Type 0} → (List X → X → Option Fault) → List X → List (ℕ × X)
    → Option ReadRefusal
first_refusal fault before [] = None
first_refusal fault before (item ∷ items) =
    or_else (at_line item.0 (fault before item.1))
    (first_refusal fault (before ++ item.1 ∷ []) items)

-- the error of an input that is too long, at the line of the first byte past the limit
abbrev pub length_refusal : List ℕ → Option ReadRefusal
length_refusal text =
    if nat_lt text_limit (length text) then Some (Limit 1 (length (judged_lines text) + 1))
    else None

-- the error of a line: a code or a limit
abbrev pub IsOfLine : ReadRefusal → Type 0
IsOfLine (Malformed line code) = Unit {0}
IsOfLine (Limit kind line) = Unit {0}
IsOfLine _ = ⊥

-- the error of a line, or none
abbrev pub MayBeOfLine : Option ReadRefusal → Type 0
MayBeOfLine None = Unit {0}
MayBeOfLine (Some e) = IsOfLine e
