-- How a reader reads the lines of an input, token by token.
use Rattle.std.specs.Prelude.{◌≡◌, ◌≢◌, ◌⊎◌, true, false, ℕ, ◌+◌, ◌^◌, ◌≤◌, ℤ, nat_abs, nat_lt, ◌==◌, if◌then◌else◌, List, [], ◌∷◌, ◌++◌, length, map, drop, count_by, Option, None, Some, Result, Ok, Err, ⊤}
use Rattle.std.specs.List.{onto_first, list_any}
use denote.Ref.{Bor}
use Rattle.pop_edge.specs.declared.refusal.ReadRefusal.{ReadRefusal}
use Rattle.pop_edge.specs.declared.refusal.ReadRefusal.TheVariants.{OutOfMemory, EmptyClause, ReadFault, Count}
use Rattle.pop_edge.specs.Words.{begins_with, words_of}
use Rattle.pop_edge.specs.Refusals.{Fault, at_line, first_refusal}
use Rattle.pop_edge.specs.Refusals.Fault.{Code, Passes}
use Rattle.dimacs_read.specs.declared.clauses.Clauses.{Clauses}
use Rattle.dimacs_read.specs.declared.header.Header.{Header}
use Rattle.dimacs_read.specs.declared.reader.Reader.{Reader}
use Rattle.dimacs_read.specs.declared.token.Token.{Token}
use Rattle.dimacs_read.specs.declared.token.Token.TheVariants.{Literal, End}
use Rattle.dimacs_read.specs.Cnf.{Cnf, AreLiterals, first_empty}
use Rattle.dimacs_read.specs.Tokens.{token_of, is_literal, is_clause_end}
use Rattle.dimacs_read.specs.CnfText.{declared, header_fault, body, line_refusal, whole_refusal, formula_in, token_fault, clauses_of}
use Rattle.dimacs_read.specs.Flat.{parts, Rises}
use Rattle.dimacs_read.specs.Literals.{IsEnded, token_at}

-- the error of a token after this many ends and literals
abbrev pub word_fault : ℕ → ℕ → ℕ → Option Token → Option Fault
word_fault variables ends literals None = Some (Code 2)
word_fault variables ends literals (Some End) =
    if nat_lt ends (2 ^ 22) then None else Some (Passes 3)
word_fault variables ends literals (Some (Literal l)) =
    if nat_lt variables (nat_abs l) then Some (Code 3)
    else if nat_lt ends (2 ^ 22)
    then (if nat_lt literals (2 ^ 25) then None else Some (Passes 4))
    else Some (Passes 3)

-- the clauses with another token
abbrev pub Adds : Clauses → Clauses → Option Token → Type 0
Adds old new None = ⊥
Adds old new (Some End) =
    (new.ends.items ≡ old.ends.items ++ length old.literals.items ∷ [])
    × (new.literals.items ≡ old.literals.items)
Adds old new (Some (Literal l)) =
    (new.ends.items ≡ old.ends.items) × (new.literals.items ≡ old.literals.items ++ l ∷ [])

-- the error of a token after these clauses
abbrev pub fault_in : Clauses → ℕ → List ℕ → Option Fault
fault_in c variables word =
    word_fault variables (length c.ends.items) (length c.literals.items) (token_of word)

-- the end of the last part
abbrev pub last_end : ℕ → List ℕ → ℕ
last_end at [] = at
last_end at (end ∷ ends) = last_end end ends

-- the literals before the first end are added to the first clause
abbrev pub with_begun : List ℤ → List (List ℤ) → List (List ℤ)
with_begun [] clauses = clauses
with_begun (l ∷ ls) clauses = onto_first l (with_begun ls clauses)

-- the clauses hold these tokens, for any tokens that follow
pub record Holds (c : Clauses) (tokens : List (Option Token)) : Type 0 where
  pub ends : count_by is_clause_end tokens ≡ length c.ends.items
  pub literals : count_by is_literal tokens ≡ length c.literals.items
  pub rises : Rises 0 c.ends.items (length c.literals.items)
  pub few : length c.ends.items ≤ 2 ^ 22
  pub room : length c.literals.items ≤ 2 ^ 25
  pub clauses : (more : List (Option Token))
      → clauses_of (tokens ++ more)
      ≡ parts c.literals.items 0 c.ends.items
      ++ with_begun (drop (last_end 0 c.ends.items) c.literals.items) (clauses_of more)

-- the tokens of these bytes, under the number of their line
abbrev pub placed : ℕ → List ℕ → List (ℕ × Option Token)
placed line bytes = map (λ word. (line, token_of word)) (words_of bytes)

-- all the tokens were read, or the first invalid one is reported
abbrev pub TakesWords : Clauses → ℕ → ℕ → List ℕ → List (Option Token)
    → Result (Unit {0}) ReadRefusal → Type 0
TakesWords new variables line bytes before (Ok _) =
    (first_refusal (token_fault variables) before (placed line bytes) ≡ None)
    × Holds new (before ++ map token_of (words_of bytes))
TakesWords new variables line bytes before (Err refusal) =
    (refusal ≡ OutOfMemory)
    ⊎ (first_refusal (token_fault variables) before (placed line bytes) ≡ Some refusal)

-- the tokens up to here were read, and the rest decides for all
pub record Goes (now : Clauses) (variables line : ℕ) (bytes rest : List ℕ)
    (before : List (Option Token)) : Type 0 where
  pub done : List (Option Token)
  pub holds : Holds now done
  pub all : done ++ map token_of (words_of rest) ≡ before ++ map token_of (words_of bytes)
  pub refusal : first_refusal (token_fault variables) done (placed line rest)
      ≡ first_refusal (token_fault variables) before (placed line bytes)

-- the first byte of a line that is not white space, if there is one
abbrev pub IsFirstByte : List (List ℕ) → Option ℕ → Type 0
IsFirstByte words None = words ≡ []
IsFirstByte words (Some b) =
    (bytes : List ℕ) × (others : List (List ℕ)) × (words ≡ (b ∷ bytes) ∷ others)

-- the numbers of the first four tokens, and the bytes after them
abbrev pub IsCounts : List (List ℕ) → Option (ℕ × ℕ × Bor (List ℕ)) → Type 0
IsCounts words None = declared words ≡ None
IsCounts words (Some (v, c, rest)) =
    (declared words ≡ Some (v, c)) × (length words ≡ 4 + length (words_of rest.now))

-- a header was read, or its error
abbrev pub IsHeader : ℕ → List (List ℕ) → Result Header ReadRefusal → Type 0
IsHeader line words (Ok header) =
    (header_fault words ≡ None) × (declared words ≡ Some (header.variables, header.clauses))
IsHeader line words (Err refusal) = at_line line (header_fault words) ≡ Some refusal

-- the numbers that were declared, and whether a line with `%` was read
pub record HasHeader (r : Reader) (header : ℕ × List (List ℕ))
    (others : List (ℕ × List (List ℕ))) : Type 0 where
  pub fields : Header
  pub is : r.header ≡ Some fields
  pub declares : declared header.1 ≡ Some (fields.variables, fields.clauses)
  pub clean : line_refusal (header ∷ others) ≡ None
  pub holds : Holds r.clauses (map (λ word. word.1) (body others))
  pub ended : r.ended ≡ list_any (λ line. begins_with 37 line.1) others

-- no header was read yet
pub record HasNoHeader (r : Reader) : Type 0 where
  pub is : r.header ≡ None
  pub holds : Holds r.clauses []
  pub ended : r.ended ≡ false

-- the reader has read these lines, and none of them is rejected
abbrev pub Knows : Reader → List (ℕ × List (List ℕ)) → Type 0
Knows r [] = HasNoHeader r
Knows r (header ∷ others) = HasHeader r header others

-- within the limits
pub record IsWithin (c : Clauses) : Type 0 where
  pub few : length c.ends.items ≤ 2 ^ 22
  pub room : length c.literals.items ≤ 2 ^ 25

-- A line after the header. One that begins with `%` ends the clauses; after that nothing is read.
abbrev pub TakesMore : Reader → Reader → Header → ℕ → ℕ → List ℕ → Result (Unit {0}) ReadRefusal
    → Type 0
TakesMore old new header number first line result =
    ((new.ended ≡ true) × ((old.ended ≡ true) ⊎ (first ≡ 37)) × (new.clauses ≡ old.clauses)
    × (result ≡ Ok tt))
    ⊎ ((new.ended ≡ false) × (old.ended ≡ false) × (first ≢ 37)
    × ((before : List (Option Token)) → Holds old.clauses before
    → TakesWords new.clauses header.variables number line before result))

-- there are lines that the reader has read
pub record IsReader (r : Reader) : Type 0 where
  pub lines : List (ℕ × List (List ℕ))
  pub knows : Knows r lines

-- the formula of lines without an error, or the error of the whole
abbrev pub Finishes : ℕ → List (ℕ × List (List ℕ)) → Result Cnf ReadRefusal → Type 0
Finishes line lines (Ok f) =
    (whole_refusal line lines ≡ None) × (f ≡ formula_in lines) × (first_empty f ≡ None)
Finishes line lines (Err (EmptyClause n)) =
    (whole_refusal line lines ≡ None)
    × ((k : ℕ) × (n ≡ k + 1) × (first_empty (formula_in lines) ≡ Some k))
Finishes line lines (Err OutOfMemory) = ⊤
Finishes line lines (Err ReadFault) = ⊥
Finishes line lines (Err refusal) = whole_refusal line lines ≡ Some refusal

-- literals after the last end get an end
abbrev pub closed_ends : ℕ → List ℕ → List ℕ
closed_ends size ends = if last_end 0 ends == size then ends else ends ++ size ∷ []

-- the first part without literals, by the ends of the parts
abbrev pub empty_from : ℕ → ℕ → List ℕ → Option ℕ
empty_from i at [] = None
empty_from i at (end ∷ ends) = if at == end then Some i else empty_from (i + 1) end ends

-- the declared numbers are within the limits, and so are the clauses
pub record HasBounds (header : Header) (c : Clauses) : Type 0 where
  pub variables : header.variables ≤ 2 ^ 22
  pub clauses : header.clauses ≤ 2 ^ 22
  pub few : length c.ends.items ≤ 2 ^ 22
  pub room : length c.literals.items ≤ 2 ^ 25
  pub rises : Rises 0 c.ends.items (length c.literals.items)
  -- after the last clause got its end
  pub literals : AreLiterals header.variables
      (parts c.literals.items 0 (closed_ends (length c.literals.items) c.ends.items))

-- a formula with these variables and these clauses
abbrev pub with_clauses : Header → List (List ℤ) → Cnf
with_clauses header clauses = record { variables = header.variables; clauses = clauses }

-- the formula of these clauses, or their error
abbrev pub FinishesClauses : Header → List (List ℤ) → Result Cnf ReadRefusal → Type 0
FinishesClauses header clauses (Ok f) =
    (header.clauses ≡ length clauses) × (f ≡ with_clauses header clauses) × (first_empty f ≡ None)
FinishesClauses header clauses (Err (Count declared found)) =
    (header.clauses ≢ length clauses) × (declared ≡ header.clauses) × (found ≡ length clauses)
FinishesClauses header clauses (Err (EmptyClause n)) =
    (header.clauses ≡ length clauses)
    × ((k : ℕ) × (n ≡ k + 1) × (first_empty (with_clauses header clauses) ≡ Some k))
FinishesClauses header clauses (Err OutOfMemory) = ⊤
FinishesClauses header clauses (Err _) = ⊥

-- the clauses hold these numbers of an array, and none of them is unfinished if the last number
-- ends one
pub record HoldsArray (c : Clauses) (literals : List ℤ) : Type 0 where
  pub holds : Holds c (map token_at literals)
  pub closed : IsEnded literals → last_end 0 c.ends.items ≡ length c.literals.items
