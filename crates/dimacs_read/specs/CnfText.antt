-- Inputs in the DIMACS CNF format, and the first error of any other input. Errors have codes: 1
-- and 4 for the header, 2 and 3 for a token after it (this project's choice).
use Rattle.std.specs.Prelude.{◌≡◌, ℕ, ◌+◌, ◌^◌, ℤ, nat_abs, Bool, true, not, ◌==◌, nat_lt, if◌then◌else◌, List, [], ◌∷◌, length, map, flat_map, count_by, take_while, Option, None, Some, option_and_then, bytes_eq, codes, Result, Ok, Err, ⊤}
use Rattle.std.specs.List.{onto_first}
use Rattle.std.specs.Option.{option_map_or}
use Rattle.pop_edge.specs.declared.refusal.ReadRefusal.{ReadRefusal}
use Rattle.pop_edge.specs.declared.refusal.ReadRefusal.TheVariants.{Malformed, Count, EmptyClause, ReadFault, OutOfMemory}
use Rattle.pop_edge.specs.Lines.{lines_of}
use Rattle.pop_edge.specs.Words.{begins_with}
use Rattle.pop_edge.specs.Headers.{header_of}
use Rattle.pop_edge.specs.Refusals.{Fault, or_else, at_line, first_refusal}
use Rattle.pop_edge.specs.Refusals.Fault.{Code, Passes}
use Rattle.pop_edge.specs.Judging.{IsUnrefused, Judgement, told_lines, text_refusal}
use Rattle.dimacs_read.specs.declared.token.Token.{Token}
use Rattle.dimacs_read.specs.declared.token.Token.TheVariants.{Literal, End}
use Rattle.dimacs_read.specs.Cnf.{Cnf, first_empty}
use Rattle.dimacs_read.specs.Tokens.{token_of, is_literal, is_clause_end}

-- lines without tokens are skipped, and so are comments, which begin with `c`
abbrev pub is_passed_over : List (List ℕ) → Bool
is_passed_over [] = true
is_passed_over (word ∷ words) = begins_with 99 (word ∷ words)

-- the numbers of variables and of clauses that a header declares
abbrev pub declared : List (List ℕ) → Option (ℕ × ℕ)
declared words =
    option_and_then (λ h. if bytes_eq h.0 (codes "cnf") then Some (h.1, h.2) else None)
    (header_of words)

-- the number of variables that a header declares, or 0 if it is no header
abbrev pub variables_in : List (List ℕ) → ℕ
variables_in header = option_map_or (λ d. d.0) (declared header) 0

-- the number of clauses that a header declares, or 0 if it is no header
abbrev pub clauses_in : List (List ℕ) → ℕ
clauses_in header = option_map_or (λ d. d.1) (declared header) 0

-- the error of a header with this many tokens that declares these numbers, in this order
abbrev pub declared_fault : ℕ → ℕ × ℕ → Option Fault
declared_fault size d =
    if nat_lt 4 size then Some (Code 4)
    else if nat_lt (2 ^ 22) d.0 then Some (Passes 2)
    else if nat_lt (2 ^ 22) d.1 then Some (Passes 3)
    else None

-- the error of the first line that is not skipped
abbrev pub header_fault : List (List ℕ) → Option Fault
header_fault words = option_map_or (declared_fault (length words)) (declared words) (Some (Code 1))

-- each token of the lines after the header, up to a line that begins with `%`, under the number of
-- its line
abbrev pub body : List (ℕ × List (List ℕ)) → List (ℕ × Option Token)
body lines =
    flat_map (λ line. map (λ word. (line.0, token_of word)) line.1)
    (take_while (λ line. not (begins_with 37 line.1)) lines)

-- the error of a token after these, with this many variables, in this order
abbrev pub token_fault : ℕ → List (Option Token) → Option Token → Option Fault
token_fault variables before None = Some (Code 2)
token_fault variables before (Some End) =
    if nat_lt (count_by is_clause_end before) (2 ^ 22) then None else Some (Passes 3)
token_fault variables before (Some (Literal l)) =
    if nat_lt variables (nat_abs l) then Some (Code 3)
    else if nat_lt (count_by is_clause_end before) (2 ^ 22)
    then (if nat_lt (count_by is_literal before) (2 ^ 25) then None else Some (Passes 4))
    else Some (Passes 3)

-- the first error among lines: that of the header, or of the first invalid token after it
abbrev pub line_refusal : List (ℕ × List (List ℕ)) → Option ReadRefusal
line_refusal [] = None
line_refusal (header ∷ lines) =
    or_else (at_line header.0 (header_fault header.1))
    (first_refusal (token_fault (variables_in header.1)) [] (body lines))

-- each end closes a clause, and literals after the last end are a last clause
abbrev pub clauses_of : List (Option Token) → List (List ℤ)
clauses_of [] = []
clauses_of (None ∷ tokens) = clauses_of tokens
clauses_of (Some End ∷ tokens) = [] ∷ clauses_of tokens
clauses_of (Some (Literal l) ∷ tokens) = onto_first l (clauses_of tokens)

-- the formula of lines without an error
abbrev pub formula_in : List (ℕ × List (List ℕ)) → Cnf
formula_in [] = record { variables = 0; clauses = [] }
formula_in (header ∷ lines) =
    record {
      variables = variables_in header.1;
      clauses = clauses_of (map (λ word. word.1) (body lines));
    }

-- the error of all lines of an input: there is no header, or the number of clauses is not the
-- declared one
abbrev pub whole_refusal : ℕ → List (ℕ × List (List ℕ)) → Option ReadRefusal
whole_refusal line [] = Some (Malformed line 1)
whole_refusal line (header ∷ lines) =
    let found = length (formula_in (header ∷ lines)).clauses in
    if clauses_in header.1 == found then None else Some (Count (clauses_in header.1) found)

-- how the format checks an input
abbrev pub cnf : Judgement
cnf = record { passes_over = is_passed_over; of_lines = line_refusal; of_whole = whole_refusal }

-- the lines that are not skipped, by their tokens, each under its number; the first is the header
abbrev pub cnf_lines : List (List ℕ) → List (ℕ × List (List ℕ))
cnf_lines lines = told_lines cnf lines

-- The first error of an input, in the order of the input. An input without one is that of a
-- formula.
abbrev pub cnf_refusal : List ℕ → Option ReadRefusal
cnf_refusal text = text_refusal cnf text

-- the formula of an input without an error
abbrev pub cnf_of : List ℕ → Cnf
cnf_of text = formula_in (cnf_lines (lines_of text))

-- the result for an input: its formula or its first error, and last the lowest number, from 1, of
-- a clause without literals
abbrev pub AnswersCnf : List ℕ → Result Cnf ReadRefusal → Type 0
AnswersCnf text (Ok f) = (cnf_refusal text ≡ None) × (f ≡ cnf_of text) × (first_empty f ≡ None)
AnswersCnf text (Err (EmptyClause n)) =
    (cnf_refusal text ≡ None) × ((k : ℕ) × (n ≡ k + 1) × (first_empty (cnf_of text) ≡ Some k))
AnswersCnf text (Err ReadFault) = ⊤
AnswersCnf text (Err OutOfMemory) = ⊤
AnswersCnf text (Err refusal) = cnf_refusal text ≡ Some refusal

-- what was taken is within the limit, and no line that was taken to its end is rejected
abbrev pub HasNoBadLine : List ℕ → Type 0
HasNoBadLine taken = IsUnrefused cnf taken
