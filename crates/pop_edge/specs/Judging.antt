-- How an input is checked line by line, for every grammar.
use Rattle.std.specs.Prelude.{◌≡◌, ◌⊎◌, ◌≤◌, ℕ, ◌+◌, Bool, not, if◌then◌else◌, List, [], ◌∷◌, ◌++◌, length, filter, Option, None, Some, Result, Ok, Err}
use Rattle.pop_edge.specs.declared.refusal.ReadRefusal.{ReadRefusal}
use Rattle.pop_edge.specs.declared.refusal.ReadRefusal.TheVariants.{OutOfMemory, ReadFault}
use Rattle.pop_edge.specs.Lines.{lines_of, ended_lines, judged_lines, text_limit}
use Rattle.pop_edge.specs.Words.{numbered_words}
use Rattle.pop_edge.specs.Refusals.{IsOfLine, MayBeOfLine, or_else, length_refusal}

-- how a grammar checks lines, which are given by their tokens
pub record Judgement : Type 0 where
  -- a line that is skipped
  pub passes_over : List (List ℕ) → Bool
  -- the first error among lines that are not skipped, each under its number
  pub of_lines : List (ℕ × List (List ℕ)) → Option ReadRefusal
  -- the error of the whole, for lines without an error; what is missing is reported at this line
  pub of_whole : ℕ → List (ℕ × List (List ℕ)) → Option ReadRefusal

-- the line under its number, or nothing if it is skipped
abbrev pub told : Judgement → ℕ → List (List ℕ) → List (ℕ × List (List ℕ))
told j number words = if j.passes_over words then [] else (number, words) ∷ []

-- the lines that are not skipped, by their tokens, each under its number
abbrev pub told_lines : Judgement → List (List ℕ) → List (ℕ × List (List ℕ))
told_lines j lines = filter (λ line. not (j.passes_over line.1)) (numbered_words lines)

-- the first error of an input: of a checked line, of its length, or of the whole
abbrev pub text_refusal : Judgement → List ℕ → Option ReadRefusal
text_refusal j text =
    or_else (j.of_lines (told_lines j (judged_lines text)))
    (or_else (length_refusal text)
    (j.of_whole (length (lines_of text) + 1) (told_lines j (lines_of text))))

-- what was taken of an input is within the limit, and no line that was taken to its end is
-- rejected
pub record IsUnrefused (j : Judgement) (taken : List ℕ) : Type 0 where
  pub short : length taken ≤ text_limit
  pub clean : j.of_lines (told_lines j (ended_lines taken)) ≡ None

-- a grammar checks in the order of the input, by codes and limits
pub record IsInOrder (j : Judgement) : Type 0 where
  -- an error among the first lines is the error of all lines
  pub front : (xs ys : List (ℕ × List (List ℕ))) (e : ReadRefusal) → j.of_lines xs ≡ Some e
      → j.of_lines (xs ++ ys) ≡ Some e
  pub kinds : (xs : List (ℕ × List (List ℕ))) → MayBeOfLine (j.of_lines xs)

-- the last of these lines is known together with those before it, or it is rejected
abbrev pub TakesLine : Judgement → (List (ℕ × List (List ℕ)) → Type 0)
    → List (ℕ × List (List ℕ)) → Result (Unit {0}) ReadRefusal → Type 0
TakesLine j Knows lines (Ok _) = Knows lines
TakesLine j Knows lines (Err refusal) =
    (refusal ≡ OutOfMemory) ⊎ (j.of_lines lines ≡ Some refusal)

-- the errors that may be returned before all lines were taken: a fault of the source, out of
-- memory, or the error of the input
abbrev pub StopsEarly : Judgement → List ℕ → ReadRefusal → Type 0
StopsEarly j text e =
    (e ≡ ReadFault) ⊎ ((e ≡ OutOfMemory) ⊎ (IsOfLine e × (text_refusal j text ≡ Some e)))

-- These are the lines of the input that are not skipped, and they are checked as a whole. The line
-- after the last one has this number.
pub record IsWhole (j : Judgement) (text : List ℕ) (lines : List (ℕ × List (List ℕ))) (line : ℕ)
    : Type 0 where
  pub all : told_lines j (lines_of text) ≡ lines
  pub refusal : text_refusal j text ≡ j.of_whole line lines

-- the lines of everything that was left are known
pub record HasTakenAll (j : Judgement) (Knows : List (ℕ × List (List ℕ)) → Type 0)
    (left : Option (List ℕ)) (line : ℕ) : Type 0 where
  pub lines : List (ℕ × List (List ℕ))
  pub knows : Knows lines
  pub whole : (text : List ℕ) → left ≡ Some text → IsWhole j text lines line
