-- How a reader reads the lines of an input, one by one.
use Rattle.std.specs.Prelude.{◌≡◌, ◌⊎◌, true, ℕ, ◌^◌, nat_lt, List, [], ◌∷◌, ◌++◌, length, Option, None, Some, Result, Ok, Err}
use Rattle.std.specs.Option.{option_copied}
use denote.Ref.{Bor}
use Rattle.pop_edge.specs.declared.refusal.ReadRefusal.{ReadRefusal}
use Rattle.pop_edge.specs.declared.refusal.ReadRefusal.TheVariants.{OutOfMemory, ReadFault}
use Rattle.pop_edge.specs.Refusals.{Fault, at_line, refusal_at}
use Rattle.pop_edge.specs.Words.{words_of}
use Rattle.pop_edge.specs.Numbers.{number_of}
use Rattle.graph_read.specs.declared.edge.Edge.{Edge}
use Rattle.graph_read.specs.declared.reader.Reader.{Reader}
use Rattle.graph_read.specs.Graphs.{GraphOf}
use Rattle.graph_read.specs.GraphText.{declared, header_fault, edge_words, edge_in, fault_of, line_refusal, whole_refusal, graph_in}

-- the header was read, or it is rejected
abbrev pub IsHeader : ℕ → List (List ℕ) → Result ℕ ReadRefusal → Type 0
IsHeader line words (Ok n) = (header_fault words ≡ None) × (declared words ≡ Some n)
IsHeader line words (Err refusal) = at_line line (header_fault words) ≡ Some refusal

-- the tokens after the `e` of an edge line
abbrev pub AreEdgeWords : List (List ℕ)
    → Option (Bor (List ℕ) × Bor (List ℕ) × Option (Bor (List ℕ))) → Type 0
AreEdgeWords words None = edge_words words ≡ None
AreEdgeWords words (Some (u, v, w)) = edge_words words ≡ Some (u.now, v.now, option_copied w)

-- the bytes begin with a token that denotes this number, and these bytes follow
pub record IsFront (bytes : List ℕ) (number : ℕ) (rest : List ℕ) : Type 0 where
  pub word : List ℕ
  pub words : words_of bytes ≡ word ∷ words_of rest
  pub spelled : number_of word ≡ Some number

-- the tokens are a weight; or there are none, and the weight is 1
abbrev pub AreWeight : List (List ℕ) → ℕ → Type 0
AreWeight [] weight = weight ≡ 1
AreWeight (word ∷ []) weight = number_of word ≡ Some weight
AreWeight _ weight = ⊥

-- what was read in a line, or its error
abbrev pub in_line : {A : Type 0} → ℕ → Result A Fault → Result A ReadRefusal
in_line line (Ok x) = Ok x
in_line line (Err fault) = Err (refusal_at line fault)

-- the edge of the line is added to the graph
pub record HasAdded (old new : GraphOf) (words : List (List ℕ)) : Type 0 where
  pub edge : Edge
  pub spelled : edge_in old.vertices words ≡ Ok edge
  pub room : nat_lt (length old.edges) (2 ^ 23) ≡ true
  pub added : new ≡ record old { edges = old.edges ++ edge ∷ [] }

-- the edge of a line was added, or the line is rejected
abbrev pub AddsLine : GraphOf → GraphOf → ℕ → List (List ℕ) → Result (Unit {0}) ReadRefusal
    → Type 0
AddsLine old new line words (Ok _) = HasAdded old new words
AddsLine old new line words (Err refusal) =
    (refusal ≡ OutOfMemory)
    ⊎ (at_line line (fault_of (edge_in old.vertices words) (length old.edges)) ≡ Some refusal)

-- the graph of the lines so far, after a header was read
abbrev pub graph_so_far : List (ℕ × List (List ℕ)) → Option GraphOf
graph_so_far [] = None
graph_so_far (header ∷ lines) = Some (graph_in (header ∷ lines))

-- the reader has read these lines, and none of them is rejected
pub record Knows (r : Reader) (lines : List (ℕ × List (List ℕ))) : Type 0 where
  pub graph : r.graph ≡ graph_so_far lines
  pub clean : line_refusal lines ≡ None

-- the graph of lines without an error, or the error of the whole
abbrev pub Finishes : ℕ → List (ℕ × List (List ℕ)) → Result GraphOf ReadRefusal → Type 0
Finishes line lines (Ok g) = (whole_refusal line lines ≡ None) × (g ≡ graph_in lines)
Finishes line lines (Err ReadFault) = ⊥
Finishes line lines (Err refusal) = whole_refusal line lines ≡ Some refusal
