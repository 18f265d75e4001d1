-- Inputs of graphs, based on the DIMACS graph format, and the first error of any other input.
-- Errors have codes: 11 for the header, 12 to 15 for a line after it. The grammar, its codes and
-- its limits are this project's choice.
use Rattle.std.specs.Prelude.{◌≡◌, ℕ, ◌^◌, Bool, true, ◌&&◌, ◌||◌, ◌==◌, nat_lt, nat_le, if◌then◌else◌, List, [], ◌∷◌, length, Option, None, Some, option_and_then, bytes_eq, codes, Result, Ok, Err, ⊤}
use Rattle.std.specs.Option.{option_map_or, ok_or}
use Rattle.std.specs.List.{filter_map}
use Rattle.std.specs.Result.{result_ok}
use Rattle.pop_edge.specs.declared.refusal.ReadRefusal.{ReadRefusal}
use Rattle.pop_edge.specs.declared.refusal.ReadRefusal.TheVariants.{Malformed, ReadFault, OutOfMemory}
use Rattle.pop_edge.specs.Lines.{lines_of}
use Rattle.pop_edge.specs.Words.{begins_with}
use Rattle.pop_edge.specs.Numbers.{number_of}
use Rattle.pop_edge.specs.Headers.{header_of}
use Rattle.pop_edge.specs.Refusals.{Fault, or_else, at_line, first_refusal}
use Rattle.pop_edge.specs.Refusals.Fault.{Code, Passes}
use Rattle.pop_edge.specs.Judging.{IsUnrefused, Judgement, told_lines, text_refusal}
use Rattle.graph_read.specs.declared.edge.Edge.{Edge}
use Rattle.graph_read.specs.Graphs.{GraphOf}

-- the first tokens of lines that describe vertices, dimensions, positions and parameters
abbrev pub is_descriptor : List ℕ → Bool
is_descriptor word =
    bytes_eq word (codes "n") || bytes_eq word (codes "d") || bytes_eq word (codes "v")
    || bytes_eq word (codes "x")

-- lines without tokens are skipped, and so are comments, which begin with `c`, and descriptors
abbrev pub is_passed_over : List (List ℕ) → Bool
is_passed_over [] = true
is_passed_over (word ∷ words) = begins_with 99 (word ∷ words) || is_descriptor word

-- the kinds of inputs that are graphs
abbrev pub is_graph_kind : List ℕ → Bool
is_graph_kind kind = bytes_eq kind (codes "edge") || bytes_eq kind (codes "col")

-- the number of vertices that a header with four tokens declares; its last number is ignored
abbrev pub declared : List (List ℕ) → Option ℕ
declared words =
    if length words == 4
    then option_and_then (λ h. if is_graph_kind h.0 then Some h.1 else None) (header_of words)
    else None

-- the number of vertices that a header declares, or 0 if it declares none
abbrev pub vertices_in : List (List ℕ) → ℕ
vertices_in header = option_map_or (λ n. n) (declared header) 0

-- the error of the first line that is not skipped
abbrev pub header_fault : List (List ℕ) → Option Fault
header_fault words =
    option_map_or (λ n. if nat_lt (2 ^ 22) n then Some (Passes 2) else None) (declared words)
    (Some (Code 11))

-- what is made from a value, or the fault that is there instead
infixl 10 ◌>>=◌
abbrev pub ◌>>=◌ : {A B : Type 0} → Result A Fault → (A → Result B Fault) → Result B Fault
(Ok x) >>= f = f x
(Err fault) >>= f = Err fault

-- the number that a token denotes
abbrev pub number_in : List ℕ → Result ℕ Fault
number_in word = ok_or (number_of word) (Code 12)

-- the end of an edge, one of n vertices
abbrev pub end_in : ℕ → List ℕ → Result ℕ Fault
end_in n word =
    number_in word >>= λ u. if nat_le 1 u && nat_le u n then Ok u else Err (Code 13)

-- the weight of an edge, at least 1; it is 1 if it is not given
abbrev pub weight_in : Option (List ℕ) → Result ℕ Fault
weight_in None = Ok 1
weight_in (Some word) = number_in word >>= λ w. if w == 0 then Err (Code 14) else Ok w

-- the tokens of an edge line after its `e`: its two ends, and the weight if it is given
abbrev pub edge_words : List (List ℕ) → Option (List ℕ × List ℕ × Option (List ℕ))
edge_words (e ∷ u ∷ v ∷ []) = if bytes_eq e (codes "e") then Some (u, v, None) else None
edge_words (e ∷ u ∷ v ∷ w ∷ []) = if bytes_eq e (codes "e") then Some (u, v, Some w) else None
edge_words _ = None

-- the edge of a line, or the error of the line: first its form, then its tokens from left to right
abbrev pub edge_in : ℕ → List (List ℕ) → Result Edge Fault
edge_in n words =
    ok_or (edge_words words) (Code 15) >>= λ word.
    end_in n word.0 >>= λ u.
    end_in n word.1 >>= λ v.
    weight_in word.2 >>= λ w.
    Ok (record { u = u; v = v; weight = w })

-- the error of a line with this edge after this many edges: its codes are reported before the
-- limit
abbrev pub fault_of : Result Edge Fault → ℕ → Option Fault
fault_of (Err fault) edges = Some fault
fault_of (Ok edge) edges = if nat_lt edges (2 ^ 23) then None else Some (Passes 5)

-- the error of a line after these, in a graph of n vertices
abbrev pub edge_fault : ℕ → List (List (List ℕ)) → List (List ℕ) → Option Fault
edge_fault n before words = fault_of (edge_in n words) (length before)

-- the first error among lines: that of the header, or of the first invalid line after it
abbrev pub line_refusal : List (ℕ × List (List ℕ)) → Option ReadRefusal
line_refusal [] = None
line_refusal (header ∷ lines) =
    or_else (at_line header.0 (header_fault header.1))
    (first_refusal (edge_fault (vertices_in header.1)) [] lines)

-- the edges of lines, in their order
abbrev pub edges_in : ℕ → List (ℕ × List (List ℕ)) → List Edge
edges_in n lines = filter_map (λ line. result_ok (edge_in n line.1)) lines

-- the graph of lines without an error
abbrev pub graph_in : List (ℕ × List (List ℕ)) → GraphOf
graph_in [] = record { vertices = 0; edges = [] }
graph_in (header ∷ lines) =
    record { vertices = vertices_in header.1; edges = edges_in (vertices_in header.1) lines }

-- the error of all lines of an input: there is no header
abbrev pub whole_refusal : ℕ → List (ℕ × List (List ℕ)) → Option ReadRefusal
whole_refusal line [] = Some (Malformed line 11)
whole_refusal line (header ∷ lines) = None

-- how the grammar checks an input
abbrev pub graph : Judgement
graph =
    record { passes_over = is_passed_over; of_lines = line_refusal; of_whole = whole_refusal }

-- the lines that are not skipped, by their tokens, each under its number; the first is the header
abbrev pub graph_lines : List (List ℕ) → List (ℕ × List (List ℕ))
graph_lines lines = told_lines graph lines

-- The first error of an input, in the order of the input. An input without one is that of a graph.
abbrev pub graph_refusal : List ℕ → Option ReadRefusal
graph_refusal text = text_refusal graph text

-- the graph of an input without an error
abbrev pub graph_of : List ℕ → GraphOf
graph_of text = graph_in (graph_lines (lines_of text))

-- the result for an input: its graph, or its first error
abbrev pub AnswersGraph : List ℕ → Result GraphOf ReadRefusal → Type 0
AnswersGraph text (Ok g) = (graph_refusal text ≡ None) × (g ≡ graph_of text)
AnswersGraph text (Err ReadFault) = ⊤
AnswersGraph text (Err OutOfMemory) = ⊤
AnswersGraph text (Err refusal) = graph_refusal text ≡ Some refusal

-- what was taken is within the limit, and no line that was taken to its end is rejected
abbrev pub HasNoBadLine : List ℕ → Type 0
HasNoBadLine taken = IsUnrefused graph taken
