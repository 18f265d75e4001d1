-- Texts worked by hand from the grammar, so that a slip in a definition does not check.
use Rattle.std.proofs.Common.{◌≡◌, ℕ, List, [], ◌∷◌, ◌++◌, codes, refl, Some, None, flat_map, arith}
use Rattle.pop_model.specs.Text.{line}
use Rattle.pop_edge.specs.declared.refusal.ReadRefusal.TheVariants.{Malformed, Limit}
use Rattle.graph_read.specs.declared.edge.Edge.{Edge}
use Rattle.graph_read.specs.GraphText.{HasNoBadLine, graph_of, graph_refusal}
use Rattle.graph_read.specs.Grids.{grid_neighbours, grid_of}
use Rattle.graph_read.specs.Incidence.{neighbours_of}

-- a text by its lines
abbrev text : List (List ℕ) → List ℕ
text ls = flat_map line ls

-- an edge, in short
abbrev edge : ℕ → ℕ → ℕ → Edge
edge u v weight = record { u = u; v = v; weight = weight }

-- the text is that of a graph of so many vertices and these edges
abbrev Reads : List ℕ → ℕ → List Edge → Type 0
Reads bytes vertices edges =
    (graph_refusal bytes ≡ None) × (graph_of bytes ≡ record { vertices = vertices; edges = edges })

-- without a header the line behind the last is named
no_text : graph_refusal [] ≡ Some (Malformed 1 11)
no_text = refl

-- a comment is no header
only_a_comment : graph_refusal (text (codes "c" ∷ [])) ≡ Some (Malformed 2 11)
only_a_comment = refl

-- nor are empty lines
only_empty_lines : graph_refusal (text ([] ∷ [] ∷ [])) ≡ Some (Malformed 3 11)
only_empty_lines = refl

-- nor are the descriptors that are passed over
only_descriptors : graph_refusal (text (codes "n 1 2" ∷ codes "d" ∷ codes "v 1" ∷ codes "x" ∷ []))
    ≡ Some (Malformed 5 11)
only_descriptors = refl

-- a header has four words, `p`, a kind and two numbers
other_kind : graph_refusal (text (codes "p edges 2 1" ∷ [])) ≡ Some (Malformed 1 11)
other_kind = refl

-- of another kind
other_format : graph_refusal (text (codes "p cnf 2 1" ∷ [])) ≡ Some (Malformed 1 11)
other_format = refl

-- of another first word
other_first_word : graph_refusal (text (codes "edge edge 2 1" ∷ [])) ≡ Some (Malformed 1 11)
other_first_word = refl

-- of a first word in upper case
upper_case : graph_refusal (text (codes "P edge 2 1" ∷ [])) ≡ Some (Malformed 1 11)
upper_case = refl

-- an edge where the header should stand
edge_before_the_header : graph_refusal (text (codes "e 1 2" ∷ codes "p edge 2 1" ∷ [])) ≡ Some (Malformed 1 11)
edge_before_the_header = refl

-- a header that lacks a number
header_of_three_words : graph_refusal (text (codes "p edge 2" ∷ [])) ≡ Some (Malformed 1 11)
header_of_three_words = refl

-- a header with a word too many
header_of_five_words : graph_refusal (text (codes "p edge 2 1 0" ∷ [])) ≡ Some (Malformed 1 11)
header_of_five_words = refl

-- a header whose first number is none
no_number_of_vertices : graph_refusal (text (codes "p edge x 1" ∷ [])) ≡ Some (Malformed 1 11)
no_number_of_vertices = refl

-- a header whose second number is none
no_number_of_edges : graph_refusal (text (codes "p col 2 -1" ∷ [])) ≡ Some (Malformed 1 11)
no_number_of_edges = refl

-- a header whose second number is past 32 bits
large_number_of_edges : graph_refusal (text (codes "p col 2 4294967296" ∷ [])) ≡ Some (Malformed 1 11)
large_number_of_edges = refl

-- a number of eleven digits
header_of_eleven_digits : graph_refusal (text (codes "p edge 00000000002 1" ∷ [])) ≡ Some (Malformed 1 11)
header_of_eleven_digits = refl

-- lines that are passed over count, where the header behind them is named
bad_header_behind_comments : graph_refusal (text (codes "c x" ∷ [] ∷ codes "p col 2" ∷ [])) ≡ Some (Malformed 3 11)
bad_header_behind_comments = refl

-- numbers of ten digits
header_of_ten_digits : Reads (text (codes "p edge 0000000002 4294967295" ∷ [])) 2 []
header_of_ten_digits = (refl, refl)

-- a header may stand behind lines that are passed over, and what it says of edges is not compared
header_behind_other_lines : Reads (text (codes "c x" ∷ [] ∷ codes "  col" ∷ codes "n 1 2" ∷ codes "  p  col 2 7" ∷ []))
    2 []
header_behind_other_lines = (refl, refl)

-- a graph may have no vertex
no_vertices : Reads (text (codes "p edge 0 0" ∷ [])) 0 []
no_vertices = (refl, refl)

-- limit 2 comes behind code 11
most_vertices : graph_refusal (text (codes "p edge 4194304 0" ∷ [])) ≡ None
most_vertices = refl

-- one vertex more passes the limit
too_many_vertices : graph_refusal (text (codes "p edge 4194305 0" ∷ [])) ≡ Some (Limit 2 1)
too_many_vertices = refl

-- and where the limit is
too_many_vertices_behind_a_comment : graph_refusal (text (codes "c" ∷ codes "p col 4294967295 0" ∷ []))
    ≡ Some (Limit 2 2)
too_many_vertices_behind_a_comment = refl

-- what is no number is no limit that is passed
vertices_past_the_numbers : graph_refusal (text (codes "p col 4294967296 0" ∷ [])) ≡ Some (Malformed 1 11)
vertices_past_the_numbers = refl

-- a header of three words has no number of vertices to judge
too_many_vertices_in_three_words : graph_refusal (text (codes "p edge 4194305" ∷ [])) ≡ Some (Malformed 1 11)
too_many_vertices_in_three_words = refl

-- a word that is no number
no_number_first : graph_refusal (text (codes "p edge 2 1" ∷ codes "e x 2" ∷ [])) ≡ Some (Malformed 2 12)
no_number_first = refl

-- as the second end
no_number_second : graph_refusal (text (codes "p edge 2 1" ∷ codes "e 1 2x" ∷ [])) ≡ Some (Malformed 2 12)
no_number_second = refl

-- as the weight: no sign stands before a number
no_number_of_weight : graph_refusal (text (codes "p edge 2 1" ∷ codes "e 1 2 -1" ∷ [])) ≡ Some (Malformed 2 12)
no_number_of_weight = refl

-- a number has at most ten digits
eleven_digits : graph_refusal (text (codes "p edge 2 1" ∷ codes "e 1 00000000002" ∷ [])) ≡ Some (Malformed 2 12)
eleven_digits = refl

-- an end is below 2^32
past_the_numbers : graph_refusal (text (codes "p edge 2 1" ∷ codes "e 1 4294967296" ∷ [])) ≡ Some (Malformed 2 12)
past_the_numbers = refl

-- and so is a weight
weight_past_the_numbers : graph_refusal (text (codes "p edge 2 1" ∷ codes "e 1 2 4294967296" ∷ []))
    ≡ Some (Malformed 2 12)
weight_past_the_numbers = refl

-- an end that is no vertex
vertex_0_first : graph_refusal (text (codes "p edge 2 1" ∷ codes "e 0 1" ∷ [])) ≡ Some (Malformed 2 13)
vertex_0_first = refl

-- vertices count from 1 at the second end too
vertex_0_second : graph_refusal (text (codes "p edge 2 1" ∷ codes "e 1 0" ∷ [])) ≡ Some (Malformed 2 13)
vertex_0_second = refl

-- one past the last vertex
past_the_vertices_first : graph_refusal (text (codes "p edge 2 1" ∷ codes "e 3 1" ∷ [])) ≡ Some (Malformed 2 13)
past_the_vertices_first = refl

-- the same at the second end
past_the_vertices_second : graph_refusal (text (codes "p edge 2 1" ∷ codes "e 1 3" ∷ [])) ≡ Some (Malformed 2 13)
past_the_vertices_second = refl

-- the greatest number that a word may be
greatest_number : graph_refusal (text (codes "p edge 2 1" ∷ codes "e 4294967295 1" ∷ [])) ≡ Some (Malformed 2 13)
greatest_number = refl

-- where there is no vertex no edge is right
edge_without_vertices : graph_refusal (text (codes "p edge 0 0" ∷ codes "e 1 1" ∷ [])) ≡ Some (Malformed 2 13)
edge_without_vertices = refl

-- the weight 0
weight_0 : graph_refusal (text (codes "p edge 2 1" ∷ codes "e 1 2 0" ∷ [])) ≡ Some (Malformed 2 14)
weight_0 = refl

-- as ten digits
weight_of_zeros : graph_refusal (text (codes "p edge 2 1" ∷ codes "e 1 2 0000000000" ∷ [])) ≡ Some (Malformed 2 14)
weight_of_zeros = refl

-- a line of another form
one_word : graph_refusal (text (codes "p edge 2 1" ∷ codes "e" ∷ [])) ≡ Some (Malformed 2 15)
one_word = refl

-- with one end
two_words : graph_refusal (text (codes "p edge 2 1" ∷ codes "e 1" ∷ [])) ≡ Some (Malformed 2 15)
two_words = refl

-- with one word too many
five_words : graph_refusal (text (codes "p edge 2 1" ∷ codes "e 1 2 3 4" ∷ [])) ≡ Some (Malformed 2 15)
five_words = refl

-- a header behind the first one
second_header : graph_refusal (text (codes "p edge 2 1" ∷ codes "p edge 2 1" ∷ [])) ≡ Some (Malformed 2 15)
second_header = refl

-- the end of other programs' texts
percent : graph_refusal (text (codes "p edge 2 1" ∷ codes "%" ∷ [])) ≡ Some (Malformed 2 15)
percent = refl

-- a word that begins no line
other_word : graph_refusal (text (codes "p edge 2 1" ∷ codes "a 1 2" ∷ [])) ≡ Some (Malformed 2 15)
other_word = refl

-- words are told apart by case
upper_case_edge : graph_refusal (text (codes "p edge 2 1" ∷ codes "E 1 2" ∷ [])) ≡ Some (Malformed 2 15)
upper_case_edge = refl

-- and are whole
longer_edge_word : graph_refusal (text (codes "p edge 2 1" ∷ codes "ee 1 2" ∷ [])) ≡ Some (Malformed 2 15)
longer_edge_word = refl

-- descriptors are whole words, and comments begin with their byte
longer_n : graph_refusal (text (codes "p edge 2 1" ∷ codes "nn 1 5" ∷ [])) ≡ Some (Malformed 2 15)
longer_n = refl

-- a dimension is the word d
longer_d : graph_refusal (text (codes "p edge 2 1" ∷ codes "d1 5" ∷ [])) ≡ Some (Malformed 2 15)
longer_d = refl

-- a vertex is the word v
longer_v : graph_refusal (text (codes "p edge 2 1" ∷ codes "vertex 1" ∷ [])) ≡ Some (Malformed 2 15)
longer_v = refl

-- a parameter is the word x
longer_x : graph_refusal (text (codes "p edge 2 1" ∷ codes "x= 1" ∷ [])) ≡ Some (Malformed 2 15)
longer_x = refl

-- each line that is passed over, in one text
passed_over_lines : Reads (text (codes "p edge 2 1" ∷ codes "n 1 5" ∷ codes "d" ∷ codes "c" ∷ codes "v 1 2 x"
    ∷ codes "x 0" ∷ codes "cedge" ∷ codes "  c 1" ∷ [] ∷ codes "e 1 2" ∷ []))
    2 (edge 1 2 1 ∷ [])
passed_over_lines = (refl, refl)

-- in one line code 15 comes first, and then the words from left to right
code_13_of_the_first_word : graph_refusal (text (codes "p edge 2 1" ∷ codes "e 0 x" ∷ [])) ≡ Some (Malformed 2 13)
code_13_of_the_first_word = refl

-- the first end is judged before the second
code_12_of_the_first_word : graph_refusal (text (codes "p edge 2 1" ∷ codes "e x 0" ∷ [])) ≡ Some (Malformed 2 12)
code_12_of_the_first_word = refl

-- the second end before the weight
code_12_before_the_weight : graph_refusal (text (codes "p edge 2 1" ∷ codes "e 1 x 0" ∷ [])) ≡ Some (Malformed 2 12)
code_12_before_the_weight = refl

-- also where it is a number, and the weight is none
code_13_before_the_weight : graph_refusal (text (codes "p edge 2 1" ∷ codes "e 1 3 x" ∷ [])) ≡ Some (Malformed 2 13)
code_13_before_the_weight = refl

-- a wrong vertex before the weight 0
code_13_before_weight_0 : graph_refusal (text (codes "p edge 2 1" ∷ codes "e 3 1 0" ∷ [])) ≡ Some (Malformed 2 13)
code_13_before_weight_0 = refl

-- the number of words before the ends
code_15_before_code_13 : graph_refusal (text (codes "p edge 2 1" ∷ codes "e 0 0 0 0" ∷ [])) ≡ Some (Malformed 2 15)
code_15_before_code_13 = refl

-- the first word before the others
code_15_before_code_12 : graph_refusal (text (codes "p edge 2 1" ∷ codes "a x x" ∷ [])) ≡ Some (Malformed 2 15)
code_15_before_code_12 = refl

-- of two bad lines the first is named
first_line_of_two : graph_refusal (text (codes "p edge 2 1" ∷ codes "e 1 3" ∷ codes "e 1 x" ∷ []))
    ≡ Some (Malformed 2 13)
first_line_of_two = refl

-- whichever its code is
other_line_of_two : graph_refusal (text (codes "p edge 2 1" ∷ codes "e 1 x" ∷ codes "e 1 3" ∷ []))
    ≡ Some (Malformed 2 12)
other_line_of_two = refl

-- lines that are passed over count, and what stands behind says nothing
bad_middle_line : graph_refusal (text (codes "p edge 2 1" ∷ codes "e 1 2" ∷ codes "c" ∷ codes "e 1 2 0"
    ∷ codes "e 2 1" ∷ []))
    ≡ Some (Malformed 4 14)
bad_middle_line = refl

-- the last line is judged as the others are
bad_last_line : graph_refusal (text (codes "p edge 2 1" ∷ codes "e 1 2" ∷ codes "e 2 1" ∷ codes "e 1" ∷ []))
    ≡ Some (Malformed 4 15)
bad_last_line = refl

-- the header is judged before the lines behind it
bad_header_and_line : graph_refusal (text (codes "p edge 2" ∷ codes "e 1 x" ∷ [])) ≡ Some (Malformed 1 11)
bad_header_and_line = refl

-- loops and parallel edges are kept, in their order
loop_and_parallel_edges : Reads (text (codes "p edge 2 3" ∷ codes "e 2 2" ∷ codes "e 1 2 5" ∷ codes "e 1 2" ∷ []))
    2 (edge 2 2 1 ∷ edge 1 2 5 ∷ edge 1 2 1 ∷ [])
loop_and_parallel_edges = (refl, refl)

-- numbers may have leading zeros
leading_zeros : Reads (text (codes "p col 2 1" ∷ codes "e 01 002 0000000003" ∷ [])) 2 (edge 1 2 3 ∷ [])
leading_zeros = (refl, refl)

-- the greatest weight
greatest_weight : Reads (text (codes "p edge 2 1" ∷ codes "e 2 1 4294967295" ∷ [])) 2 (edge 2 1 4294967295 ∷ [])
greatest_weight = (refl, refl)

-- the number of edges in the header says nothing
fewer_edges_than_declared : Reads (text (codes "p edge 3 9" ∷ codes "e 1 3" ∷ [])) 3 (edge 1 3 1 ∷ [])
fewer_edges_than_declared = (refl, refl)

-- blanks are space, tab and carriage return, and a last line may lack its end
tabs_and_carriage_returns : Reads (text ((codes "p edge 2 1" ++ 13 ∷ []) ∷ (101 ∷ 9 ∷ 49 ∷ 9 ∷ 50 ∷ 13 ∷ []) ∷ [])) 2
    (edge 1 2 1 ∷ [])
tabs_and_carriage_returns = (refl, refl)

-- a form feed is no blank
form_feed : graph_refusal (text (codes "p edge 2 1" ∷ (101 ∷ 32 ∷ 49 ∷ 12 ∷ 50 ∷ []) ∷ [])) ≡ Some (Malformed 2 15)
form_feed = refl

-- a last line that lacks its end is a line
last_line_without_end : Reads (codes "p edge 2 1" ++ 10 ∷ codes "e 1 2") 2 (edge 1 2 1 ∷ [])
last_line_without_end = (refl, refl)

-- and is judged
bad_line_without_end : graph_refusal (codes "p edge 2 1" ++ 10 ∷ codes "e 1 3") ≡ Some (Malformed 2 13)
bad_line_without_end = refl

-- the header may be that line
header_without_end : Reads (codes "p edge 1 0") 1 []
header_without_end = (refl, refl)

-- a bad word in a line without its end isn't refused yet
a_line_that_goes_on : HasNoBadLine (codes "p edge 2 1" ++ 10 ∷ codes "e x")
a_line_that_goes_on = record { short = omega arith; clean = refl }

-- the rows 1 2 and 3 4
grid_of_two_rows : grid_of 2
    ≡ record { vertices = 4; edges = edge 1 2 1 ∷ edge 1 3 1 ∷ edge 2 4 1 ∷ edge 3 4 1 ∷ [] }
grid_of_two_rows = refl

-- the grid of one vertex has no edge
grid_of_one_row : grid_of 1 ≡ record { vertices = 1; edges = [] }
grid_of_one_row = refl

-- of the rows 1 2 3, 4 5 6 and 7 8 9: the middle, a corner and the end of a row
neighbours_of_the_middle : grid_neighbours 3 2 2 ≡ 2 ∷ 4 ∷ 6 ∷ 8 ∷ []
neighbours_of_the_middle = refl

-- a corner has two
neighbours_of_a_corner : neighbours_of (grid_of 3) 1 ≡ 2 ∷ 4 ∷ []
neighbours_of_a_corner = refl

-- the end of a row has three
neighbours_of_a_row_end : neighbours_of (grid_of 3) 6 ≡ 3 ∷ 5 ∷ 9 ∷ []
neighbours_of_a_row_end = refl
