-- The rows that the calls with arrays fill, and the lines of the printed answers. Under one key,
-- row j of a call from sample `first` on has the numbers in the text of sample first + j.
use Rattle.std.specs.Prelude.{◌≡◌, ◌⊎◌, ℕ, ◌+◌, ◌-◌, ◌*◌, ◌<◌, List, [], length, map, flat_map, slice_index, slice_get, Some, Ok}
use Rattle.std.specs.List.{enumerate_from, range_with_len}
use Rattle.pop_model.specs.Families.Family.{Cycles}
use Rattle.pop_model.specs.Instances.{Instance}
use Rattle.pop_model.specs.Names.{vertex_of}
use Rattle.graph_read.specs.declared.edge.Edge.{Edge}
use Rattle.graph_read.specs.Ends.{graph_in}
use Rattle.graph_read.specs.Graphs.{GraphOf}
use Rattle.graph_read.specs.GraphText.{AnswersGraph}
use Rattle.cycle_popping.specs.Trees.{heads_of_tree}
use Rattle.pop_words.specs.declared.command.Command.TheVariants.{Orient, Tree}
use Rattle.pop_watch.specs.Telling.{Watcher}
use Rattle.pop_print.specs.declared.facts.Facts.TheVariants.{Orient as OrientFacts, Tree as TreeFacts}
use Rattle.pop_print.specs.Output.{arrow_line, oriented_line}
use Rattle.top_call.specs.Answers.{IsAnswer}
use Rattle.array_calls.specs.Trees.{IsTreeRow, trees_under}
use Rattle.array_calls.specs.Values.{AreSinksUnder, IsValueRow}
use Rattle.array_laws.specs.BatchTexts.{AskForBatch, IsEndText, text_of_samples}

-- the number of a vertex in the row that begins at a place
abbrev pub number_of : List ℕ → ℕ → ℕ → ℕ
number_of numbers at w = slice_index numbers (at + (w - 1))

-- The line of a vertex's arrow. Its head and its edge count from 0 in the arrays, and from 1 in
-- the text.
abbrev pub row_arrow : ℕ → List ℕ → List ℕ → ℕ → List ℕ
row_arrow at parents edges w =
    arrow_line w (number_of parents at w + 1) (number_of edges at w + 1)

-- the lines of the arrows of all n vertices except the root
abbrev pub row_arrows : ℕ → ℕ → ℕ → List ℕ → List ℕ → List ℕ
row_arrows n root at parents edges =
    flat_map (λ v. row_arrow at parents edges (vertex_of root v)) (range_with_len 0 (n - 1))

-- the cursors of their variables
abbrev pub row_used : ℕ → ℕ → ℕ → List ℕ → List ℕ
row_used n root at useds =
    map (λ v. number_of useds at (vertex_of root v)) (range_with_len 0 (n - 1))

-- the text of row j of the trees of a graph, if edges and cursors are wanted too
abbrev pub IsTextOfTree : GraphOf → ℕ → ℕ → List ℕ → List ℕ → List ℕ → List ℕ → List ℕ → Type 0
IsTextOfTree g root j parents edges useds counts =
    IsEndText (TreeFacts g root) (Cycles (heads_of_tree g root))
    (row_arrows g.vertices root (j * g.vertices) parents edges)
    (row_used g.vertices root (j * g.vertices) useds) (slice_index counts (2 * j))
    (slice_index counts (2 * j + 1))

-- The text of its sample has each row of trees of the graph under the key, whichever call filled
-- the row.
abbrev pub AreTextsOfTrees : List ℕ → ℕ → GraphOf → ℕ → List (List ℕ) → Type 0
AreTextsOfTrees key height g root texts = (first j : ℕ) (parents edges useds counts text : List ℕ)
    → slice_get texts (first + j) ≡ Some text → 0 < length edges → 0 < length useds
    → IsTreeRow (trees_under key height g root) g root first [] j parents edges useds counts
    → IsTextOfTree g root j parents edges useds counts text

-- an output is a batch of this many samples with texts for which this holds
abbrev pub HasTexts : ℕ → (List (List ℕ) → Type 0) → List ℕ → Type 0
HasTexts count Are out = (texts : List (List ℕ)) × (length texts ≡ count)
    × (out ≡ text_of_samples texts) × Are texts

-- If arguments ask for trees of a graph under a key, each answer except errors has the text of
-- each row of the arrays.
abbrev pub TreeRowsPrinted : Type 0
TreeRowsPrinted = (words : List (List ℕ)) (watchers : List Watcher) (text out : List ℕ)
    (n : ℕ) (ends weights key : List ℕ) (root height count status : ℕ)
    → (asked : AskForBatch words Tree key height count) → asked.job.root ≡ root + 1
    → AnswersGraph text (Ok (graph_in n ends weights))
    → IsAnswer words watchers text status out → (status ≡ 0) ⊎ (status ≡ 1)
    → HasTexts count (AreTextsOfTrees key height (graph_in n ends weights) (root + 1)) out

-- an edge with its number, from 0, and its value in the row that begins at a place
abbrev pub row_edge : ℕ → List ℕ → ℕ × Edge → List ℕ
row_edge at directions p = oriented_line p.1 (p.0 + 1) (slice_index directions (at + p.0))

-- all edges of a graph
abbrev pub row_edges : GraphOf → ℕ → List ℕ → List ℕ
row_edges g at directions = flat_map (row_edge at directions) (enumerate_from 0 g.edges)

-- this many numbers from a place on
abbrev pub numbers_from : ℕ → ℕ → List ℕ → List ℕ
numbers_from at n numbers = map (λ k. slice_index numbers (at + k)) (range_with_len 0 n)

-- the text of row j of the orientations of a graph, if cursors are wanted too
abbrev pub IsTextOfOrientation : GraphOf → Instance → ℕ → List ℕ → List ℕ → List ℕ → List ℕ → Type 0
IsTextOfOrientation g i j directions useds counts =
    IsEndText (OrientFacts g) i.family (row_edges g (j * length g.edges) directions)
    (numbers_from (j * length g.edges) (length g.edges) useds) (slice_index counts (2 * j))
    (slice_index counts (2 * j + 1))

-- The text of its sample has each row of orientations of the graph under the key, whichever call
-- filled the row.
abbrev pub AreTextsOfOrientations : List ℕ → ℕ → GraphOf → List (List ℕ) → Type 0
AreTextsOfOrientations key height g texts = (i : Instance) (first j : ℕ)
    (directions useds counts text : List ℕ) → AreSinksUnder key height g i
    → slice_get texts (first + j) ≡ Some text → 0 < length useds
    → IsValueRow i (length g.edges) first [] j directions useds counts
    → IsTextOfOrientation g i j directions useds counts text

-- If arguments ask for orientations of a graph under a key, each answer except errors has the text
-- of each row of the arrays.
abbrev pub OrientationRowsPrinted : Type 0
OrientationRowsPrinted = (words : List (List ℕ)) (watchers : List Watcher) (text out : List ℕ)
    (n : ℕ) (ends key : List ℕ) (height count status : ℕ)
    → AskForBatch words Orient key height count → AnswersGraph text (Ok (graph_in n ends []))
    → IsAnswer words watchers text status out → (status ≡ 0) ⊎ (status ≡ 1)
    → HasTexts count (AreTextsOfOrientations key height (graph_in n ends [])) out
