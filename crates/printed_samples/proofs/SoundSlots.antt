-- In stacks without a fault each value of a variable represents an edge at its vertex: there are as many weights as
-- such edges, and none of them is 0.
use Rattle.std.proofs.Common.{◌≡◌, ℕ, ◌-◌, ◌<◌, List, [], ◌∷◌, length, sum, All, ap, ◌∙◌, arith}
use Rattle.std.proofs.lemmas.List.{length-map}
use Rattle.std.proofs.lemmas.List.Sums.{sum_by-cons}
use Rattle.std.proofs.lemmas.List.FromFn.{length-map-range_with_len, get_or-map-range_with_len}
use Rattle.pop_model.specs.Stacks.{row_of}
use Rattle.pop_model.specs.Popping.{cursor}
use Rattle.pop_model.specs.Names.{vertex_of}
use Rattle.graph_read.specs.Graphs.{GraphOf, edge_at}
use Rattle.graph_read.specs.Incidence.{edges_at}
use Rattle.cycle_popping.specs.Trees.{weights_at, weights_of_tree}
use Rattle.cycle_popping.proofs.TreeRows.{some_slot, tree_weights}
use Rattle.printed_samples.proofs.SoundValues.{sound_values}
use Rattle.printed_samples.specs.TreeLaws.{SoundSlots}

-- weights that aren't 0 add up to something
pub some_sum : (weights : List ℕ) → 0 < length weights → All (λ w. 0 < w) weights → 0 < sum weights
some_sum [] some all = absurd (omega arith)
some_sum (w ∷ weights) some all =
    let first : 0 < w = all 0 0 (omega arith) in omega (arith, sum_by-cons (λ (n : ℕ). n) w weights, first)

-- a variable has as many weights as edges stand at its vertex
row_size : (g : GraphOf) (root v : ℕ) → v < g.vertices - 1
    → length (row_of (weights_of_tree g root) v) ≡ length (edges_at g (vertex_of root v))
row_size g root v below =
    ap (λ (row : List ℕ). length row)
    (get_or-map-range_with_len (weights_at g root) 0 (g.vertices - 1) v v [] below (omega arith))
    ∙ length-map (edges_at g (vertex_of root v)) (λ i. (edge_at g i).weight)

-- the law
pub sound_slots : SoundSlots
sound_slots origin g root c is at joined sound v near =
    let below : v < g.vertices - 1 = omega arith in
    let size = row_size g root v below in
    let some = some_slot g root is at joined v below in
    let rows = length-map-range_with_len (weights_at g root) 0 (g.vertices - 1) in
    let within : v < length (weights_of_tree g root) = omega (arith, rows, below) in
    let weights = tree_weights g root is at joined in
    let row : List ℕ = row_of (weights_of_tree g root) v in
    let total : 0 < sum row =
    some_sum row (omega (arith, size, some)) (weights.positive v [] within) in
    let value = sound_values origin (weights_of_tree g root) sound v (cursor c v) within total in
    omega (arith, value, size)
