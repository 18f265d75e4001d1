-- Where each edge has weight 1, the weights of a variable's slots are as many ones.
use Rattle.std.proofs.Common.{◌≡◌, ◌∙◌, ℕ, suc, ◌-◌, ◌<◌, ◌≤◌, ◌^◌, List, [], ◌∷◌, length, map, get_or, replicate, refl, sym, ap, ap₂, arith, All}
use Rattle.std.specs.List.{range_with_len}
use Rattle.std.proofs.lemmas.List.Elements.{All-map, All-weaker}
use Rattle.pop_model.specs.Names.{vertex_of}
use Rattle.graph_read.specs.Graphs.{GraphOf, IsGraph, edge_at}
use Rattle.graph_read.specs.Incidence.{edges_at}
use Rattle.cycle_popping.specs.Trees.{weights_at, weights_of_tree}
use Rattle.graph_read.proofs.KnownEdges.{edges_known, edges_few}
use Rattle.cycle_popping.proofs.HeadNumbers.{map_twice}
use Rattle.cycle_popping.proofs.TreeRows.{rows_whole}

-- how many slots a variable has
abbrev pub slots_at : GraphOf → ℕ → ℕ → ℕ
slots_at g root v = length (edges_at g (vertex_of root v))

-- a list of ones
map_ones : (f : ℕ → ℕ) (xs : List ℕ) → All (λ x. f x ≡ 1) xs → replicate (length xs) 1 ≡ map f xs
map_ones f [] ones = refl
map_ones f (x ∷ xs) ones =
    ap₂ (λ (y : ℕ) (ys : List ℕ). y ∷ ys) (sym (ones 0 x (omega arith)))
    (map_ones f xs (λ k d less. ones (suc k) d (omega arith)))

-- as many ones for each variable as it has slots
pub ones_back : (g : GraphOf) (root : ℕ) → All (λ e. e.weight ≡ 1) g.edges
    → map (λ n. replicate n 1) (map (slots_at g root) (range_with_len 0 (g.vertices - 1))) ≡ weights_of_tree g root
ones_back g root ones = map_twice (λ n. replicate n 1) (slots_at g root) (weights_at g root)
    (range_with_len 0 (g.vertices - 1)) (λ k d less. row (get_or (range_with_len 0 (g.vertices - 1)) k d))
  where
    row : (v : ℕ) → replicate (slots_at g root v) 1 ≡ weights_at g root v
    row v = map_ones (λ i. (edge_at g i).weight) (edges_at g (vertex_of root v))
        (All-weaker (λ i. i < length g.edges) (λ i. (edge_at g i).weight ≡ 1)
        (λ i known. ones i (record { u = 0; v = 0; weight = 0 }) known)
        (edges_at g (vertex_of root v)) (edges_known g (vertex_of root v)))

-- no variable has many
pub slots_short : (g : GraphOf) (root n : ℕ) → IsGraph g
    → All (λ slots. slots < 2 ^ 31) (map (slots_at g root) (range_with_len 0 n))
slots_short g root n is = All-map (λ slots. slots < 2 ^ 31) (slots_at g root) (range_with_len 0 n) (λ k d less.
    let few = edges_few g (vertex_of root (get_or (range_with_len 0 n) k d)) in omega (arith, few, is.edges_fit))

-- ones for the slots of all variables are the weights of the tree
pub ones_are : (g : GraphOf) (root v count : ℕ) (lengths : List ℕ) (ones : List (List ℕ))
    → All (λ e. e.weight ≡ 1) g.edges → lengths ≡ map (slots_at g root) (range_with_len 0 v) → count ≡ g.vertices
    → v ≤ count - 1 → count - 1 ≤ v → ones ≡ map (λ n. replicate n 1) lengths → ones ≡ weights_of_tree g root
ones_are g root v count lengths ones weigh slots is low high made =
    made ∙ ap (map (λ n. replicate n 1)) (rows_whole (slots_at g root) g.vertices v count lengths slots is low high)
    ∙ ones_back g root weigh
