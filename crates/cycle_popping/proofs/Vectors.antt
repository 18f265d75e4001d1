-- Worked trees, so that a wrong vertex, head or weight in a definition does not check.
use Rattle.std.proofs.Common.{◌≡◌, [], ◌∷◌, None, Some, refl}
use Rattle.graph_read.specs.Graphs.{GraphOf}
use Rattle.cycle_popping.specs.Trees.{heads_of_tree, weights_of_tree}

-- three vertices, each joined to each
triangle : GraphOf
triangle = record {
  vertices = 3;
  edges = record { u = 1; v = 2; weight = 1 } ∷ record { u = 2; v = 3; weight = 7 } ∷ record { u = 1; v = 3; weight = 4 } ∷ [];
}

-- to root 1: vertex 2 has edges to 1 and 3, and vertex 3 has edges to 2 and 1
triangle_heads : heads_of_tree triangle 1 ≡ (None ∷ Some 1 ∷ []) ∷ (Some 0 ∷ None ∷ []) ∷ []
unfolding triangle
triangle_heads = refl

-- the weights of these edges
triangle_weights : weights_of_tree triangle 1 ≡ (1 ∷ 7 ∷ []) ∷ (7 ∷ 4 ∷ []) ∷ []
unfolding triangle
triangle_weights = refl

-- to root 2: vertex 1 has edges to 2 and 3, and vertex 3 has edges to 2 and 1
other_heads : heads_of_tree triangle 2 ≡ (None ∷ Some 1 ∷ []) ∷ (None ∷ Some 0 ∷ []) ∷ []
unfolding triangle
other_heads = refl

-- two vertices with a loop at the second and two edges between them: the loop is no slot
parallel : GraphOf
parallel = record {
  vertices = 2;
  edges = record { u = 2; v = 2; weight = 1 } ∷ record { u = 1; v = 2; weight = 5 } ∷ record { u = 1; v = 2; weight = 1 } ∷ [];
}

-- both edges lead to the root
parallel_heads : heads_of_tree parallel 1 ≡ (None ∷ None ∷ []) ∷ []
unfolding parallel
parallel_heads = refl

-- each has its own weight
parallel_weights : weights_of_tree parallel 1 ≡ (5 ∷ 1 ∷ []) ∷ []
unfolding parallel
parallel_weights = refl
