-- Values that a mistake in a definition would change, worked by hand.
use Rattle.std.proofs.Common.{◌≡◌, ℕ, List, [], ◌∷◌, refl}
use Rattle.graph_read.specs.Graphs.{GraphOf}
use Rattle.spanning_samples.specs.SpanningSets.{chosen_edges, edges_weight}

-- a triangle, with a second edge between 2 and 3, and a loop
triangle : GraphOf
triangle = record {
  vertices = 3;
  edges = record { u = 1; v = 2; weight = 2 } ∷ record { u = 2; v = 2; weight = 11 } ∷ record { u = 2; v = 3; weight = 3 }
      ∷ record { u = 3; v = 1; weight = 5 } ∷ record { u = 3; v = 2; weight = 7 } ∷ [];
}

-- edges 0 and 4 weigh 2 and 7
weight : edges_weight triangle (0 ∷ 4 ∷ []) ≡ 14
unfolding triangle
weight = refl

-- towards vertex 1: at vertex 2 stand edges 0, 2 and 4, at vertex 3 edges 2, 3 and 4
to_first : chosen_edges triangle 1 (0 ∷ 2 ∷ []) ≡ 0 ∷ 4 ∷ []
unfolding triangle
to_first = refl

-- towards vertex 3 the same tree: at vertex 1 stand edges 0 and 3, at vertex 2 edges 0, 2 and 4
to_last : chosen_edges triangle 3 (0 ∷ 2 ∷ []) ≡ 0 ∷ 4 ∷ []
unfolding triangle
to_last = refl
