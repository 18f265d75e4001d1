-- Worked texts, so that a wrong token, sign, number or order is found.
use Rattle.std.proofs.Common.{◌≡◌, ℕ, zero, suc, List, [], ◌∷◌, Option, None, Some, refl, codes}
use Rattle.std.specs.Fmt.{digits}
use Rattle.pop_model.specs.Stacks.Origin.{Given}
use Rattle.pop_model.specs.Families.{Event}
use Rattle.pop_model.specs.Families.Family.{Listed, Cycles}
use Rattle.pop_model.specs.Instances.{Instance}
use Rattle.graph_read.specs.Graphs.{GraphOf}
use Rattle.pop_print.specs.declared.facts.Facts.TheVariants.{Formula, Orient, Tree, Made}
use Rattle.pop_print.specs.Output.{end_text}
use Rattle.pop_print.specs.Rounds.{rounds_text}
use Rattle.pop_print.specs.Batches.{batch_text}

-- the given entries of two variables
abbrev entries : List (List ℕ)
entries = (0 ∷ 0 ∷ 1 ∷ []) ∷ (1 ∷ 0 ∷ []) ∷ []

-- two variables of two values; event 7 demands the value 0 of the second
abbrev two : Instance
two =
    record {
      stacks = record { origin = Given entries; weights = (1 ∷ 1 ∷ []) ∷ (1 ∷ 1 ∷ []) ∷ [] };
      family = Listed ((3, (0, 1) ∷ []) ∷ (7, (1, 0) ∷ []) ∷ []);
    }

-- event 7, in the second place
abbrev second : Event
second = record { unit = 1; cube = (1, 0) ∷ [] }

-- no event occurs: the values, where the second variable has 0
a_sample : end_text (Formula 2) two (2 ∷ 1 ∷ []) 3 [] ≡ codes "s SAMPLE\nv 1 -2 0\nused 2 1\npops 3\n"
unfolding digits
a_sample = refl

-- an event is told by its number, and not by its place
an_event_that_occurs : end_text (Formula 2) two (2 ∷ 1 ∷ []) 3 (second ∷ []) ≡ codes "s EXHAUSTED\nstuck 7\nused 2 1\npops 3\n"
unfolding digits
an_event_that_occurs = refl

-- rounds are told in the place of pops
finished_rounds : rounds_text (Formula 2) two (2 ∷ 1 ∷ []) 3 [] None ≡ codes "s SAMPLE\nv 1 -2 0\nused 2 1\nrounds 3\n"
unfolding digits
finished_rounds = refl

-- and behind exhausted ones the variable without a next entry, from 1
exhausted_rounds : rounds_text (Formula 2) two (2 ∷ 1 ∷ []) 3 (second ∷ []) (Some 1)
    ≡ codes "s EXHAUSTED\nstuck 7\nused 2 1\nrounds 3\nshort 2\n"
unfolding digits
exhausted_rounds = refl

-- the ends of two samples of the same rows, behind their numbers
two_samples : batch_text (Formula 2) two
    (record { cursors = 2 ∷ 1 ∷ []; pops = 3; stuck = []; values = 1 ∷ 0 ∷ [] }
    ∷ record { cursors = 1 ∷ 1 ∷ []; pops = 2; stuck = second ∷ []; values = 0 ∷ 0 ∷ [] } ∷ [])
    ≡ codes "batch 2\nsample 0\ns SAMPLE\nv 1 -2 0\nused 2 1\npops 3\nsample 1\ns EXHAUSTED\nstuck 7\nused 1 1\npops 2\n"
unfolding digits
two_samples = refl

-- no variable: `v 0`, and `used` alone
nothing : end_text (Formula 0) (record { stacks = record { origin = Given []; weights = [] }; family = Listed [] }) [] 0 []
    ≡ codes "s SAMPLE\nv 0\nused\npops 0\n"
unfolding digits
nothing = refl

-- a triangle: the edges 1 2, 2 3 and 1 3
abbrev triangle : GraphOf
triangle =
    record {
      vertices = 3;
      edges = record { u = 1; v = 2; weight = 1 } ∷ record { u = 2; v = 3; weight = 1 }
          ∷ record { u = 1; v = 3; weight = 1 } ∷ [];
    }

-- the cycles of these arrows, with given rows
abbrev given : List (List ℕ) → List (List ℕ) → List (List (Option ℕ)) → Instance
given rows weights heads =
    record { stacks = record { origin = Given rows; weights = weights }; family = Cycles heads }

-- two values of weight 1 for each variable
abbrev two_each : ℕ → List (List ℕ)
two_each zero = []
two_each (suc n) = (1 ∷ 1 ∷ []) ∷ two_each n

-- the arrows of the triangle towards vertex 1: of vertex 2 along the edges 1 and 2, of vertex 3 along 2 and 3
abbrev to_one : List (List (Option ℕ))
to_one = (None ∷ Some 1 ∷ []) ∷ (Some 0 ∷ None ∷ []) ∷ []

-- the slots 1 and 0 lead along the edges 1 and 2
a_tree : end_text (Tree triangle 1) (given ((1 ∷ 0 ∷ []) ∷ (0 ∷ 0 ∷ []) ∷ []) (two_each 2) to_one) (1 ∷ 1 ∷ []) 1 []
    ≡ codes "s SAMPLE\na 2 1 1\na 3 2 2\nused 1 1\npops 1\n"
unfolding digits
a_tree = refl

-- the cycle of the vertices 2 and 3
abbrev of_two_three : Event
of_two_three = record { unit = 0; cube = (0, 1) ∷ (1, 0) ∷ [] }

-- a cycle is told by its vertices
a_cycle_that_occurs : end_text (Tree triangle 1) (given ((1 ∷ []) ∷ (0 ∷ []) ∷ []) (two_each 2) to_one) (0 ∷ 0 ∷ []) 0
    (of_two_three ∷ [])
    ≡ codes "s EXHAUSTED\nstuck 2 3\nused 0 0\npops 0\n"
unfolding digits
a_cycle_that_occurs = refl

-- towards vertex 2 the variables are the vertices 1 and 3; loops and parallel edges: the edges 2 2, 1 2 and 1 2
abbrev with_loop : GraphOf
with_loop =
    record {
      vertices = 2;
      edges = record { u = 2; v = 2; weight = 1 } ∷ record { u = 1; v = 2; weight = 5 }
          ∷ record { u = 1; v = 2; weight = 1 } ∷ [];
    }

-- slot 1 is the second of two parallel edges, behind a loop that is none
a_parallel_edge : end_text (Tree with_loop 2) (given ((1 ∷ []) ∷ []) ((5 ∷ 1 ∷ []) ∷ []) ((None ∷ None ∷ []) ∷ []))
    (0 ∷ []) 0 []
    ≡ codes "s SAMPLE\na 1 2 3\nused 0\npops 0\n"
unfolding digits
a_parallel_edge = refl

-- the edges of the triangle by their directions: 1 back along the first and the third
an_orientation : end_text (Orient triangle)
    (record {
      stacks = record { origin = Given ((0 ∷ 1 ∷ []) ∷ (0 ∷ []) ∷ (1 ∷ []) ∷ []); weights = two_each 3 };
      family = Listed [];
    })
    (1 ∷ 0 ∷ 0 ∷ []) 1 []
    ≡ codes "s SAMPLE\na 2 1 1\na 2 3 2\na 3 1 3\nused 1 0 0\npops 1\n"
unfolding digits
an_orientation = refl

-- a vertex that is a sink is told by its number
a_sink_that_occurs : end_text (Orient triangle)
    (record {
      stacks = record { origin = Given ((0 ∷ []) ∷ (1 ∷ []) ∷ (0 ∷ []) ∷ []); weights = two_each 3 };
      family = Listed ((1, (0, 1) ∷ (2, 1) ∷ []) ∷ (2, (0, 0) ∷ (1, 1) ∷ []) ∷ []);
    })
    (0 ∷ 0 ∷ 0 ∷ []) 0 (record { unit = 1; cube = (0, 0) ∷ (1, 1) ∷ [] } ∷ [])
    ≡ codes "s EXHAUSTED\nstuck 2\nused 0 0 0\npops 0\n"
unfolding digits
a_sink_that_occurs = refl

-- a grid of one vertex has no variable
one_vertex : end_text (Made 1) (given [] [] []) [] 0 []
    ≡ codes "s SAMPLE\ngrid 1\nused 0 0\npops 0\nsum 0\n"
unfolding digits
one_vertex = refl

-- the arrows of the grid of side 2 towards vertex 1: of vertex 2 along the edges 1 and 3, of vertex 3 along 2 and 4, of
-- vertex 4 along 3 and 4
abbrev to_corner : List (List (Option ℕ))
to_corner = (None ∷ Some 2 ∷ []) ∷ (None ∷ Some 2 ∷ []) ∷ (Some 0 ∷ Some 1 ∷ []) ∷ []

-- these arrows over given rows
abbrev over_corner : List (List ℕ) → Instance
over_corner rows = given rows (two_each 3) to_corner

-- each vertex once
a_grid : end_text (Made 2) (over_corner ((0 ∷ []) ∷ (0 ∷ []) ∷ (0 ∷ []) ∷ [])) (0 ∷ 0 ∷ 0 ∷ []) 0 []
    ≡ codes "s SAMPLE\ngrid 2\nused 0 0\npops 0\nsum 9\n"
unfolding digits
a_grid = refl

-- vertex 3 twice; the greatest cursor is not the last
a_popped_grid : end_text (Made 2) (over_corner ((1 ∷ 1 ∷ 0 ∷ []) ∷ (0 ∷ 1 ∷ []) ∷ (0 ∷ []) ∷ []))
    (2 ∷ 1 ∷ 0 ∷ []) 7 []
    ≡ codes "s SAMPLE\ngrid 2\nused 3 2\npops 7\nsum 12\n"
unfolding digits
a_popped_grid = refl

-- the cycle of the vertices 2 and 4
a_stuck_grid : end_text (Made 2) (over_corner ((1 ∷ []) ∷ (0 ∷ []) ∷ (0 ∷ []) ∷ [])) (0 ∷ 0 ∷ 0 ∷ []) 0
    (record { unit = 0; cube = (0, 1) ∷ (2, 0) ∷ [] } ∷ [])
    ≡ codes "s EXHAUSTED\ngrid 2\nstuck 1\nused 0 0\npops 0\n"
unfolding digits
a_stuck_grid = refl
