-- Worked values: which clauses the literals 1 and -2 satisfy, how an edge is directed, and how arrows and events are
-- written.
use Rattle.std.proofs.Common.{◌≡◌, ℕ, pos, negsuc, List, [], ◌∷◌, codes, refl, arith}
use Rattle.std.specs.Fmt.{digits}
use Rattle.graph_read.specs.declared.edge.Edge.{Edge}
use Rattle.printed_samples.specs.Arrows.{lines_of, oriented}
use Rattle.printed_samples.specs.Assignments.{IsSatisfied}
use Rattle.printed_samples.specs.Stuck.{stuck_text}

-- the words of 1 and of not 2
abbrev words : List (List ℕ)
words = codes "1" ∷ codes "-2" ∷ []

-- the clause of 2 and not 2 is satisfied by the second word
by_the_second : IsSatisfied words (pos 2 ∷ negsuc 1 ∷ [])
unfolding digits
by_the_second = record { literal = negsuc 1; in_clause = (1, omega arith, refl); printed = (1, omega arith, refl) }

-- an edge from 4 to 7
abbrev edge : Edge
edge = record { u = 4; v = 7; weight = 1 }

-- at 0 it points from its first vertex to its second
forth : oriented edge 3 0 ≡ record { tail = 4; head = 7; number = 3 }
forth = refl

-- and at 1 back
back : oriented edge 3 1 ≡ record { tail = 7; head = 4; number = 3 }
back = refl

-- the lines of both
written : lines_of (oriented edge 3 0 ∷ oriented edge 12 1 ∷ []) ≡ codes "a 4 7 3\na 7 4 12\n"
unfolding digits
written = refl

-- the lines of an event with one number and of one with two
stuck_written : stuck_text ((2 ∷ []) ∷ (3 ∷ 15 ∷ []) ∷ []) ≡ codes "stuck 2\nstuck 3 15\n"
unfolding digits
stuck_written = refl
