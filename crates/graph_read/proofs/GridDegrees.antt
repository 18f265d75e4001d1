-- At a vertex of a grid stand as many edges as it has neighbours: one in each direction in which there is one.
use Rattle.std.proofs.Common.{◌≡◌, ℕ, ◌+◌, ◌-◌, ◌*◌, ◌/◌, ◌%◌, Bool, true, false, nat_lt, ◌++◌, length, refl, ap, arith, length-append}
use Rattle.std.proofs.lemmas.List.{length-map}
use Rattle.graph_read.specs.Graphs.{IsVertex, edge_at}
use Rattle.graph_read.specs.Grids.{IsSide, grid_of, vertex_where}
use Rattle.graph_read.specs.Incidence.{edges_at, other_end}
use Rattle.graph_read.proofs.GridIncidence.{by_number}

-- as many numbers come of a vertex that is there, whichever it is
where_long : (b : Bool) (u v : ℕ) → length (vertex_where b u) ≡ length (vertex_where b v)
where_long true u v = refl
where_long false u v = refl

-- how many edges stand at a vertex, by its number: as many as its neighbours, one in each direction that is there
pub degree_by_number : (side w : ℕ) → IsSide side → IsVertex (side * side) w
    → length (vertex_where (nat_lt 1 ((w - 1) / side + 1)) 0) + length (vertex_where (nat_lt 1 ((w - 1) % side + 1)) 0)
    + length (vertex_where (nat_lt ((w - 1) % side + 1) side) 0)
    + length (vertex_where (nat_lt ((w - 1) / side + 1) side) 0)
    ≡ length (edges_at (grid_of side) w)
degree_by_number side w is vertex =
    let g = grid_of side in
    let above = vertex_where (nat_lt 1 ((w - 1) / side + 1)) (w - side) in
    let left = vertex_where (nat_lt 1 ((w - 1) % side + 1)) (w - 1) in
    let right = vertex_where (nat_lt ((w - 1) % side + 1) side) (w + 1) in
    let below = vertex_where (nat_lt ((w - 1) / side + 1) side) (w + side) in
    omega (
      arith,
      length-map (edges_at g w) (λ i. other_end (edge_at g i) w),
      ap length (by_number side w is vertex),
      length-append (above ++ left ++ right) below,
      length-append (above ++ left) right,
      length-append above left,
      where_long (nat_lt 1 ((w - 1) / side + 1)) 0 (w - side),
      where_long (nat_lt 1 ((w - 1) % side + 1)) 0 (w - 1),
      where_long (nat_lt ((w - 1) % side + 1) side) 0 (w + 1),
      where_long (nat_lt ((w - 1) / side + 1) side) 0 (w + side),
    )
