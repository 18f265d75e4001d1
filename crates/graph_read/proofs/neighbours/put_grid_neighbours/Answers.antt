use Rattle.std.proofs.Common.{◌-◌, ◌+◌, ◌/◌, ◌%◌, ℕ, List, ◌++◌, nat_lt, ap, ◌∙◌}
use Rattle.std.proofs.lemmas.Result.{on_ok_weaker}
use Rattle.graph_read.specs.Grids.{vertex_where}
use Rattle.graph_read.proofs.GridIncidence.{by_number}
use Rattle.graph_read.proofs.neighbours.put_grid_neighbours.Goals as goal

pub returns : goal.returns
returns c =
    let w : ℕ = c.args.vertex in
    let side : ℕ = c.args.side in
    let left : List ℕ → List ℕ = λ xs. xs ++ vertex_where (nat_lt 1 ((w - 1) % side + 1)) (w - 1) in
    let right : List ℕ → List ℕ = λ xs. xs ++ vertex_where (nat_lt ((w - 1) % side + 1) side) (w + 1) in
    let below : List ℕ → List ℕ = λ xs. xs ++ vertex_where (nat_lt ((w - 1) / side + 1) side) (w + side) in
    let above : ℕ → List ℕ = λ v. vertex_where (nat_lt 1 ((w - 1) / side + 1)) v in
    let first = c.in_ok-add_where.ensures ∙ ap (λ xs. xs ++ above c.saturating_sub.result) c.clear.ensures.items
    ∙ ap above c.saturating_sub.ensures in
    on_ok_weaker c.add_where-4.result
    (λ added. added
    ∙ ap below
    (c.in_ok-add_where-3.ensures ∙ ap right (c.in_ok-add_where-2.ensures ∙ ap left first))
    ∙ by_number side w c.requires.side c.requires.vertex)
    c.add_where-4.ensures
