use Rattle.std.proofs.Common.{ℕ, ◌+◌, length, sym, ap, ap₂, ◌∙◌, ◌++◌, ◌∷◌, [], List, arith}
use Rattle.std.proofs.lemmas.List.FromFn.{length-map-range_with_len, map-range_with_len_more}
use Rattle.graph_read.specs.Incidence.{edges_at}
use Rattle.graph_read.proofs.other_ends.OtherEnds.degrees.Goals as goal

pub loop-v-preserved : goal.loop-v-preserved
loop-v-preserved c =
    let g = c.args.self.now in
    let v : ℕ = c.loop-v.v in
    let slots : ℕ → ℕ = λ w. length (edges_at g w) in
    c.in_ok-push.ensures.items
    ∙ ap₂ (λ (xs : List ℕ) (x : ℕ). xs ++ x ∷ []) c.loop-v.invariant c.degree.ensures
    ∙ sym (map-range_with_len_more slots 1 v (v + 1) (omega arith))

pub returns-clause-few : goal.returns-clause-few
returns-clause-few c =
    let g = c.args.self.now in
    omega (
      arith,
      ap length c.loop-v.invariant,
      length-map-range_with_len (λ w. length (edges_at g w)) 1 c.loop-v.v,
      c.loop-v.auto.v-end,
      c.vertices-v-end.ensures.count,
      c.vertices-v-end.ensures.graph.vertices_fit,
    )
