use Rattle.std.proofs.Common.{ℕ, ◌-◌, ◌∷◌, ◌++◌, [], get_or, ap, sym, ◌∙◌, arith}
use Rattle.std.proofs.lemmas.List.FromFn.{map-range_with_len_more}
use Rattle.pop_model.specs.Names.{vertex_of}
use Rattle.array_calls.proofs.calls.without_root.Goals as goal

pub loop-v-preserved : goal.loop-v-preserved
loop-v-preserved c =
    let at : ℕ → ℕ = λ v. get_or c.args.from.now (vertex_of c.args.root v - 1) 0 in
    c.in_ok-push.ensures.items
    ∙ ap (λ w. c.loop-v.cursors.items ++ get_or c.args.from.now (w - 1) 0 ∷ []) c.vertex_of.ensures
    ∙ ap (λ xs. xs ++ at c.loop-v.v ∷ []) c.loop-v.invariant
    ∙ sym (map-range_with_len_more at 0 c.loop-v.v c.loop-v.v (omega arith))
