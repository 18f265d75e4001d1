use Rattle.std.proofs.Common.{◌≡◌, ◌∙◌, ◌++◌, ◌∷◌, [], get_or, ap, ap₂, sym}
use Rattle.std.proofs.lemmas.List.{map_more}
use Rattle.pop_rows.proofs.lists.copy_lists.Goals as goal

pub loop-v-preserved : goal.loop-v-preserved
loop-v-preserved g c =
    let list = c.index-lists-v.result in
    let here : list ≡ get_or c.args.lists.now c.loop-v.v list = c.index-lists-v.is in
    c.in_ok-add_copy.ensures
    ∙ ap₂ (λ xs x. xs ++ x ∷ []) c.loop-v.invariant (c.deref.ensures.value ∙ ap (λ v. v.items) here)
    ∙ sym (map_more (λ v. v.items) c.args.lists.now c.loop-v.v list c.loop-v-test.true)
