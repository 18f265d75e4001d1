use Rattle.std.proofs.Common.{ℕ, List, subst, is_lt, IsPermutation, rules}
use Rattle.std.proofs.lemmas.Fn.{dedup_same}
use Rattle.std.proofs.lemmas.List.Sorted.{ranks_by, answers_always, IsNonDecreasingBy-from_sort_by_key}
use Rattle.pop_model.specs.Popping.{Cube}
use Rattle.pop_instance.proofs.FirstOfEach.{row_cmp, row_total, same_cube}
use Rattle.pop_instance.proofs.Gathered.{keeps_first}
use Rattle.pop_instance.proofs.events.keep_first.Goals as goal

-- the closures compare rows by cube and then by number, test cubes for equality, and give numbers
pub returns-clause-kept : goal.returns-clause-kept
returns-clause-kept c =
    let rows : List (ℕ × Cube) = c.args.rows.now.items in
    let sorted : List (ℕ × Cube) = c.sort_unstable_by.new.self.items in
    let kept : List (ℕ × Cube) = c.sort_unstable_by_key.new.self.items in
    let in_order = c.sort_unstable_by.ensures.sorted (λ r q. is_lt (row_cmp r q))
    (ranks_by row_total (λ (r : ℕ × Cube). r)) (answers_always _ _ _ (λ f a r g called. search rules)) in
    let first = dedup_same _ same_cube _ (λ x y b f' x' y' called. search rules) _ _ c.dedup_by.ensures.filtered in
    let by_number = IsNonDecreasingBy-from_sort_by_key (λ (r : ℕ × Cube). r.0) kept
    c.sort_unstable_by_key.ensures.sorted (λ a r q called. search rules) in
    keeps_first rows sorted kept c.requires (record {
      sorts = c.sort_unstable_by.ensures.permutation;
      in_order = in_order;
      sorts_back = subst (λ xs. IsPermutation xs kept) first c.sort_unstable_by_key.ensures.permutation;
      by_number = by_number;
    })
