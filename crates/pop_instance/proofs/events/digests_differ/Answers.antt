use Rattle.std.proofs.Common.{rules, ◌≡◌, List, ℕ, ltb, subst}
use Rattle.std.specs.List.{IsAllAdjacentAnswer}
use Rattle.std.specs.List.Sorted.{IsNonDecreasing}
use Rattle.std.proofs.lemmas.List.Sorted.{answers_always, IsNonDecreasingBy-from_sort}
use Rattle.pop_instance.proofs.Digests.{differ_tested}
use Rattle.pop_instance.proofs.events.digests_differ.Goals as goal

-- the closure tests whether neighbours rise
pub returns : goal.returns
returns c =
    let digests : List ℕ = c.in_ok-digests.digests.items in
    let sorted : List ℕ = c.sort_unstable.new.self.items in
    let order : IsNonDecreasing sorted = IsNonDecreasingBy-from_sort (λ (x : ℕ). x) sorted c.sort_unstable.ensures.sorted in
    let tested = c.is_sorted_by.ensures.cases ltb (answers_always _ _ _ (λ f a r g called. search rules)) in
    differ_tested c.args.rows.now digests sorted c.is_sorted_by.result c.in_ok-digests.ensures
    c.sort_unstable.ensures.permutation order
    (subst (λ xs. IsAllAdjacentAnswer (λ x y b. b ≡ ltb x y) xs c.is_sorted_by.result) c.deref.ensures.value tested)
