use Rattle.std.proofs.Common.{rules, ℕ}
use Rattle.std.proofs.lemmas.List.Sorted.{IsNonDecreasingBy-from_sort_by_key}
use Rattle.event_finders.proofs.walking.sort_pairs.Goals as goal

pub returns-clause-rising : goal.returns-clause-rising
returns-clause-rising c =
    IsNonDecreasingBy-from_sort_by_key (λ (p : ℕ × ℕ). p.0) _ c.sort_unstable_by_key.ensures.sorted
    (λ a r q k. search rules)
