use Rattle.std.proofs.Common.{rules, ℕ, subst}
use Rattle.std.specs.List.Sorted.{IsPermutation, IsNonDecreasingBy}
use Rattle.std.proofs.lemmas.List.Sorted.{IsPermutation-map, IsNonDecreasingBy-from_sort_by_key}
use Rattle.pop_model.specs.Families.{Event}
use Rattle.pop_model.specs.Popping.{Cube}
use Rattle.confluence_core.specs.Stuck.{event_of, events_of}
use Rattle.confluence_core.proofs.SortedKeys.{map_sorted}
use Rattle.confluence_core.proofs.stuck.Stuck.sort.Goals as goal

pub returns-clause-permutation : goal.returns-clause-permutation
returns-clause-permutation c =
    let sorted = c.sort_unstable_by_key.new.self.items in
    subst (λ events. IsPermutation events (events_of sorted)) c.self.view_is
    (IsPermutation-map event_of c.self.inside.events.items sorted c.sort_unstable_by_key.ensures.permutation)

pub returns-clause-sorted : goal.returns-clause-sorted
returns-clause-sorted c =
    let sorted = c.sort_unstable_by_key.new.self.items in
    let up : IsNonDecreasingBy (λ (p : ℕ × Cube). p.0) sorted =
    IsNonDecreasingBy-from_sort_by_key (λ (p : ℕ × Cube). p.0) _ c.sort_unstable_by_key.ensures.sorted
    (λ a r q k. search rules) in
    map_sorted event_of (λ (e : Event). e.unit) sorted up
