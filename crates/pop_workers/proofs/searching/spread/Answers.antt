use Rattle.std.proofs.Common.{◌<◌, ℕ, Option, List, [], All, slice_index_or, ap, sym, subst, ◌∙◌}
use Rattle.std.proofs.lemmas.List.{get_or_default}
use Rattle.pop_model.specs.Families.{units_of}
use Rattle.pop_instance.proofs.ListedEvents.{index_units}
use Rattle.event_finders.specs.UnitConditions.{Indexes}
use Rattle.pop_workers.specs.Attempts.{IsIndexed}
use Rattle.pop_workers.proofs.searching.spread.Goals as goal

-- the index names units alone
pub give_sharers-requires-clause-known : goal.give_sharers-requires-clause-known
give_sharers-requires-clause-known g c k d inside =
    let index : List (List ℕ) = c.in-Some-Listed.index in
    let i = c.args.shared.now.instance.now in
    let indexes : Indexes i index = subst (λ (x : Option (List (List ℕ))). IsIndexed i x) c.in-Some-Listed.is-0 c.requires.index in
    let count = sym (ap units_of indexes.1) ∙ c.requires.range in
    subst (λ (row : List ℕ). All (λ u. u < g.W.Range.units) row) (get_or_default index k [] d inside)
    (subst (λ n. All (λ u. u < n) (slice_index_or index k [])) count (index_units indexes.0 index indexes.2 k inside))
