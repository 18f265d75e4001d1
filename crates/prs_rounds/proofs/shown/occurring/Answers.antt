use Rattle.std.proofs.Common.{◌≡◌, ℕ, Bool, filter, ap, ◌∙◌}
use Rattle.pop_instance.specs.Events.{cube_at}
use Rattle.rayon.proofs.ListFacts.{IfOk-then}
use Rattle.rayon.proofs.ToStd.{filter_by_mask-filter, answers-by_ref}
use Rattle.prs_rounds.specs.Values.{shows}
use Rattle.prs_rounds.proofs.shown.occurring.Goals as goal

-- the list of the chain is that of the sequential one, however it is cut: the places, and of these what the closure
-- keeps
pub returns : goal.returns
returns g c =
    let is_shown : ℕ → Bool = λ u. shows c.args.values.now (cube_at c.args.events.now u) in
    IfOk-then c.collect.result _ _ c.collect.ensures (λ v h.
    let chain = rw (c.filter.ensures.base, c.filter.ensures.f) at h.1 in
    let places : chain.0 ≡ c.args.places.now =
    chain.2.2 ∙ chain.2.1 ∙ ap (λ it. it.slice.now) c.copied.ensures ∙ c.par_iter.ensures in
    h.2 ∙ chain.4 ∙ filter_by_mask-filter is_shown chain.0 chain.1 (answers-by_ref is_shown chain.0 chain.1 chain.3)
    ∙ ap (filter is_shown) places)
