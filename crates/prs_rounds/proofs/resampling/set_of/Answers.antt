use Rattle.std.proofs.Common.{◌≡◌, ◌<◌, length, filter, get_or, sym, ap, subst, ◌∙◌, All}
use Rattle.std.specs.List.{range_with_len}
use Rattle.std.proofs.lemmas.List.Elements.{Contains-get_or}
use Rattle.confluence_core.proofs.Suspects.{all_known}
use Rattle.prs_rounds.specs.Growth.{mark_of, is_joined}
use Rattle.prs_rounds.specs.Grown.{StartsAt}
use Rattle.prs_rounds.proofs.GrownSets.{resampled_units}
use Rattle.prs_rounds.proofs.resampling.set_of.Goals as goal

pub grow-requires-clause-known : goal.grow-requires-clause-known
grow-requires-clause-known g c =
    let found = c.in_ok-seen.seen.found.items in
    subst (All (λ u. u < length c.args.events.now)) (sym c.deref-2.ensures.value)
    (λ k d h. c.in_ok-seen.ensures.starts.known (get_or found k d) (Contains-get_or found k d h))

pub joined-requires-clause-known : goal.joined-requires-clause-known
joined-requires-clause-known g c κs within =
    subst (λ n. All (λ u. u < n) c.deref-3.result.now) (sym c.in_ok-grow.ensures.listed.marks)
    (all_known (length c.args.events.now) c.deref-3.result.now
    (c.deref-3.ensures.value ∙ c.in_ok-places.ensures ∙ ap (range_with_len 0) c.count-3.ensures.count))

pub returns : goal.returns
returns g c =
    let s = c.args.stacks.now in
    let rows = c.args.events.now in
    let at = c.args.cursors.now in
    let grown = c.grow.new.self in
    let starts : StartsAt s rows at c.deref.result.now c.deref-2.result.now =
    rw (c.deref.ensures.value, c.deref-2.ensures.value) c.in_ok-seen.ensures.starts in
    let places : c.deref-3.result.now ≡ range_with_len 0 (length rows) =
    c.deref-3.ensures.value ∙ c.in_ok-places.ensures ∙ ap (range_with_len 0) c.count-3.ensures.count in
    resampled_units s rows at grown c.of.result (c.in_ok-grow.ensures.grown s at starts)
    (c.of.ensures ∙ c.in_ok-joined.ensures ∙ ap (filter (λ u. is_joined (mark_of grown u))) places)
