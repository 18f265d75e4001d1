use Rattle.std.proofs.Common.{◌≡◌, ◌∷◌, ◌++◌, [], ℕ, List, ap, ap₂, sym, ◌∙◌, get_or}
use Rattle.std.proofs.lemmas.List.{map_more}
use Rattle.std.proofs.lemmas.Option.{get_or_from_slice_get, slice_get_within}
use Rattle.pop_model.specs.Families.{Event}
use Rattle.confluence_core.specs.Stuck.{event_of}
use Rattle.confluence_core.proofs.stuck.Stuck.units.Goals as goal

pub loop-i-preserved : goal.loop-i-preserved
loop-i-preserved c =
    let es : List Event = c.args.self.now in
    let i = c.loop-i.i in
    let e : Event = event_of (c.at.result.0, c.at.result.1.now) in
    let unit : Event → ℕ = λ x. x.unit in
    let here : unit e ≡ unit (get_or es i e) = ap unit (sym (get_or_from_slice_get es i e e c.at.ensures)) in
    c.in_ok-push.ensures.pushed ∙ ap₂ (λ (xs : List ℕ) (x : ℕ). xs ++ x ∷ []) c.loop-i.invariant here
    ∙ sym (map_more unit es i e (slice_get_within es i e c.at.ensures))
