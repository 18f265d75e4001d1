use Rattle.std.proofs.Common.{◌<◌, ℕ, List, length, map, get_or, sym, ap, subst, ◌∙◌, All}
use Rattle.std.proofs.lemmas.Result.{IfOk-weaker}
use Rattle.std.proofs.lemmas.List.Elements.{Contains-get_or}
use Rattle.confluence_core.proofs.Places.{event_at}
use Rattle.prs_rounds.proofs.StuckEvents.{stuck_from}
use Rattle.prs_rounds.proofs.rounds.stuck_at.Goals as goal

pub copies-requires : goal.copies-requires
copies-requires g c =
    let found = c.in_ok-seen.seen.found.items in
    record {
      known = subst (All (λ u. u < length c.args.events.now)) (sym c.deref.ensures.value)
          (λ k d h. c.in_ok-seen.ensures.starts.known (get_or found k d) (Contains-get_or found k d h));
    }

pub returns : goal.returns
returns g c =
    let found = c.in_ok-seen.seen.found.items in
    IfOk-weaker c.copies.result _ _
    (λ stuck is. stuck_from c.args.stacks.now c.args.events.now c.args.cursors.now found stuck
    c.in_ok-seen.ensures.units
    (is ∙ ap (λ (us : List ℕ). map (event_at c.args.events.now) us) c.deref.ensures.value)) c.copies.ensures
