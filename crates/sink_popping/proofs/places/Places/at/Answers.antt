use Rattle.std.proofs.Common.{◌≡◌, ◌<◌, None, get_or, length, sym, ap, subst, ◌∙◌}
use Rattle.sink_popping.specs.KeptPlaces.{places_kept}
use Rattle.sink_popping.proofs.PlacesKept.{before_is}
use Rattle.sink_popping.proofs.places.Places.at.Goals as goal

pub returns-in-Each : goal.returns-in-Each
returns-in-Each c =
    let w = c.args.vertex in
    let same = sym (ap places_kept c.in-Each.is) ∙ c.self.view_is in
    subst (λ places. c.checked_sub.result ≡ get_or places w None) same
    (before_is c.in-Each.field-0 w c.checked_sub.result (subst (λ places. w < length places) (sym same) c.requires)
    c.checked_sub.ensures)
