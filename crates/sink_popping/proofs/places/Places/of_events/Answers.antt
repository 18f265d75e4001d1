use Rattle.std.proofs.Common.{◌≡◌, ◌+◌, length, sym, subst}
use Rattle.sink_popping.specs.KeptPlaces.{places_kept}
use Rattle.sink_popping.specs.SinkPlaces.{ArePlaces}
use Rattle.sink_popping.proofs.PlacesKept.{each_are, each_count}
use Rattle.sink_popping.proofs.places.Places.of_events.Goals as goal
use Rattle.sink_popping.proofs.places.Places.of_events.Goals.{then-have_all, else-have_all+in_ok-listed}

pub returns-clause-count : goal.returns-clause-count
returns-clause-count c =
    let n = c.args.vertices in
    elim c.if-have_all.branch [
      | then-have_all w ↦ subst (λ kept. length (places_kept kept) ≡ n + 1) (sym w.kept-is) (each_count n)
      | else-have_all+in_ok-listed w ↦
          subst (λ kept. length (places_kept kept) ≡ n + 1) (sym w.kept-is) w.in_ok-listed.ensures.count
    ]

pub returns-clause-places : goal.returns-clause-places
returns-clause-places c =
    let rows = c.args.events.now in
    elim c.if-have_all.branch [
      | then-have_all w ↦
          subst (λ kept. ArePlaces rows (length rows) (places_kept kept)) (sym w.kept-is)
          (each_are rows c.args.vertices (c.have_all.ensures.count w.if-have_all.true)
          (c.have_all.ensures.numbers w.if-have_all.true))
      | else-have_all+in_ok-listed w ↦
          subst (λ kept. ArePlaces rows (length rows) (places_kept kept)) (sym w.kept-is) w.in_ok-listed.ensures.places
    ]
