use Rattle.std.proofs.Common.{◌≡◌, ◌+◌, ◌<◌, ℕ, List, Option, Some, length, set, sym, subst, ◌∙◌, arith}
use Rattle.std.proofs.lemmas.List.{length-set}
use Rattle.sink_popping.specs.SinkPlaces.{ArePlaces}
use Rattle.sink_popping.proofs.SinkRows.{places_more}
use Rattle.sink_popping.proofs.places.listed.Goals as goal

pub loop-place-preserved : goal.loop-place-preserved
loop-place-preserved c =
    let rows = c.args.events.now in
    let n : ℕ = c.loop-place.place in
    let places : List (Option ℕ) = c.loop-place.places.items in
    let far : n < length rows = omega (arith, c.count-place-end.ensures.count, c.loop-place-test.true) in
    record {
      count = length-set places c.number.result (Some n) ∙ c.loop-place.invariant.count;
      are = subst (λ (w : ℕ). ArePlaces rows (n + 1) (set places w (Some n))) (sym c.number.ensures)
          (places_more rows n places c.count-place-end.ensures.events.rising far c.loop-place.invariant.are);
    }

pub returns-clause-places : goal.returns-clause-places
returns-clause-places c =
    let n : ℕ = c.loop-place.place in
    let all : n ≡ length c.args.events.now =
    omega (arith, c.count-place-end.ensures.count, c.loop-place-test.false) in
    subst (λ k. ArePlaces c.args.events.now k c.loop-place.places.items) all c.loop-place.invariant.are
