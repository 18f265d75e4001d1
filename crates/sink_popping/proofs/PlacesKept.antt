-- Where each vertex has an event, that of vertex w stands at place w - 1.
use Rattle.std.proofs.Common.{◌≡◌, ℕ, zero, suc, ◌+◌, ◌-◌, ◌<◌, ◌≤◌, List, length, get_or, Option, Some, None, refl, sym, ap, ◌∙◌, arith}
use Rattle.std.specs.Prelude.{SomeIff}
use Rattle.std.proofs.lemmas.List.FromFn.{get_or-map-range_with_len, length-map-range_with_len}
use Rattle.std.proofs.lemmas.Option.{none-some, same_Some}
use Rattle.pop_model.specs.Popping.{Cube}
use Rattle.pop_instance.specs.Events.{event_number}
use Rattle.sink_popping.specs.SinkPlaces.{ArePlaces}
use Rattle.sink_popping.specs.KeptPlaces.{places_kept}
use Rattle.sink_popping.specs.declared.places.KeptPlaces.TheVariants.{Each}

-- there is one for each vertex, and the first that says nothing
pub each_count : (n : ℕ) → length (places_kept (Each n)) ≡ n + 1
each_count n = let size = length-map-range_with_len (λ place. Some place) 0 n in omega (arith, size)

-- that of a vertex is one less than the vertex
pub each_at : (n w : ℕ) → w < n → get_or (places_kept (Each n)) (suc w) None ≡ Some w
each_at n w below = get_or-map-range_with_len (λ place. Some place) 0 n w w None below (omega arith)

-- so they are the places of events whose numbers count from 1
pub each_are : (rows : List (ℕ × Cube)) (n : ℕ) → length rows ≡ n
    → ((place : ℕ) → place < n → event_number rows place ≡ place + 1) → ArePlaces rows (length rows) (places_kept (Each n))
each_are rows n size numbers = record { each = λ w place within. by w place within }
  where
    by : (w place : ℕ) → w < length (places_kept (Each n))
        → ((get_or (places_kept (Each n)) w None ≡ Some place) → (place < length rows) × (event_number rows place ≡ w))
        × ((place < length rows) × (event_number rows place ≡ w) → get_or (places_kept (Each n)) w None ≡ Some place)
    by zero place within = (
      λ is. absurd (none-some place is),
      λ (below, is).
          let number = numbers place (omega (arith, size, below)) in absurd (omega (arith, number, is)),
    )
    by (suc w) place within =
        let count = each_count n in
        let below : w < n = omega (arith, count, within) in
        let at = each_at n w below in (
          λ is.
              let same : w ≡ place = same_Some w place (sym at ∙ is) in
              let number = numbers w below in
              (omega (arith, same, size, below), ap (event_number rows) (sym same) ∙ number ∙ omega arith),
          λ (less, is).
              let number = numbers place (omega (arith, size, less)) in
              let same : w ≡ place = omega (arith, number, is) in
              at ∙ ap (λ (k : ℕ). Some k) same,
        )

-- the vertex before a vertex is its place
pub before_is : (n w : ℕ) (found : Option ℕ) → w < length (places_kept (Each n)) → SomeIff found (1 ≤ w) (w - 1)
    → found ≡ get_or (places_kept (Each n)) w None
before_is n zero None within none = refl
before_is n zero (Some place) within found = absurd (omega (arith, found.0))
before_is n (suc w) None within none = absurd (none (omega arith))
before_is n (suc w) (Some place) within found =
    let count = each_count n in
    let same : place ≡ w = omega (arith, found.1) in
    ap (λ (k : ℕ). Some k) same ∙ sym (each_at n w (omega (arith, count, within)))
