-- Counting how many events name each variable, event by event.
use Rattle.std.proofs.Common.{inl, inr, ℕ, ◌+◌, ◌<◌, ◌≤◌, cond, List, length, get_or, ap, ◌∙◌, arith}
use Rattle.std.proofs.lemmas.Bool.{cases_Bool}
use Rattle.std.proofs.lemmas.List.{length_push}
use Rattle.pop_model.specs.Popping.{Cube, names, cursor, pop}
use Rattle.pop_model.proofs.PopLemmas.{cursor-pop, length-pop}
use Rattle.pop_instance.specs.Events.{cube_at}
use Rattle.pop_instance.specs.Index.{AreTallies, places_below}
use Rattle.pop_instance.proofs.Naming.{places_named, places_unnamed, places_few}

module _ (rows : List (ℕ × Cube)) (n count : ℕ) (tallies : List ℕ) (are : AreTallies rows n count tallies) where
  -- a tally is at most the number of events
  pub tally_fits : (v : ℕ) → v < count → get_or tallies v 0 ≤ n
  tally_fits v below = omega (arith, are.each v below, places_few rows v n)

  -- the event at the next place is counted
  pub tally_more : AreTallies rows (n + 1) count (pop tallies (cube_at rows n))
  tally_more = record {
    count_is = length-pop tallies (cube_at rows n) ∙ are.count_is;
    each = λ v below.
        let old = are.each v below in
        let inside : v < length tallies = let size = are.count_is in omega (arith, size) in
        let here = cursor-pop tallies (cube_at rows n) v inside in
        elim (cases_Bool (names (cube_at rows n) v)) [
          | inl is ↦
              let up = here ∙ ap (λ b. cond b (cursor tallies v + 1) (cursor tallies v)) is in
              omega (arith, up, old, ap length (places_named rows v n is), length_push (places_below rows n v) n)
          | inr is ↦
              let same = here ∙ ap (λ b. cond b (cursor tallies v + 1) (cursor tallies v)) is in
              omega (arith, same, old, ap length (places_unnamed rows v n is))
        ];
  }
