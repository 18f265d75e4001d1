-- Filling the rows of an index, event by event. Each row has as much room as events name its variable, and holds those
-- of the events so far; so where an event names the variable there is room for one more.
use Rattle.std.proofs.Common.{inl, inr, ◌≡◌, ℕ, ◌+◌, ◌-◌, ◌<◌, true, cond, List, [], ◌∷◌, ◌++◌, length, get_or, sym, ap, subst, ◌∙◌, arith, All, Contains, replicate}
use Rattle.std.specs.List.Sorted.{IsStrictlyIncreasing}
use Rattle.std.proofs.lemmas.Bool.{cases_Bool}
use Rattle.std.proofs.lemmas.List.{length-replicate, get_or-replicate, length_push}
use Rattle.std.proofs.lemmas.List.Elements.{Contains-get_or}
use Rattle.pop_model.specs.Popping.{Cube, NamesBelow, names}
use Rattle.pop_model.proofs.Diamond.{names_it}
use Rattle.pop_rows.specs.FlatRows.{RoomyRows, HasRoom, row_at}
use Rattle.pop_instance.specs.Events.{cube_at}
use Rattle.pop_instance.specs.Index.{IsIndex, IsPut, AreTallies, places_below}
use Rattle.pop_instance.proofs.Naming.{places_named, places_unnamed, places_grow, places_rise, places_name, named_placed}

-- the rows hold the places below n, and have room for all
pub record IsFilled (events : List (ℕ × Cube)) (n count : ℕ) (f : RoomyRows) : Type 0 where
  pub rooms : AreTallies events (length events) count f.rooms
  pub size : length f.rows ≡ count
  pub held : (v : ℕ) → v < count → row_at f.rows v ≡ places_below events n v

-- empty rows hold the places below none
pub filled_none : (events : List (ℕ × Cube)) (count : ℕ) (tallies : List ℕ) (f : RoomyRows)
    → AreTallies events (length events) count tallies → f.rooms ≡ tallies → f.rows ≡ replicate (length tallies) []
    → IsFilled events 0 count f
filled_none events count tallies f are rooms empty = record {
  rooms = subst (AreTallies events (length events) count) (sym rooms) are;
  size = ap length empty ∙ length-replicate (length tallies) [] ∙ are.count_is;
  held = λ v below.
      let size = are.count_is in
      ap (λ rows. row_at rows v) empty ∙ get_or-replicate (length tallies) v [] [] (omega (arith, size, below));
}

module _ (events : List (ℕ × Cube)) (n count : ℕ) (f : RoomyRows) (filled : IsFilled events n count f) where
  -- a row is there for each variable of the next event, with room for its place
  pub filled_room : NamesBelow (cube_at events n) count → n < length events
      → All (λ p. HasRoom f p.0) (cube_at events n)
  filled_room known within k d inside =
      let p : ℕ × ℕ = get_or (cube_at events n) k d in
      let below : p.0 < count = known k d inside in
      let is : names (cube_at events n) p.0 ≡ true =
      names_it (cube_at events n) p (Contains-get_or (cube_at events n) k d inside) in
      let room = filled.rooms.each p.0 below in
      let held = ap length (filled.held p.0 below) in
      let more = ap length (places_named events p.0 n is) in
      let push = length_push (places_below events n p.0) n in
      let rest : n + 1 + (length events - (n + 1)) ≡ length events = omega arith in
      let all = places_grow events p.0 (n + 1) (length events - (n + 1)) in
      omega (arith, room, held, more, push, all, ap (λ m. length (places_below events m p.0)) rest)

  -- with the next event put
  pub filled_more : (f' : RoomyRows) → IsPut (cube_at events n) n f.rows f'.rows → f'.rooms ≡ f.rooms
      → IsFilled events (n + 1) count f'
  filled_more f' put rooms = record {
    rooms = subst (AreTallies events (length events) count) (sym rooms) filled.rooms;
    size = put.count_is ∙ filled.size;
    held = λ v below.
        let within : v < length f.rows = let size = filled.size in omega (arith, size, below) in
        let new = put.each v within in
        elim (cases_Bool (names (cube_at events n) v)) [
          | inl is ↦
              new ∙ ap (λ b. cond b (row_at f.rows v ++ n ∷ []) (row_at f.rows v)) is
              ∙ ap (λ xs. xs ++ n ∷ []) (filled.held v below) ∙ sym (places_named events v n is)
          | inr is ↦
              new ∙ ap (λ b. cond b (row_at f.rows v ++ n ∷ []) (row_at f.rows v)) is
              ∙ filled.held v below ∙ sym (places_unnamed events v n is)
        ];
  }

  -- with all events put they are the index
  pub filled_index : All (λ r. NamesBelow r.1 count) events → n ≡ length events → IsIndex events f.rows
  filled_index known all =
      let row : (v : ℕ) → v < length f.rows → row_at f.rows v ≡ places_below events (length events) v =
      λ v within. filled.held v (let size = filled.size in omega (arith, size, within))
      ∙ ap (λ m. places_below events m v) all in
      record {
        below = subst (λ m. All (λ r. NamesBelow r.1 m) events) (sym filled.size) known;
        rising = λ v within. subst IsStrictlyIncreasing (sym (row v within)) (places_rise events v (length events));
        exact = λ v place within. (
          λ has. places_name events v (length events) place (subst (λ xs. Contains xs place) (row v within) has),
          λ (below, is). subst (λ xs. Contains xs place) (sym (row v within))
              (named_placed events v (length events) place below is),
        );
      }
