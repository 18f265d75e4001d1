-- No arrow leaves a vertex that is not isolated if and only if its event occurs: then each edge points to it, and none
-- of them is a loop.
use Rattle.std.proofs.Common.{inl, inr, ◌≡◌, ℕ, ◌+◌, Bool, true, ◌&&◌, ◌||◌, ◌==◌, cond, List, [], ◌∷◌, length, slice_index, refl, sym, ap, ◌∙◌, arith, Contains, eq-eqb, ne_eqb}
use Rattle.std.proofs.lemmas.Bool.{cases_Bool, cases_eq, and_from, false≢true}
use Rattle.std.proofs.lemmas.List.Elements.{All-contains}
use Rattle.std.proofs.lemmas.List.Folds.{list_any_at}
use Rattle.std.proofs.lemmas.Option.{slice_get-get_or}
use Rattle.pop_model.specs.Stacks.{StackTable, value_at}
use Rattle.pop_model.specs.Popping.{Cube, cursor, values_at, Occurs}
use Rattle.pop_model.specs.Families.{Event, IsEvent}
use Rattle.pop_model.specs.Families.Family.{Listed}
use Rattle.pop_model.proofs.ValuesLemmas.{value-values_at}
use Rattle.graph_read.specs.declared.edge.Edge.{Edge}
use Rattle.graph_read.specs.Graphs.{GraphOf, edge_at}
use Rattle.graph_read.specs.Incidence.{is_loop, touches}
use Rattle.sink_popping.specs.Sinks.{pointing_to, HasSink, AreSinksOf, IsIsolated}
use Rattle.pop_instance.specs.Events.{event_number}
use Rattle.pop_print.specs.declared.facts.Facts.TheVariants.{Orient}
use Rattle.printed_samples.specs.Arrows.{Arrow, oriented}
use Rattle.printed_samples.specs.Orientations.{arrows_by, IsLeft}
use Rattle.printed_samples.specs.Stuck.{IsUnleft}
use Rattle.printed_samples.specs.Laws.{HaveBits, instance_over, PrintedSinks}
use Rattle.printed_samples.proofs.Orienting.{at_zero, at_one, left_by, left_or_sink}
use Rattle.printed_samples.proofs.StuckNumbers.{IsNamed, are_stuck, number_there, row_event, event_row, numbers_rise}

-- an end of an edge touches it
first_touches : (e : Edge) (w : ℕ) → e.u ≡ w → touches e w ≡ true
first_touches e w is = ap (λ b. b || (e.v == w)) (eq-eqb e.u w is)

-- and so does the other
second_touches : (e : Edge) (w : ℕ) → e.v ≡ w → touches e w ≡ true
second_touches e w is = elim (cases_Bool (e.u == w)) [
  | inl same ↦ ap (λ b. b || (e.v == w)) same
  | inr other ↦ ap (λ b. b || (e.v == w)) other ∙ eq-eqb e.v w is
]

-- so does the tail of its arrow
tail_touches : (e : Edge) (number x w : ℕ) → (oriented e number x).tail ≡ w → touches e w ≡ true
tail_touches e number x w is = elim (cases_eq x 0) [
  | inl zero ↦ first_touches e w (sym (ap (λ (a : Arrow). a.tail) (at_zero e number x zero)) ∙ is)
  | inr other ↦ second_touches e w (sym (ap (λ (a : Arrow). a.tail) (at_one e number x other)) ∙ is)
]

-- an edge that points to the tail of its arrow is a loop
points_back : (e : Edge) (number w : ℕ) → (oriented e number (pointing_to e w)).tail ≡ w → is_loop e ≡ true
points_back e number w is = elim (cases_eq e.v w) [
  | inl second ↦
      let at : ◌≡◌ {A = ℕ} (pointing_to e w) 0 = ap (λ b. cond b 0 1) (eq-eqb e.v w second) in
      let first : e.u ≡ w = sym (ap (λ (a : Arrow). a.tail) (at_zero e number (pointing_to e w) at)) ∙ is in
      eq-eqb e.u e.v (first ∙ sym second)
  | inr other ↦
      let at : ◌≡◌ {A = ℕ} (pointing_to e w) 1 = ap (λ b. cond b 0 1) (ne_eqb e.v w other) in
      let isnt : ◌≡◌ {A = ℕ} (pointing_to e w) 0 → ⊥ = (λ zero. absurd (omega (arith, at, zero))) in
      absurd (other (sym (ap (λ (a : Arrow). a.tail) (at_one e number (pointing_to e w) isnt)) ∙ is))
]

module _ (g : GraphOf) (events : List (ℕ × Cube)) (s : StackTable) (c : List ℕ) (touched : (w : ℕ) → IsIsolated g w → ⊥)
    (are : AreSinksOf g events) (size : length c ≡ length g.edges) (bits : HaveBits (length g.edges) s c) where
  -- where the event of a vertex occurs, no arrow leaves it
  unleft : (w : ℕ) (e : Cube) → HasSink g w e → Occurs s c e → IsLeft (arrows_by g (values_at s c)) w → ⊥
  unleft w e sink occurs left =
      let (i, below, is) = left_by g (values_at s c) w left in
      let edge : Edge = edge_at g i in
      let x : ℕ = value_at s i (cursor c i) in
      let value : slice_index (values_at s c) i ≡ x = value-values_at s c i (omega (arith, size, below)) in
      let from : (oriented edge (i + 1) x).tail ≡ w =
      sym (ap (λ y. (oriented edge (i + 1) y).tail) value) ∙ is in
      let touching = tail_touches edge (i + 1) x w from in
      let pair : Contains e (i, pointing_to edge w) =
      (sink.sink.exact i (pointing_to edge w)).1 (record {
        edge = edge;
        edge_is = slice_get-get_or g.edges i (record { u = 0; v = 0; weight = 0 }) below;
        touches_it = touching;
        value = refl;
      }) in
      let points : x ≡ pointing_to edge w =
      All-contains (λ (p : ℕ × ℕ). value_at s p.0 (cursor c p.0) ≡ p.1) e (i, pointing_to edge w) occurs pair in
      let loop : is_loop edge ≡ true =
      points_back edge (i + 1) w (sym (ap (λ y. (oriented edge (i + 1) y).tail) points) ∙ from) in
      let IsLoopAt : Edge → Bool = λ f. is_loop f && touches f w in
      absurd (false≢true (sym sink.no_loop
      ∙ list_any_at IsLoopAt g.edges i (record { u = 0; v = 0; weight = 0 }) below
      (and_from (is_loop edge) (touches edge w) loop touching)))

  -- an event that occurs is that of a vertex that no arrow leaves
  there : (e : Event) → IsEvent (Listed events) e → Occurs s c e.cube
      → IsUnleft g (arrows_by g (values_at s c)) (event_number events e.unit ∷ [])
  there e (w, at) occurs =
      let sink : HasSink g w e.cube = (are.exact w e.cube).0 (event_row events e.unit w e.cube at) in
      record {
        vertex = w;
        vertex_is = sink.vertex;
        numbers_are = ap (λ (m : ℕ). m ∷ []) (number_there events e.unit w e.cube at);
        unleft = unleft w e.cube sink occurs;
      }

  -- and each such vertex has an event that occurs
  back : (numbers : List ℕ) → IsUnleft g (arrows_by g (values_at s c)) numbers
      → IsNamed (Orient g) (instance_over s events) c numbers
  back numbers is = elim (left_or_sink g s c size is.vertex is.vertex_is (touched is.vertex) bits) [
    | inl left ↦ absurd (is.unleft left)
    | inr (e, sink, occurs) ↦
        let (u, at) = row_event events is.vertex e ((are.exact is.vertex e).1 sink) in
        record {
          event = record { unit = u; cube = e };
          event_is = (is.vertex, at);
          occurs = occurs;
          numbers_are = ap (λ (m : ℕ). m ∷ []) (number_there events u is.vertex e at) ∙ sym is.numbers_are;
        }
  ]

-- the law
pub printed_sinks : PrintedSinks
printed_sinks g events s c stuck touched are size bits list some =
    are_stuck (Orient g) (instance_over s events) c stuck (IsUnleft g (arrows_by g (values_at s c)))
    (record {
      rise = numbers_rise events are.rising;
      there = there g events s c touched are size bits;
      back = back g events s c touched are size bits;
    })
    list some
