-- If no sink occurs, each vertex has an arrow from it. A vertex with a loop has the loop's. For another, the pairs of
-- its edges are an event. If each of these edges pointed to the vertex, the event would occur.
use Rattle.std.proofs.Common.{inl, inr, ◌≡◌, ◌⊎◌, ℕ, ◌+◌, ◌-◌, ◌<◌, Bool, true, false, not, ◌&&◌, ◌==◌, cond, List, [], ◌∷◌, ◌++◌, length, map, get_or, slice_index, Some, slice_get, refl, sym, ap, ap₂, subst, ◌∙◌, arith, eq-eqb, ne_eqb, eqb-true, zero-add}
use Rattle.std.specs.Prelude.{flat_map}
use Rattle.std.specs.List.{enumerate_from, list_any, range_with_len}
use Rattle.std.proofs.lemmas.Bool.{cases_eq, and_parts, or_cases, false≢true}
use Rattle.std.proofs.lemmas.List.{length-map, get_or-map}
use Rattle.std.proofs.lemmas.Grind.{same_number_lists}
use Rattle.std.proofs.lemmas.List.FromFn.{length-enumerate_from, get_or-enumerate_from, length-range_with_len, get_or-range_with_len}
use Rattle.std.proofs.lemmas.List.Folds.{Any-from_list_any, list_any_at, flat_map-map}
use Rattle.std.proofs.lemmas.Option.{slice_get_within, slice_get-get_or, get_or_from_slice_get}
use Rattle.pop_model.specs.Stacks.{StackTable, value_at}
use Rattle.pop_model.specs.Popping.{Cube, cursor, values_at, Occurs}
use Rattle.pop_model.specs.Runs.{IsFinished}
use Rattle.pop_model.proofs.ValuesLemmas.{value-values_at}
use Rattle.graph_read.specs.declared.edge.Edge.{Edge}
use Rattle.graph_read.specs.Graphs.{GraphOf, IsVertex, edge_at}
use Rattle.graph_read.specs.Incidence.{is_loop, touches, edges_at}
use Rattle.sink_popping.specs.Sinks.{pointing_to, has_loop, HasSink, AreSinksOf, IsIsolated}
use Rattle.sink_popping.specs.SinkCubes.{pairs_at}
use Rattle.sink_popping.proofs.SinkCubesLemmas.{pairs_are_sink, lonely_is_isolated}
use Rattle.pop_print.specs.Output.{arrow_line, oriented_line, edge_line, orientation_lines}
use Rattle.printed_samples.specs.Arrows.{Arrow, lines_of, HasEnds, IsAlong, oriented}
use Rattle.printed_samples.specs.Orientations.{arrows_by, IsLeft, IsOrientation}
use Rattle.printed_samples.specs.Laws.{HaveBits, instance_over}

-- the arrow of an edge by its value
-- at the value 0
pub at_zero : (e : Edge) (number x : ℕ) → x ≡ 0 → oriented e number x
    ≡ record { tail = e.u; head = e.v; number = number }
at_zero e number x is =
    ap (λ b. cond {A = Arrow} b (record { tail = e.u; head = e.v; number = number })
    (record { tail = e.v; head = e.u; number = number })) (eq-eqb x 0 is)

-- at another
pub at_one : (e : Edge) (number x : ℕ) → (x ≡ 0 → ⊥) → oriented e number x
    ≡ record { tail = e.v; head = e.u; number = number }
at_one e number x isnt =
    ap (λ b. cond {A = Arrow} b (record { tail = e.u; head = e.v; number = number })
    (record { tail = e.v; head = e.u; number = number })) (ne_eqb x 0 isnt)

-- at the value 0 the tail is the first end, and at another the second
from_first : (e : Edge) (w number x : ℕ) → e.u ≡ w → x ≡ 0 → (oriented e number x).tail ≡ w
from_first e w number x first is = ap (λ (a : Arrow). a.tail) (at_zero e number x is) ∙ first

-- and at another value the second
from_second : (e : Edge) (w number x : ℕ) → e.v ≡ w → (x ≡ 0 → ⊥) → (oriented e number x).tail ≡ w
from_second e w number x second isnt = ap (λ (a : Arrow). a.tail) (at_one e number x isnt) ∙ second

-- a loop is an arrow from its vertex
pub from_loop : (e : Edge) (w number x : ℕ) → is_loop e ≡ true → touches e w ≡ true → (oriented e number x).tail ≡ w
from_loop e w number x loop touched =
    let same : e.u ≡ e.v = eqb-true e.u e.v loop in
    let first : e.u ≡ w = (elim (or_cases (e.u == w) (e.v == w) touched) [
      | inl u_is ↦ eqb-true e.u w u_is
      | inr v_is ↦ same ∙ eqb-true e.v w v_is
    ]) in
    elim (cases_eq x 0) [
      | inl is ↦ from_first e w number x first is
      | inr isnt ↦ from_second e w number x (sym same ∙ first) isnt
    ]

-- an edge that doesn't point to its end is an arrow from it
pub from_end : (e : Edge) (w number x : ℕ) → touches e w ≡ true → x < 2 → (x ≡ pointing_to e w → ⊥)
    → (oriented e number x).tail ≡ w
from_end e w number x touched small away = elim (cases_eq e.v w) [
  | inl second ↦
      let at : ◌≡◌ {A = ℕ} (pointing_to e w) 0 = ap (λ b. cond b 0 1) (eq-eqb e.v w second) in
      from_second e w number x second (λ is. away (is ∙ sym at))
  | inr other ↦
      let at : ◌≡◌ {A = ℕ} (pointing_to e w) 1 = ap (λ b. cond b 0 1) (ne_eqb e.v w other) in
      let first : e.u ≡ w = (elim (or_cases (e.u == w) (e.v == w) touched) [
        | inl u_is ↦ eqb-true e.u w u_is
        | inr v_is ↦ absurd (other (eqb-true e.v w v_is))
      ]) in
      let isnt : x ≡ 1 → ⊥ = (λ is. away (is ∙ sym at)) in
      from_first e w number x first (omega (arith, small, isnt))
]

-- the line of an edge is that of its arrow
line_is : (e : Edge) (number x : ℕ)
    → oriented_line e number x ≡ arrow_line (oriented e number x).tail (oriented e number x).head
    (oriented e number x).number
line_is e number x = by (x == 0)
  where
    by : (b : Bool) → cond b (arrow_line e.u e.v number) (arrow_line e.v e.u number)
        ≡ (let a : Arrow = cond b (record { tail = e.u; head = e.v; number = number })
        (record { tail = e.v; head = e.u; number = number }) in arrow_line a.tail a.head a.number)
    by true = refl
    by false = refl

-- so the printed lines are those of the arrows
lines_by : (values : List ℕ) (ps : List (ℕ × Edge)) → flat_map (edge_line values) ps
    ≡ flat_map (λ (p : ℕ × Edge). let a = oriented p.1 (p.0 + 1) (slice_index values p.0) in arrow_line a.tail a.head
    a.number) ps
lines_by values [] = refl
lines_by values (p ∷ ps) = ap₂ (λ x y. x ++ y) (line_is p.1 (p.0 + 1) (slice_index values p.0)) (lines_by values ps)

-- and so those of an orientation are
pub orientation_printed : (g : GraphOf) (values : List ℕ) → orientation_lines g values ≡ lines_of (arrows_by g values)
orientation_printed g values =
    lines_by values (enumerate_from 0 g.edges)
    ∙ sym (flat_map-map (λ (a : Arrow). arrow_line a.tail a.head a.number)
    (λ (p : ℕ × Edge). oriented p.1 (p.0 + 1) (slice_index values p.0)) (enumerate_from 0 g.edges))

-- the number of an edge's arrow, and its ends
number_is : (e : Edge) (number x : ℕ) → (oriented e number x).number ≡ number
number_is e number x = elim (x == 0) as (λ b. (cond {A = Arrow} b (record { tail = e.u; head = e.v; number = number })
    (record { tail = e.v; head = e.u; number = number })).number ≡ number) [ true ↦ refl | false ↦ refl ]

-- it goes from one of its ends to the other
has_ends : (e : Edge) (number x : ℕ) → HasEnds e (oriented e number x).tail (oriented e number x).head
has_ends e number x = elim (x == 0) as (λ b. let a : Arrow = cond b (record { tail = e.u; head = e.v; number = number })
    (record { tail = e.v; head = e.u; number = number }) in HasEnds e a.tail a.head) [
      | true ↦ inl (refl, refl)
      | false ↦ inr (refl, refl)
    ]

module _ (g : GraphOf) (values : List ℕ) where
  -- an edge for places where there is none
  abbrev none : Edge
  none = record { u = 0; v = 0; weight = 0 }

  -- the arrow of edge i
  abbrev pub arrow : ℕ → Arrow
  arrow i = oriented (edge_at g i) (i + 1) (slice_index values i)

  -- as many arrows as edges
  count : length (arrows_by g values) ≡ length g.edges
  count = length-map (enumerate_from 0 g.edges) (λ (p : ℕ × Edge). oriented p.1 (p.0 + 1) (slice_index values p.0))
      ∙ length-enumerate_from 0 g.edges

  -- and as many numbers
  numbers_count : length (map (λ (a : Arrow). a.number) (arrows_by g values)) ≡ length g.edges
  numbers_count = length-map (arrows_by g values) (λ (a : Arrow). a.number) ∙ count

  -- it stands at the place of the edge
  pub arrow_there : (i : ℕ) (d : Arrow) → i < length g.edges → get_or (arrows_by g values) i d ≡ arrow i
  arrow_there i d below =
      let f : ℕ × Edge → Arrow = λ p. oriented p.1 (p.0 + 1) (slice_index values p.0) in
      get_or-map f (enumerate_from 0 g.edges) i (0, none) d (omega (arith, length-enumerate_from 0 g.edges, below))
      ∙ ap f (get_or-enumerate_from 0 g.edges i (0, none) below) ∙ ap (λ j. f (j, edge_at g i)) (zero-add i)

  -- it leaves its tail
  pub leaves_tail : (i w : ℕ) → i < length g.edges → (arrow i).tail ≡ w → IsLeft (arrows_by g values) w
  leaves_tail i w below is = (
    i,
    omega (arith, length-map (arrows_by g values) (λ (a : Arrow). a.tail), count, below),
    get_or-map (λ (a : Arrow). a.tail) (arrows_by g values) i (arrow i) w (omega (arith, count, below))
        ∙ ap (λ (a : Arrow). a.tail) (arrow_there i (arrow i) below) ∙ is,
  )

  -- what leaves a vertex is the arrow of an edge
  pub left_by : (w : ℕ) → IsLeft (arrows_by g values) w → (i : ℕ) × (i < length g.edges) × ((arrow i).tail ≡ w)
  left_by w (i, within, at) =
      let below : i < length g.edges =
      omega (arith, length-map (arrows_by g values) (λ (a : Arrow). a.tail), count, within) in (
        i,
        below,
        sym (get_or-map (λ (a : Arrow). a.tail) (arrows_by g values) i (arrow i) w (omega (arith, count, below))
            ∙ ap (λ (a : Arrow). a.tail) (arrow_there i (arrow i) below)) ∙ at,
      )

  -- it goes along its edge
  goes_along : (i : ℕ) → i < length g.edges → IsAlong g (arrow i)
  goes_along i below =
      let number = number_is (edge_at g i) (i + 1) (slice_index values i) in
      let back : i ≡ (arrow i).number - 1 = omega (arith, number) in
      record {
        first = omega (arith, number);
        last = omega (arith, number, below);
        ends = subst (λ j. HasEnds (edge_at g j) (arrow i).tail (arrow i).head) back
            (has_ends (edge_at g i) (i + 1) (slice_index values i));
      }

  -- an arrow along each edge, in the order of the graph
  pub is_orientation : IsOrientation g (arrows_by g values)
  is_orientation = record {
    numbers = same_number_lists (map (λ (a : Arrow). a.number) (arrows_by g values)) (range_with_len 1 (length g.edges))
        (numbers_count ∙ sym (length-range_with_len 1 (length g.edges)))
        (λ k within.
        let below : k < length g.edges = omega (arith, numbers_count, within) in
        let there : k < length (arrows_by g values) = omega (arith, count, below) in
        let place : k + 1 ≡ 1 + k = omega arith in
        get_or-map (λ (a : Arrow). a.number) (arrows_by g values) k (arrow k) 0 there
        ∙ ap (λ (a : Arrow). a.number) (arrow_there k (arrow k) below)
        ∙ number_is (edge_at g k) (k + 1) (slice_index values k) ∙ place
        ∙ sym (get_or-range_with_len 1 (length g.edges) k 0 below));
    along = λ k d within.
        let below : k < length g.edges = omega (arith, count, within) in
        subst (IsAlong g) (sym (arrow_there k d below)) (goes_along k below);
  }

module _ (g : GraphOf) (s : StackTable) (c : List ℕ) (size : length c ≡ length g.edges) where
  -- the current values, and that of an edge
  abbrev values : List ℕ
  values = values_at s c

  abbrev current : ℕ → ℕ
  current i = value_at s i (cursor c i)

  -- an edge that stands at a place
  edge_there : (i : ℕ) (e : Edge) → slice_get g.edges i ≡ Some e → edge_at g i ≡ e
  edge_there i e at = get_or_from_slice_get g.edges i e (none g values) at

  -- the arrow of an edge by its current value
  arrow_is : (i : ℕ) (e : Edge) → slice_get g.edges i ≡ Some e → arrow g values i ≡ oriented e (i + 1) (current i)
  arrow_is i e at =
      let below = slice_get_within g.edges i e at in
      ap (λ f. oriented f (i + 1) (slice_index values i)) (edge_there i e at)
      ∙ ap (oriented e (i + 1)) (value-values_at s c i (omega (arith, size, below)))

  -- an arrow whose tail is the vertex leaves it
  leaves_by : (w i : ℕ) (e : Edge) → slice_get g.edges i ≡ Some e → (oriented e (i + 1) (current i)).tail ≡ w
      → IsLeft (arrows_by g values) w
  leaves_by w i e at is =
      leaves_tail g values i w (slice_get_within g.edges i e at) (ap (λ (a : Arrow). a.tail) (arrow_is i e at) ∙ is)

  -- whether a pair of an edge and a value is not the one that stands there
  abbrev is_away : ℕ × ℕ → Bool
  is_away p = not (current p.0 == p.1)

  -- an event of which a pair isn't there
  some_away : (w : ℕ) (e : Cube) → HaveBits (length g.edges) s c → HasSink g w e → list_any is_away e ≡ true
      → IsLeft (arrows_by g values) w
  some_away w e bits sink any =
      let (k, p, within, at, away) = Any-from_list_any is_away e any in
      let points = (sink.sink.exact p.0 p.1).0 (k, within, at) in
      let below = slice_get_within g.edges p.0 points.edge points.edge_is in
      let isnt : current p.0 ≡ pointing_to points.edge w → ⊥ =
      (λ is. false≢true (sym (ap not (eq-eqb (current p.0) p.1 (is ∙ sym points.value))) ∙ away)) in
      leaves_by w p.0 points.edge points.edge_is
      (from_end points.edge w (p.0 + 1) (current p.0) points.touches_it (bits p.0 below) isnt)

  -- an event all of whose pairs are there occurs
  none_away : (e : Cube) → list_any is_away e ≡ false → Occurs s c e
  none_away e none k d within =
      let p : ℕ × ℕ = get_or e k d in
      elim (cases_eq (current p.0) p.1) [
        | inl is ↦ is
        | inr isnt ↦
            let away : is_away p ≡ true = ap not (ne_eqb (current p.0) p.1 isnt) in
            absurd (false≢true (sym none ∙ list_any_at is_away e k d within away))
      ]

  -- the event of a vertex occurs, or an arrow leaves it
  pub occurs_or_left : (w : ℕ) (e : Cube) → HaveBits (length g.edges) s c → HasSink g w e
      → Occurs s c e ⊎ IsLeft (arrows_by g values) w
  occurs_or_left w e bits sink =
      (elim (list_any is_away e) as (λ b. list_any is_away e ≡ b → Occurs s c e ⊎ IsLeft (arrows_by g values) w) [
        | true ↦ λ any. inr (some_away w e bits sink any)
        | false ↦ λ none. inl (none_away e none)
      ]) refl

  -- a vertex that isn't isolated is left, or has an event that occurs
  pub left_or_sink : (w : ℕ) → IsVertex g.vertices w → (IsIsolated g w → ⊥) → HaveBits (length g.edges) s c
      → IsLeft (arrows_by g values) w ⊎ ((e : Cube) × HasSink g w e × Occurs s c e)
  left_or_sink w vertex touched bits =
      (elim (has_loop g w) as (λ b. has_loop g w ≡ b
      → IsLeft (arrows_by g values) w ⊎ ((e : Cube) × HasSink g w e × Occurs s c e)) [
        | true ↦ λ loops.
            let (i, edge, within, at, is) = Any-from_list_any (λ (e : Edge). is_loop e && touches e w) g.edges loops in
            let both = and_parts (is_loop edge) (touches edge w) is in
            inl (leaves_by w i edge (slice_get-get_or g.edges i edge within ∙ ap (λ e. Some e) at)
            (from_loop edge w (i + 1) (current i) both.0 both.1))
        | false ↦ λ none. elim (cases_eq (length (edges_at g w)) 0) [
          | inl few ↦ absurd (touched (lonely_is_isolated g w vertex none few))
          | inr some ↦
              let sink : HasSink g w (pairs_at g w) = pairs_are_sink g w vertex none (omega (arith, some)) in
              elim (occurs_or_left w (pairs_at g w) bits sink) [
                | inl occurs ↦ inr (pairs_at g w, sink, occurs)
                | inr left ↦ inl left
              ]
        ]
      ]) refl

-- the law
pub printed_leaves : (g : GraphOf) (events : List (ℕ × Cube)) (s : StackTable) (c : List ℕ)
    → ((w : ℕ) → IsIsolated g w → ⊥) → AreSinksOf g events → length c ≡ length g.edges
    → HaveBits (length g.edges) s c → IsFinished (instance_over s events) c
    → (w : ℕ) → IsVertex g.vertices w → IsLeft (arrows_by g (values_at s c)) w
printed_leaves g events s c touched are size bits finished w vertex =
    elim (left_or_sink g s c size w vertex (touched w) bits) [
      | inl left ↦ left
      | inr (e, sink, occurs) ↦
          let (k, within, at) = (are.exact w e).1 sink in
          let place : slice_get events k ≡ Some (w, e) =
          slice_get-get_or events k (w, e) within ∙ ap (λ r. Some r) at in
          absurd (finished (record { unit = k; cube = e }) (w, place) occurs)
    ]
