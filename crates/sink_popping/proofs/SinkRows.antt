-- The index of the events of sinks, edge by edge. An edge is in the events of its ends, and in no others; where both
-- ends have one, that of the lesser end stands first, since numbers rise with places. A loop's end has no event.
use Rattle.std.proofs.Common.{inl, inr, ◌≡◌, ◌⊎◌, ◌↔◌, ℕ, zero, suc, ◌+◌, ◌<◌, ◌≤◌, true, ◌==◌, List, [], ◌∷◌, ◌++◌, length, map, set, get_or, min, max, Option, Some, None, slice_get, refl, sym, ap, subst, ◌∙◌, arith, All, Contains, eq-eqb, eqb-true}
use Rattle.std.specs.Option.{option_to_list}
use Rattle.std.specs.List.Sorted.{IsStrictlyIncreasing}
use Rattle.std.proofs.lemmas.Bool.{cases_eq, cases_lt, cases_order, or_cases, or_left, or_right, false≢true}
use Rattle.std.proofs.lemmas.List.{length-map, get_or-map, get_or-set_same, get_or-set_other, length-set}
use Rattle.std.proofs.lemmas.List.Elements.{Contains-get_or, Contains-append_cases, Contains-append_left, Contains-append_right}
use Rattle.std.proofs.lemmas.List.Kept.{AllPairs-from_increasing}
use Rattle.std.proofs.lemmas.Option.{none-some, same_Some, slice_get-get_or, slice_get_within}
use Rattle.pop_model.specs.Popping.{Cube, NamesBelow, names}
use Rattle.pop_model.proofs.Diamond.{named, names_it}
use Rattle.pop_model.proofs.Rising.{head_member, none_in, only_member}
use Rattle.pop_instance.specs.Events.{cube_at, event_number}
use Rattle.pop_instance.specs.Index.{IsIndex}
use Rattle.graph_read.specs.declared.edge.Edge.{Edge}
use Rattle.graph_read.specs.Graphs.{GraphOf}
use Rattle.graph_read.specs.Incidence.{is_loop, touches}
use Rattle.sink_popping.specs.Sinks.{AreSinksOf, HasSink, PointsTo, pointing_to}
use Rattle.sink_popping.specs.SinkPlaces.{ArePlaces, places_at}
use Rattle.sink_popping.proofs.SinkCubesLemmas.{touching_is_no_loop}

-- ---- the places of the events of vertices

-- numbers rise with places
number_rises : (rows : List (ℕ × Cube)) (i j : ℕ) → IsStrictlyIncreasing (map (λ r. r.0) rows) → i < j
    → j < length rows → event_number rows i < event_number rows j
number_rises rows i j rising less within =
    let number : ℕ × Cube → ℕ = λ r. r.0 in
    let size : length (map number rows) ≡ length rows = length-map rows number in
    let up = AllPairs-from_increasing (map number rows) rising i j 0 less (omega (arith, size, within)) in
    let here = get_or-map number rows i (0, []) 0 (omega (arith, less, within)) in
    let there = get_or-map number rows j (0, []) 0 within in
    omega (arith, up, here, there)

-- the next event has its place
pub places_more : (rows : List (ℕ × Cube)) (n : ℕ) (places : List (Option ℕ))
    → IsStrictlyIncreasing (map (λ r. r.0) rows) → n < length rows → ArePlaces rows n places
    → ArePlaces rows (n + 1) (set places (event_number rows n) (Some n))
places_more rows n places rising far are = record {
  each = λ w place within.
      let number : ℕ = event_number rows n in
      let inside : w < length places =
      let size = length-set places number (Some n) in omega (arith, size, within) in
      elim (cases_eq w number) [
        | inl here ↦
            let new : get_or (set places number (Some n)) w None ≡ Some n =
            ap (λ v. get_or (set places number (Some n)) v None) here
            ∙ get_or-set_same places number (Some n) None (omega (arith, here, inside)) in (
              λ is.
                  let same : n ≡ place = same_Some n place (sym new ∙ is) in
                  (omega (arith, same), ap (event_number rows) (sym same) ∙ sym here),
              λ (below, is). elim (cases_eq place n) [
                | inl last ↦ new ∙ ap (λ (k : ℕ). Some k) (sym last)
                | inr other ↦
                    let up = number_rises rows place n rising (omega (arith, below, other)) far in
                    absurd (omega (arith, up, is, here))
              ],
            )
        | inr other ↦
            let kept = get_or-set_other places number w (Some n) None other in
            let old = are.each w place inside in (
              λ is. let o = old.0 (sym kept ∙ is) in (omega (arith, o.0), o.1),
              λ (below, is). elim (cases_eq place n) [
                | inl last ↦ absurd (other (sym is ∙ ap (event_number rows) last))
                | inr before ↦ kept ∙ old.1 (omega (arith, below, before), is)
              ],
            )
      ];
}

-- ---- rows of two places at most

-- rows of two places rise where these do
rising_row : (first second : Option ℕ) → ((a b : ℕ) → first ≡ Some a → second ≡ Some b → a < b)
    → IsStrictlyIncreasing (option_to_list first ++ option_to_list second)
rising_row None None up k within = absurd (omega (arith, within))
rising_row None (Some b) up k within = absurd (omega (arith, within))
rising_row (Some a) None up k within = absurd (omega (arith, within))
rising_row (Some a) (Some b) up zero within = up a b refl refl
rising_row (Some a) (Some b) up (suc k) within = absurd (omega (arith, within))

-- the members of a list of one value at most
one_member : (first : Option ℕ) (place : ℕ) → Contains (option_to_list first) place ↔ (first ≡ Some place)
one_member None place = (λ has. absurd (none_in place has), λ is. absurd (none-some place is))
one_member (Some a) place = (
  λ has. ap (λ (k : ℕ). Some k) (only_member a place has),
  λ is. subst (λ k. Contains (a ∷ []) k) (same_Some a place is) (head_member a []),
)

-- and of one of two
row_members : (first second : Option ℕ) (place : ℕ)
    → Contains (option_to_list first ++ option_to_list second) place ↔ ((first ≡ Some place) ⊎ (second ≡ Some place))
row_members first second place = (
  λ has. elim (Contains-append_cases (option_to_list first) (option_to_list second) place has) [
    | inl here ↦ inl ((one_member first place).0 here)
    | inr there ↦ inr ((one_member second place).0 there)
  ],
  λ either. elim either [
    | inl here ↦
        Contains-append_left (option_to_list first) (option_to_list second) place ((one_member first place).1 here)
    | inr there ↦
        Contains-append_right (option_to_list first) (option_to_list second) place ((one_member second place).1 there)
  ],
)

-- ---- edges

-- the ends of an edge are the lesser and the greater one
ends_of : (edge : Edge) (w : ℕ) → touches edge w ≡ true → (w ≡ min edge.u edge.v) ⊎ (w ≡ max edge.u edge.v)
ends_of edge w touched = elim (cases_lt edge.u edge.v) [
  | inl up ↦ elim (or_cases (edge.u == w) (edge.v == w) touched) [
    | inl from ↦ let is = eqb-true edge.u w from in inl (omega (arith, up, is))
    | inr to ↦ let is = eqb-true edge.v w to in inr (omega (arith, up, is))
  ]
  | inr down ↦ elim (or_cases (edge.u == w) (edge.v == w) touched) [
    | inl from ↦ let is = eqb-true edge.u w from in inr (omega (arith, down, is))
    | inr to ↦ let is = eqb-true edge.v w to in inl (omega (arith, down, is))
  ]
]

-- both touch it
touches_end : (edge : Edge) (w : ℕ) → (w ≡ edge.u) ⊎ (w ≡ edge.v) → touches edge w ≡ true
touches_end edge w is = elim is [
  | inl from ↦ or_left (edge.u == w) (edge.v == w) (eq-eqb edge.u w (sym from))
  | inr to ↦ or_right (edge.u == w) (edge.v == w) (eq-eqb edge.v w (sym to))
]

touches_least : (edge : Edge) → touches edge (min edge.u edge.v) ≡ true
touches_least edge = elim (cases_lt edge.u edge.v) [
  | inl up ↦ touches_end edge (min edge.u edge.v) (inl (omega (arith, up)))
  | inr down ↦ touches_end edge (min edge.u edge.v) (inr (omega (arith, down)))
]

touches_greatest : (edge : Edge) → touches edge (max edge.u edge.v) ≡ true
touches_greatest edge = elim (cases_lt edge.u edge.v) [
  | inl up ↦ touches_end edge (max edge.u edge.v) (inr (omega (arith, up)))
  | inr down ↦ touches_end edge (max edge.u edge.v) (inl (omega (arith, down)))
]

-- ---- the index

module _ (g : GraphOf) (rows : List (ℕ × Cube)) (sinks : AreSinksOf g rows) where
  -- the event at a place is that of its vertex
  sink_at : (place : ℕ) → place < length rows → HasSink g (event_number rows place) (cube_at rows place)
  sink_at place within =
      (sinks.exact (event_number rows place) (cube_at rows place)).0 (Contains-get_or rows place (0, []) within)

  -- whose number is at most the count of vertices
  pub numbers_within : All (λ r. r.0 ≤ g.vertices) rows
  numbers_within k d within =
      let r : ℕ × Cube = get_or rows k d in
      ((sinks.exact r.0 r.1).0 (Contains-get_or rows k d within)).vertex.last

  -- it has the edges that touch its vertex
  names_touching : (place i : ℕ) (edge : Edge) → place < length rows → slice_get g.edges i ≡ Some edge
      → (names (cube_at rows place) i ≡ true) ↔ (touches edge (event_number rows place) ≡ true)
  names_touching place i edge within at = (
    λ is.
        let (x, has) = named (cube_at rows place) i is in
        let points = ((sink_at place within).sink.exact i x).0 has in
        subst (λ e. touches e (event_number rows place) ≡ true)
        (same_Some points.edge edge (sym points.edge_is ∙ at)) points.touches_it,
    λ touched.
        let w : ℕ = event_number rows place in
        let points : PointsTo g w i (pointing_to edge w) =
        record { edge = edge; edge_is = at; touches_it = touched; value = refl } in
        names_it (cube_at rows place) (i, pointing_to edge w)
        (((sink_at place within).sink.exact i (pointing_to edge w)).1 points),
  )

  -- its edges are edges of the graph
  edges_below : All (λ r. NamesBelow r.1 (length g.edges)) rows
  edges_below k d within j c inside =
      let r : ℕ × Cube = get_or rows k d in
      let p : ℕ × ℕ = get_or r.1 j c in
      let sink = (sinks.exact r.0 r.1).0 (Contains-get_or rows k d within) in
      let points = (sink.sink.exact p.0 p.1).0 (Contains-get_or r.1 j c inside) in
      slice_get_within g.edges p.0 points.edge points.edge_is

  module _ (places : List (Option ℕ)) (are : ArePlaces rows (length rows) places) where
    -- the row of an edge rises
    edge_rises : (i : ℕ) (edge : Edge) → slice_get g.edges i ≡ Some edge → edge.u < length places
        → edge.v < length places → IsStrictlyIncreasing (places_at places edge)
    edge_rises i edge at from to =
        let low : ℕ = min edge.u edge.v in
        let high : ℕ = max edge.u edge.v in
        rising_row (get_or places low None) (get_or places high None) (λ a b first second.
        let least = (are.each low a (omega arith)).0 first in
        let greatest = (are.each high b (omega arith)).0 second in
        elim (cases_order a b) [
          | inl same ↦
              let touched : touches edge (event_number rows a) ≡ true =
              subst (λ w. touches edge w ≡ true) (sym least.1) (touches_least edge) in
              let loop : is_loop edge ≡ true = eq-eqb edge.u edge.v
              (let ends = ap (event_number rows) same in
              let low_is = least.1 in
              let high_is = greatest.1 in
              omega (arith, ends, low_is, high_is)) in
              let none = touching_is_no_loop g (event_number rows a) i edge (sink_at a least.0).no_loop at touched in
              absurd (false≢true (sym none ∙ loop))
          | inr (inl less) ↦ less
          | inr (inr more) ↦
              let up = number_rises rows b a sinks.rising more least.0 in
              let low_is = least.1 in
              let high_is = greatest.1 in
              absurd (omega (arith, up, low_is, high_is))
        ])

    -- and has just the places of the events that name the edge
    edge_exact : (i place : ℕ) (edge : Edge) → slice_get g.edges i ≡ Some edge → edge.u < length places
        → edge.v < length places → Contains (places_at places edge) place
        ↔ ((place < length rows) × (names (cube_at rows place) i ≡ true))
    edge_exact i place edge at from to =
        let low : ℕ = min edge.u edge.v in
        let high : ℕ = max edge.u edge.v in
        let members = row_members (get_or places low None) (get_or places high None) place in
        let least = are.each low place (omega arith) in
        let greatest = are.each high place (omega arith) in (
          λ has. elim (members.0 has) [
            | inl first ↦
                let (within, is) = least.0 first in (
                  within,
                  (names_touching place i edge within at).1
                      (subst (λ w. touches edge w ≡ true) (sym is) (touches_least edge)),
                )
            | inr second ↦
                let (within, is) = greatest.0 second in (
                  within,
                  (names_touching place i edge within at).1
                      (subst (λ w. touches edge w ≡ true) (sym is) (touches_greatest edge)),
                )
          ],
          λ (within, is).
              elim (ends_of edge (event_number rows place) ((names_touching place i edge within at).0 is)) [
                | inl first ↦ members.1 (inl (least.1 (within, first)))
                | inr second ↦ members.1 (inr (greatest.1 (within, second)))
              ],
        )

    -- so the rows of all edges are the index
    pub rows_are_index : All (λ (e : Edge). (e.u < length places) × (e.v < length places)) g.edges
        → IsIndex rows (map (places_at places) g.edges)
    rows_are_index ends =
        let size : length (map (places_at places) g.edges) ≡ length g.edges =
        length-map g.edges (places_at places) in
        let no_edge : Edge = record { u = 0; v = 0; weight = 0 } in
        let row : (i : ℕ) → i < length g.edges → get_or (map (places_at places) g.edges) i []
        ≡ places_at places (get_or g.edges i no_edge) =
        λ i within. get_or-map (places_at places) g.edges i no_edge [] within in
        record {
          below = subst (λ m. All (λ r. NamesBelow r.1 m) rows) (sym size) edges_below;
          rising = λ i inside.
              let within : i < length g.edges = omega (arith, size, inside) in
              let joins = ends i no_edge within in
              subst IsStrictlyIncreasing (sym (row i within))
              (edge_rises i (get_or g.edges i no_edge) (slice_get-get_or g.edges i no_edge within) joins.0 joins.1);
          exact = λ i place inside.
              let within : i < length g.edges = omega (arith, size, inside) in
              let joins = ends i no_edge within in
              subst (λ xs. Contains xs place ↔ ((place < length rows) × (names (cube_at rows place) i ≡ true)))
              (sym (row i within))
              (edge_exact i place (get_or g.edges i no_edge) (slice_get-get_or g.edges i no_edge within) joins.0
              joins.1);
        }
