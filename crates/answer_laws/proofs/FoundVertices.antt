-- Each record of a log has the vertices of a witness tree. An earlier event joins below the deepest vertex that it meets,
-- which is found among finitely many, or is left out. The root is one of them, and depths are bounded.
use Rattle.std.proofs.Common.{inl, inr, ◌≡◌, ◌⊎◌, ℕ, ◌+◌, ◌<◌, ◌≤◌, List, [], ◌∷◌, ◌++◌, length, refl, sym, ap, subst, ◌∙◌, arith, Contains}
use Rattle.std.proofs.lemmas.Bool.{cases_Bool, cases_lt, false≢true}
use Rattle.pop_model.specs.Popping.{Cube, names}
use Rattle.pop_model.specs.Families.{Event}
use Rattle.pop_model.specs.Extremal.{Share}
use Rattle.pop_model.specs.Logs.{LogRecord}
use Rattle.pop_model.proofs.Diamond.{named, names_it}
use Rattle.pop_model.proofs.Rising.{head_member, member_cases, none_in, tail_member}
use Rattle.witness_trees.specs.Vertices.{AreVertices, IsDeepest, IsJoined, Meets, MeetsNone, Vertex, at_depth}

-- two cubes share a variable or don't
pub share_or_not : (e f : Cube) → Share e f ⊎ (Share e f → ⊥)
share_or_not [] f = inr (λ (v, x, y, in_e, in_f). none_in (v, x) in_e)
share_or_not (p ∷ e) f = elim (cases_Bool (names f p.0)) [
  | inl is ↦ let y = named f p.0 is in inl (p.0, p.1, y.0, head_member p e, y.1)
  | inr not ↦ elim (share_or_not e f) [
    | inl (v, x, y, in_e, in_f) ↦ inl (v, x, y, tail_member p e (v, x) in_e, in_f)
    | inr never ↦ inr (λ (v, x, y, in_e, in_f). elim (member_cases p e (v, x) in_e) [
      | inl first ↦
          let same : p.0 ≡ v = ap (λ (q : ℕ × ℕ). q.0) first in
          false≢true (sym not ∙ ap (names f) same ∙ names_it f (v, y) in_f)
      | inr later ↦ never (v, x, y, later, in_f)
    ])
  ]
]

-- the greatest depth of a vertex that an event meets stays that with one more vertex that isn't deeper where it is met
deeper_not : (v : Vertex) (vs : List Vertex) (e : Event) (d : ℕ) → (Meets v e → v.depth ≤ d) → IsDeepest vs e d
    → IsDeepest (v ∷ vs) e d
deeper_not v vs e d low deep = record {
  some = let (w, among, depth, meets) = deep.some in (w, tail_member v vs w among, depth, meets);
  greatest = λ w among meets. elim (member_cases v vs w among) [
    | inl first ↦
        let at : Meets v e = subst (λ (u : Vertex). Meets u e) (sym first) meets in
        let depth : v.depth ≡ w.depth = ap (λ (u : Vertex). u.depth) first in
        let less = low at in
        omega (arith, depth, less)
    | inr later ↦ deep.greatest w later meets
  ];
}

-- or is that of the new one
deepest_first : (v : Vertex) (vs : List Vertex) (e : Event) → Meets v e
    → ((w : Vertex) → Contains vs w → Meets w e → w.depth ≤ v.depth) → IsDeepest (v ∷ vs) e v.depth
deepest_first v vs e meets most = record {
  some = (v, head_member v vs, refl, meets);
  greatest = λ w among at. elim (member_cases v vs w among) [
    | inl first ↦ let depth : v.depth ≡ w.depth = ap (λ (u : Vertex). u.depth) first in omega (arith, depth)
    | inr later ↦ most w later at
  ];
}

-- an event meets some vertex, a deepest one, or none
deepest_or_none : (vs : List Vertex) (e : Event) → ((d : ℕ) × IsDeepest vs e d) ⊎ MeetsNone vs e
deepest_or_none [] e = inr (λ w among meets. none_in w among)
deepest_or_none (v ∷ vs) e = elim (share_or_not v.label.cube e.cube) [
  | inl meets ↦ elim (deepest_or_none vs e) [
    | inr alone ↦ inl (v.depth, deepest_first v vs e meets (λ w among at. absurd (alone w among at)))
    | inl (d, deep) ↦ elim (cases_lt d v.depth) [
      | inl less ↦
          inl (
            v.depth,
            deepest_first v vs e meets
                (λ w among at. let most = deep.greatest w among at in omega (arith, most, less)),
          )
      | inr not ↦ inl (d, deeper_not v vs e d (λ at. omega (arith, not)) deep)
    ]
  ]
  | inr apart ↦ elim (deepest_or_none vs e) [
    | inl (d, deep) ↦ inl (d, deeper_not v vs e d (λ at. absurd (apart at)) deep)
    | inr alone ↦ inr (λ w among meets. elim (member_cases v vs w among) [
      | inl first ↦ apart (subst (λ (u : Vertex). Meets u e) (sym first) meets)
      | inr later ↦ alone w later meets
    ])
  ]
]

-- so a log has vertices
pub found_vertices : (log : List LogRecord) → 0 < length log → (vs : List Vertex) × AreVertices log vs
found_vertices [] some = absurd (omega (arith, some))
found_vertices (r ∷ []) some = (at_depth 0 r.event ∷ [], refl)
found_vertices (r ∷ q ∷ log) some =
    let (later, are) = found_vertices (q ∷ log) (omega arith) in
    elim (deepest_or_none later r.event) [
      | inl (d, deep) ↦ (at_depth (d + 1) r.event ∷ later, (later, are, inl (d, deep, refl)))
      | inr alone ↦ (later, (later, are, inr (alone, refl)))
    ]

-- a vertex stays one when an event joins
still_among : (vs : List Vertex) (e : Event) (joined : List Vertex) (v : Vertex) → IsJoined vs e joined → Contains vs v
    → Contains joined v
still_among vs e joined v (inl (d, deep, is)) among =
    subst (λ l. Contains l v) (sym is) (tail_member (at_depth (d + 1) e) vs v among)
still_among vs e joined v (inr (alone, is)) among = subst (λ l. Contains l v) (sym is) among

-- the root is one of them
pub root_among : (front : List LogRecord) (r : LogRecord) (vs : List Vertex) → AreVertices (front ++ r ∷ []) vs
    → Contains vs (at_depth 0 r.event)
root_among [] r vs are = subst (λ l. Contains l (at_depth 0 r.event)) (sym are) (head_member (at_depth 0 r.event) [])
root_among (q ∷ []) r vs (later, are, joins) =
    still_among later q.event vs (at_depth 0 r.event) joins (root_among [] r later are)
root_among (q ∷ p ∷ front) r vs (later, are, joins) =
    still_among later q.event vs (at_depth 0 r.event) joins (root_among (p ∷ front) r later are)

-- depths are bounded
pub bounded : (vs : List Vertex) → (bound : ℕ) × ((v : Vertex) → Contains vs v → v.depth < bound)
bounded [] = (0, λ v among. absurd (none_in v among))
bounded (v ∷ vs) =
    let (bound, below) = bounded vs in (
      v.depth + bound + 1,
      λ w among. elim (member_cases v vs w among) [
        | inl first ↦ let depth : v.depth ≡ w.depth = ap (λ (u : Vertex). u.depth) first in omega (arith, depth)
        | inr later ↦ let less = below w later in omega (arith, less)
      ],
    )
