-- The vertices of the witness tree of a log's last record: the earlier records join it one by one, each below the
-- deepest vertex that it meets.
use Rattle.std.proofs.Common.{inl, inr, ◌⊎◌, ℕ, ◌+◌, ◌<◌, List, [], ◌∷◌, ◌++◌, length, refl, sym, ap, subst, arith, Contains}
use Rattle.std.proofs.lemmas.Bool.{cases_lt}
use Rattle.pop_model.specs.Families.{Event}
use Rattle.pop_model.specs.Logs.{LogRecord}
use Rattle.pop_model.proofs.Rising.{member_cases, head_member, tail_member, none_in, only_member}
use Rattle.witness_trees.specs.Vertices.{Vertex, Meets, at_depth, IsDeepest, MeetsNone, AreVertices}
use Rattle.prs_rounds.proofs.ClosedSets.{decide_share}

-- the deepest vertex that the event meets, or it meets none
deepest : (vs : List Vertex) (e : Event) → ((d : ℕ) × IsDeepest vs e d) ⊎ MeetsNone vs e
deepest [] e = inr (λ v has. absurd (none_in v has))
deepest (v ∷ vs) e = elim (decide_share v.label.cube e.cube) [
  | inr not ↦ elim (deepest vs e) [
    | inr none ↦ inr (λ w has meets. elim (member_cases v vs w has) [
      | inl same ↦ not (subst (λ (u : Vertex). Meets u e) (sym same) meets)
      | inr behind ↦ none w behind meets
    ])
    | inl (d, is) ↦ inl (
      d,
      record {
        some = (let (w, has, at, meets) = is.some in (w, tail_member v vs w has, at, meets));
        greatest = λ w has meets. elim (member_cases v vs w has) [
          | inl same ↦ absurd (not (subst (λ (u : Vertex). Meets u e) (sym same) meets))
          | inr behind ↦ is.greatest w behind meets
        ];
      },
    )
  ]
  | inl here ↦ elim (deepest vs e) [
    | inr none ↦ inl (
      v.depth,
      record {
        some = (v, head_member v vs, refl, here);
        greatest = λ w has meets. elim (member_cases v vs w has) [
          | inl same ↦ (let depth = ap (λ (u : Vertex). u.depth) same in omega (arith, depth))
          | inr behind ↦ absurd (none w behind meets)
        ];
      },
    )
    | inl (d, is) ↦ elim (cases_lt d v.depth) [
      | inl more ↦ inl (
        v.depth,
        record {
          some = (v, head_member v vs, refl, here);
          greatest = λ w has meets. elim (member_cases v vs w has) [
            | inl same ↦ (let depth = ap (λ (u : Vertex). u.depth) same in omega (arith, depth))
            | inr behind ↦ (let most = is.greatest w behind meets in omega (arith, more, most))
          ];
        },
      )
      | inr most ↦ inl (
        d,
        record {
          some = (let (w, has, at, meets) = is.some in (w, tail_member v vs w has, at, meets));
          greatest = λ w has meets. elim (member_cases v vs w has) [
            | inl same ↦ (let depth = ap (λ (u : Vertex). u.depth) same in omega (arith, depth, most))
            | inr behind ↦ is.greatest w behind meets
          ];
        },
      )
    ]
  ]
]

-- a record's cube isn't empty
abbrev pub IsSome : LogRecord → Type 0
IsSome r = 0 < length r.event.cube

-- the vertices of the tree of a log's last record, with its root among them
pub record Grown (log : List LogRecord) (root : LogRecord) : Type 0 where
  pub vs : List Vertex
  pub are : AreVertices log vs
  pub has_root : Contains vs (at_depth 0 root.event)
  pub some : (v : Vertex) → Contains vs v → 0 < length v.label.cube

-- a record more at the front
grown_more : (x root : LogRecord) (log : List LogRecord) → 0 < length log → IsSome x → Grown log root
    → Grown (x ∷ log) root
grown_more x root [] some full g = absurd (omega (arith, some))
grown_more x root (q ∷ log) some full g = elim (deepest g.vs x.event) [
  | inr none ↦ record { vs = g.vs; are = (g.vs, g.are, inr (none, refl)); has_root = g.has_root; some = g.some }
  | inl (d, is) ↦
      let v : Vertex = at_depth (d + 1) x.event in
      record {
        vs = v ∷ g.vs;
        are = (g.vs, g.are, inl (d, is, refl));
        has_root = tail_member v g.vs (at_depth 0 root.event) g.has_root;
        some = λ w has. elim (member_cases v g.vs w has) [
          | inl same ↦ subst (λ (u : Vertex). 0 < length u.label.cube) same full
          | inr behind ↦ g.some w behind
        ];
      }
]

-- so there are such
pub grown : (front : List LogRecord) (root : LogRecord) → ((r : LogRecord) → Contains (front ++ root ∷ []) r → IsSome r)
    → Grown (front ++ root ∷ []) root
grown [] root full =
    let v : Vertex = at_depth 0 root.event in
    record {
      vs = v ∷ [];
      are = refl;
      has_root = head_member v [];
      some = λ w has.
          subst (λ (u : Vertex). 0 < length u.label.cube) (only_member v w has) (full root (head_member root []));
    }
grown (x ∷ front) root full =
    let log : List LogRecord = front ++ root ∷ [] in
    grown_more x root log (length_some front root) (full x (head_member x log))
    (grown front root (λ r has. full r (tail_member x log r has)))
  where
    length_some : (front : List LogRecord) (root : LogRecord) → 0 < length (front ++ root ∷ [])
    length_some [] root = omega arith
    length_some (y ∷ front) root = omega arith
