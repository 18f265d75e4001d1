-- Each record of a log has a witness tree: of its vertices the children of each are sorted by their labels, and the
-- depths are bounded.
use Rattle.std.proofs.Common.{inl, inr, ◌≡◌, ◌⊎◌, ◌↔◌, ℕ, zero, suc, ◌+◌, ◌<◌, ◌≤◌, List, [], ◌∷◌, ◌++◌, length, take, get_or, Some, slice_get, sym, subst, ◌∙◌, arith, Contains, AllPairs}
use Rattle.std.proofs.lemmas.Bool.{cases_eq}
use Rattle.std.proofs.lemmas.List.Elements.{Contains-get_or}
use Rattle.pop_model.specs.Popping.{Cube}
use Rattle.pop_model.specs.Logs.{LogRecord}
use Rattle.pop_model.proofs.Rising.{member_cases, head_member, tail_member, none_in, only_member}
use Rattle.pop_log.proofs.Fronts.{take_push}
use Rattle.witness_trees.specs.Vertices.{Vertex, Meets, at_depth, AreVertices}
use Rattle.witness_trees.specs.Trees.{IsBelow, IsParent, AreChildren, InPreorder, IsTree}
use Rattle.witness_trees.proofs.BelowLemmas.{Below-same, Below-trans, Below-cases}
use Rattle.witness_trees.proofs.Joining.{one_at_depth}
use Rattle.witness_trees.proofs.VerticesLemmas.{LevelApart, levels_are_apart}
use Rattle.prs_rounds.proofs.ClosedSets.{IsDecided, decide_both, decide_share}
use Rattle.total_answers.proofs.Deciding.{keys_below, some_member}
use Rattle.total_answers.proofs.VerticesFound.{Grown, IsSome, grown}

-- ---- labels

-- a label is below another, or not
decide_below : (e f : Cube) → IsDecided (IsBelow e f)
decide_below e f = elim (Below-cases e f) [
  | inl below ↦ inl below
  | inr (inl same) ↦ inr (λ below. Below-same f (subst (λ (c : Cube). IsBelow c f) same below))
  | inr (inr back) ↦ inr (λ below. Below-same e (Below-trans e f e below back))
]

-- the first label is below each behind it, and these rise
abbrev Rises : List Vertex → Type 0
Rises [] = Unit {0}
Rises (v ∷ vs) = ((w : Vertex) → Contains vs w → IsBelow v.label.cube w.label.cube) × Rises vs

-- so any two do
rises_pairs : (vs : List Vertex) → Rises vs → AllPairs (λ v w. IsBelow v.label.cube w.label.cube) vs
rises_pairs [] rises i j d before within = absurd (omega (arith, within))
rises_pairs (v ∷ vs) rises zero zero d before within = absurd (omega (arith, before))
rises_pairs (v ∷ vs) rises zero (suc j) d before within =
    rises.0 (get_or vs j d) (Contains-get_or vs j d (omega (arith, within)))
rises_pairs (v ∷ vs) rises (suc i) zero d before within = absurd (omega (arith, before))
rises_pairs (v ∷ vs) rises (suc i) (suc j) d before within =
    rises_pairs vs rises.1 i j d (omega (arith, before)) (omega (arith, within))

-- ---- children

module _ (vs : List Vertex) (apart : AllPairs LevelApart vs)
    (some : (v : Vertex) → Contains vs v → 0 < length v.label.cube) where
  -- vertices of one depth with one label are one
  one_label : (v w : Vertex) → Contains vs v → Contains vs w → v.depth ≡ w.depth → v.label.cube ≡ w.label.cube → v ≡ w
  one_label v w has has' depth same =
      let p : ℕ × ℕ = get_or v.label.cube 0 (0, 0) in
      let here = Contains-get_or v.label.cube 0 (0, 0) (some v has) in
      one_at_depth vs v w apart has has' depth
      (p.0, p.1, p.1, here, subst (λ (c : Cube). Contains c p) same here)

  module _ (parent : Vertex) (has_parent : Contains vs parent) where
    -- another vertex that would be the parent
    abbrev IsBefore : Vertex → Vertex → Type 0
    IsBefore v other =
        (other.depth ≡ parent.depth) × (Meets other v.label × IsBelow other.label.cube parent.label.cube)

    -- it is found whether this is the parent
    decide_parent : (v : Vertex) → IsDecided (IsParent vs parent v)
    decide_parent v = elim (decide_both (parent.depth + 1 ≡ v.depth) (Meets parent v.label)
        (cases_eq (parent.depth + 1) v.depth) (decide_share parent.label.cube v.label.cube)) [
          | inr not ↦ inr (λ is. not (is.above, is.meets))
          | inl (above, meets) ↦ elim (some_member (IsBefore v) vs (λ other.
              decide_both (other.depth ≡ parent.depth) _ (cases_eq other.depth parent.depth)
              (decide_both (Meets other v.label) _ (decide_share other.label.cube v.label.cube)
              (decide_below other.label.cube parent.label.cube)))) [
                | inl (other, has, (depth, (meets', below))) ↦ inr (λ is. elim (is.least other has depth meets') [
                  | inl same ↦ Below-same parent.label.cube
                      (subst (λ (u : Vertex). IsBelow u.label.cube parent.label.cube) same below)
                  | inr back ↦ Below-same parent.label.cube
                      (Below-trans parent.label.cube other.label.cube parent.label.cube back below)
                ])
                | inr none ↦ inl (record {
                  above = above;
                  meets = meets;
                  least = λ other has depth meets'. elim (Below-cases parent.label.cube other.label.cube) [
                    | inl below ↦ inr below
                    | inr (inl same) ↦ inl (one_label other parent has has_parent depth (sym same))
                    | inr (inr back) ↦ absurd (none other has (depth, (meets', back)))
                  ];
                })
              ]
        ]

    -- children among these vertices, by rising label
    record Gathered (ws cs : List Vertex) : Type 0 where
      exact : (v : Vertex) → Contains cs v ↔ (Contains ws v × IsParent vs parent v)
      rises : Rises cs

    -- a child is put where its label belongs
    record Puts (v : Vertex) (old new : List Vertex) : Type 0 where
      has : Contains new v
      kept : (w : Vertex) → Contains old w → Contains new w
      from : (w : Vertex) → Contains new w → (v ≡ w) ⊎ Contains old w
      rises : Rises new

    -- two children stand at one depth
    one_level : (v w : Vertex) → IsParent vs parent v → IsParent vs parent w → v.depth ≡ w.depth
    one_level v w is is' = sym is.above ∙ is'.above

    put : (v : Vertex) → Contains vs v → IsParent vs parent v → (cs : List Vertex) → Rises cs
        → ((w : Vertex) → Contains cs w → Contains vs w × IsParent vs parent w) → (new : List Vertex) × Puts v cs new
    put v has is [] rises known = (
      v ∷ [],
      record {
        has = head_member v [];
        kept = λ w none. absurd (none_in w none);
        from = λ w among. member_cases v [] w among;
        rises = (λ w none. absurd (none_in w none), tt);
      },
    )
    put v has is (c ∷ cs) rises known = elim (Below-cases v.label.cube c.label.cube) [
      | inl below ↦ (
        v ∷ c ∷ cs,
        record {
          has = head_member v (c ∷ cs);
          kept = λ w among. tail_member v (c ∷ cs) w among;
          from = λ w among. member_cases v (c ∷ cs) w among;
          rises = (
            λ w among. elim (member_cases c cs w among) [
              | inl same ↦ subst (λ (u : Vertex). IsBelow v.label.cube u.label.cube) same below
              | inr behind ↦ Below-trans v.label.cube c.label.cube w.label.cube below (rises.0 w behind)
            ],
            rises,
          );
        },
      )
      | inr (inl same) ↦
          let child = known c (head_member c cs) in
          let one : c ≡ v = one_label c v child.0 has (one_level c v child.1 is) (sym same) in (
            c ∷ cs,
            record {
              has = subst (Contains (c ∷ cs)) one (head_member c cs);
              kept = λ w among. among;
              from = λ w among. inr among;
              rises = rises;
            },
          )
      | inr (inr back) ↦
          let rest = put v has is cs rises.1 (λ w among. known w (tail_member c cs w among)) in (
            c ∷ rest.0,
            record {
              has = tail_member c rest.0 v rest.1.has;
              kept = λ w among. elim (member_cases c cs w among) [
                | inl first ↦ subst (Contains (c ∷ rest.0)) first (head_member c rest.0)
                | inr behind ↦ tail_member c rest.0 w (rest.1.kept w behind)
              ];
              from = λ w among. elim (member_cases c rest.0 w among) [
                | inl first ↦ inr (subst (Contains (c ∷ cs)) first (head_member c cs))
                | inr behind ↦ elim (rest.1.from w behind) [
                  | inl new ↦ inl new
                  | inr old ↦ inr (tail_member c cs w old)
                ]
              ];
              rises = (
                λ w among. elim (rest.1.from w among) [
                  | inl new ↦ subst (λ (u : Vertex). IsBelow c.label.cube u.label.cube) new back
                  | inr old ↦ rises.0 w old
                ],
                rest.1.rises,
              );
            },
          )
    ]

    -- so they are gathered
    gathered : (ws : List Vertex) → ((w : Vertex) → Contains ws w → Contains vs w)
        → (cs : List Vertex) × Gathered ws cs
    gathered [] among = (
      [],
      record {
        exact = λ v. (λ none. absurd (none_in v none), λ h. absurd (none_in v h.0));
        rises = tt;
      },
    )
    gathered (w ∷ ws) among =
        let old = gathered ws (λ v has. among v (tail_member w ws v has)) in
        elim (decide_parent w) [
          | inr not ↦ (
            old.0,
            record {
              exact = λ v. (
                λ has. let h = (old.1.exact v).0 has in (tail_member w ws v h.0, h.1),
                λ h. elim (member_cases w ws v h.0) [
                  | inl same ↦ absurd (not (subst (IsParent vs parent) (sym same) h.1))
                  | inr behind ↦ (old.1.exact v).1 (behind, h.1)
                ],
              );
              rises = old.1.rises;
            },
          )
          | inl is ↦
              let new = put w (among w (head_member w ws)) is old.0 old.1.rises (λ v has.
              let h = (old.1.exact v).0 has in (among v (tail_member w ws v h.0), h.1)) in (
                new.0,
                record {
                  exact = λ v. (
                    λ has. elim (new.1.from v has) [
                      | inl same ↦ subst (λ (u : Vertex). Contains (w ∷ ws) u × IsParent vs parent u) same
                          (head_member w ws, is)
                      | inr before ↦ let h = (old.1.exact v).0 before in (tail_member w ws v h.0, h.1)
                    ],
                    λ h. elim (member_cases w ws v h.0) [
                      | inl same ↦ subst (Contains new.0) same new.1.has
                      | inr behind ↦ new.1.kept v ((old.1.exact v).1 (behind, h.1))
                    ],
                  );
                  rises = new.1.rises;
                },
              )
        ]

    -- the children of the vertex
    children : (cs : List Vertex) × AreChildren vs parent cs
    children =
        let all = gathered vs (λ w has. has) in
        (all.0, record { exact = all.1.exact; rising = rises_pairs all.0 all.1.rises })

  -- ---- the preorder

  -- what stands below a vertex
  record Below (v : Vertex) : Type 0 where
    kids : List Vertex
    are : AreChildren vs v kids
    below : List Vertex
    order : InPreorder vs kids below

  -- siblings, where it is known what stands below each
  in_order : (siblings : List Vertex) → ((v : Vertex) → Contains siblings v → Below v)
      → (tree : List Vertex) × InPreorder vs siblings tree
  in_order [] each = ([], InPreorder.none)
  in_order (v ∷ siblings) each =
      let b : Below v = each v (head_member v siblings) in
      let after = in_order siblings (λ w has. each w (tail_member v siblings w has)) in
      (v ∷ b.below ++ after.0, InPreorder.more v siblings b.kids b.below after.0 b.are b.order after.1)

  -- at most n levels down
  levels : (n most : ℕ) → ((v : Vertex) → Contains vs v → v.depth < most) → (siblings : List Vertex)
      → ((v : Vertex) → Contains siblings v → Contains vs v × (most ≤ v.depth + n))
      → (tree : List Vertex) × InPreorder vs siblings tree
  levels zero most low siblings known = in_order siblings (λ v has.
      let h = known v has in
      let less = low v h.0 in
      let far = h.1 in
      absurd (omega (arith, less, far)))
  levels (suc n) most low siblings known = in_order siblings (λ v has.
      let h = known v has in
      let far = h.1 in
      let kids = children v h.0 in
      let rest = levels n most low kids.0 (λ w among.
      let child = (kids.1.exact w).0 among in
      let above = child.1.above in
      (child.0, omega (arith, far, above))) in
      record { kids = kids.0; are = kids.1; below = rest.0; order = rest.1 })

-- so each record of a log has a tree
pub tree_found : (log : List LogRecord) (t : ℕ) (r : LogRecord) → ((q : LogRecord) → Contains log q → IsSome q)
    → slice_get log t ≡ Some r → (tree : List Vertex) × IsTree log t tree
tree_found log t r full at =
    let front : List LogRecord = take t log in
    let whole : take (t + 1) log ≡ front ++ r ∷ [] = take_push log t r at in
    let g : Grown (front ++ r ∷ []) r =
    grown front r (λ q has.
    full q (front_member log (t + 1) q (subst (λ (l : List LogRecord). Contains l q) (sym whole) has))) in
    let apart = levels_are_apart (front ++ r ∷ []) g.vs g.are in
    let low = keys_below (λ (v : Vertex). v.depth) g.vs in
    let root : Vertex = at_depth 0 r.event in
    let all = levels g.vs apart g.some low.0 low.0 low.1 (root ∷ []) (λ v has.
    let same : root ≡ v = only_member root v has in
    (subst (Contains g.vs) same g.has_root, omega arith)) in (
      all.0,
      record {
        last = r;
        vs = g.vs;
        last_is = at;
        vertices = subst (λ (l : List LogRecord). AreVertices l g.vs) (sym whole) g.are;
        preorder = all.1;
      },
    )
  where
    front_member : (l : List LogRecord) (n : ℕ) (q : LogRecord) → Contains (take n l) q → Contains l q
    front_member [] zero q has = has
    front_member [] (suc n) q has = has
    front_member (x ∷ l) zero q has = absurd (none_in q has)
    front_member (x ∷ l) (suc n) q has = elim (member_cases x (take n l) q has) [
      | inl same ↦ subst (Contains (x ∷ l)) same (head_member x l)
      | inr behind ↦ tail_member x l q (front_member l n q behind)
    ]
