-- Each record of a log has a witness tree. The children of a vertex are found among finitely many and put in order one
-- after another: two children with one label are one vertex. Children are deeper than their vertex, and depths are
-- bounded, so preorder ends. So what is asked of a legal log has a witness: the tree of the pop that used the entry, or
-- that there is none.
use Rattle.std.proofs.Common.{inl, inr, ◌≡◌, ◌⊎◌, ◌↔◌, ℕ, zero, suc, ◌+◌, ◌<◌, ◌≤◌, Bool, List, [], ◌∷◌, ◌++◌, length, take, get_or, slice_get, Option, None, Some, refl, sym, ap, subst, ◌∙◌, arith, Contains, AllPairs}
use Rattle.std.proofs.lemmas.Bool.{cases_eq, cases_lt}
use Rattle.std.proofs.lemmas.List.{take_more}
use Rattle.std.proofs.lemmas.Option.{get_or_from_slice_get, slice_get-get_or, slice_get_within}
use Rattle.pop_model.specs.Popping.{cursor, names}
use Rattle.pop_model.specs.Extremal.{Share}
use Rattle.pop_model.specs.Instances.{Instance}
use Rattle.pop_model.specs.Logs.{IsLegal, LogRecord, replay}
use Rattle.pop_model.specs.Runs.{start_of}
use Rattle.pop_model.specs.Stacks.{variables_of}
use Rattle.pop_model.proofs.Members.{pairs_tail}
use Rattle.pop_model.proofs.Replays.{length-replay, length-start}
use Rattle.pop_model.proofs.Rising.{head_member, member_cases, none_in, only_member, tail_member}
use Rattle.prs_rounds.proofs.ShownLemmas.{filter_keeps}
use Rattle.pop_log.specs.declared.names.Names.{Names}
use Rattle.pop_log.specs.Printed.{name_of}
use Rattle.pop_log.proofs.Reordering.{pairs_cons, pairs_head}
use Rattle.witness_trees.specs.Pops.{Uses, naming}
use Rattle.witness_trees.specs.Vertices.{AreVertices, Meets, Vertex, at_depth}
use Rattle.witness_trees.specs.Trees.{InPreorder, IsBelow, IsParent, IsTree}
use Rattle.witness_trees.specs.Trees.InPreorder.{none, more}
use Rattle.witness_trees.proofs.BelowLemmas.{Below-cases, Below-same, Below-trans}
use Rattle.witness_trees.proofs.Counting.{cursor_counts, legal_log_counts}
use Rattle.witness_trees.proofs.Joining.{one_at_depth}
use Rattle.witness_trees.proofs.VerticesLemmas.{LevelApart, levels_are_apart}
use Rattle.told_runs.specs.Witnesses.{IsWitness, Witness}
use Rattle.told_runs.specs.Witnesses.Witness.{Missing, Shown, Unasked}
use Rattle.answer_laws.proofs.ToldLogs.{named_or_not}
use Rattle.answer_laws.proofs.FoundVertices.{bounded, found_vertices, root_among, share_or_not}

-- ---- children

-- it holds of all vertices of a list, or there is one of which it doesn't, where it is found of each
all_or_one : (P : Vertex → Type 0) (xs : List Vertex) → ((x : Vertex) → Contains xs x → P x ⊎ (P x → ⊥))
    → ((x : Vertex) → Contains xs x → P x) ⊎ ((x : Vertex) × Contains xs x × (P x → ⊥))
all_or_one P [] test = inl (λ x among. absurd (none_in x among))
all_or_one P (y ∷ xs) test = elim (test y (head_member y xs)) [
  | inr not ↦ inr (y, head_member y xs, not)
  | inl is ↦ elim (all_or_one P xs (λ x among. test x (tail_member y xs x among))) [
    | inr (x, among, not) ↦ inr (x, tail_member y xs x among, not)
    | inl all ↦ inl (λ x among. elim (member_cases y xs x among) [
      | inl first ↦ subst P first is
      | inr later ↦ all x later
    ])
  ]
]

-- what meets an event shares its variables with itself
self_met : (v w : Vertex) → Meets v w.label → Share v.label.cube v.label.cube
self_met v w (k, x, y, in_v, in_w) = (k, x, x, in_v, in_v)

-- the label of the one is below that of the other
abbrev Before : Vertex → Vertex → Type 0
Before v w = IsBelow v.label.cube w.label.cube

-- a list with one member more
record IsPut (w : Vertex) (cs ds : List Vertex) : Type 0 where
  exact : (x : Vertex) → Contains ds x ↔ ((x ≡ w) ⊎ Contains cs x)
  rising : AllPairs Before ds

-- a vertex is put into a list that rises, where each member has another label or is the vertex
put : (w : Vertex) (cs : List Vertex) → AllPairs Before cs
    → ((c : Vertex) → Contains cs c → Before w c ⊎ ((w ≡ c) ⊎ Before c w)) → (ds : List Vertex) × IsPut w cs ds
put w [] rising apart = (
  w ∷ [],
  record {
    exact = λ x. (
      λ among. inl (sym (only_member w x among)),
      λ h. elim h [
        | inl same ↦ subst (Contains (w ∷ [])) (sym same) (head_member w [])
        | inr among ↦ absurd (none_in x among)
      ],
    );
    rising = pairs_cons Before w [] (λ y among. absurd (none_in y among)) rising;
  },
)
put w (c ∷ cs) rising apart = elim (apart c (head_member c cs)) [
  | inl before ↦ (
    w ∷ c ∷ cs,
    record {
      exact = λ x. (
        λ among. elim (member_cases w (c ∷ cs) x among) [ inl first ↦ inl (sym first) | inr later ↦ inr later ],
        λ h. elim h [
          | inl same ↦ subst (Contains (w ∷ c ∷ cs)) (sym same) (head_member w (c ∷ cs))
          | inr among ↦ tail_member w (c ∷ cs) x among
        ],
      );
      rising = pairs_cons Before w (c ∷ cs) (λ y among. elim (member_cases c cs y among) [
        | inl first ↦ subst (Before w) first before
        | inr later ↦
            Below-trans w.label.cube c.label.cube y.label.cube before (pairs_head Before c cs rising y later)
      ]) rising;
    },
  )
  | inr (inl same) ↦ (
    c ∷ cs,
    record {
      exact = λ x. (
        λ among. inr among,
        λ h. elim h [
          | inl is ↦ subst (Contains (c ∷ cs)) (sym (is ∙ same)) (head_member c cs)
          | inr among ↦ among
        ],
      );
      rising = rising;
    },
  )
  | inr (inr behind) ↦
      let (ds, is) = put w cs (pairs_tail Before c cs rising) (λ d among. apart d (tail_member c cs d among)) in (
        c ∷ ds,
        record {
          exact = λ x. (
            λ among. elim (member_cases c ds x among) [
              | inl first ↦ inr (subst (Contains (c ∷ cs)) first (head_member c cs))
              | inr later ↦ elim ((is.exact x).0 later) [
                | inl same ↦ inl same
                | inr old ↦ inr (tail_member c cs x old)
              ]
            ],
            λ h. elim h [
              | inl same ↦ tail_member c ds x ((is.exact x).1 (inl same))
              | inr among ↦ elim (member_cases c cs x among) [
                | inl first ↦ subst (Contains (c ∷ ds)) first (head_member c ds)
                | inr later ↦ tail_member c ds x ((is.exact x).1 (inr later))
              ]
            ],
          );
          rising = pairs_cons Before c ds (λ y among. elim ((is.exact y).0 among) [
            | inl same ↦ subst (Before c) (sym same) behind
            | inr old ↦ pairs_head Before c cs rising y old
          ]) is.rising;
        },
      )
]

module _ (vs : List Vertex) (apart : AllPairs LevelApart vs) where
  -- vertices of one depth with equal labels are one, where they meet an event
  one_label : (v w : Vertex) → Contains vs v → Contains vs w → v.depth ≡ w.depth → Share v.label.cube v.label.cube
      → v.label.cube ≡ w.label.cube → v ≡ w
  one_label v w among other level self same =
      one_at_depth vs v w apart among other level (subst (Share v.label.cube) same self)

  -- no other vertex at the depth of p that meets v has a lesser label
  abbrev IsLeast : Vertex → Vertex → Vertex → Type 0
  IsLeast p v w = w.depth ≡ p.depth → Meets w v.label → (w ≡ p) ⊎ Before p w

  -- that is found
  least_or_not : (p v w : Vertex) → Contains vs p → Contains vs w → IsLeast p v w ⊎ (IsLeast p v w → ⊥)
  least_or_not p v w among other = elim (cases_eq w.depth p.depth) [
    | inr differ ↦ inl (λ level meets. absurd (differ level))
    | inl level ↦ elim (share_or_not w.label.cube v.label.cube) [
      | inr never ↦ inl (λ same meets. absurd (never meets))
      | inl meets ↦ elim (Below-cases p.label.cube w.label.cube) [
        | inl below ↦ inl (λ same at. inr below)
        | inr (inl equal) ↦
            inl (λ same at. inl (one_label w p other among level (self_met w v meets) (sym equal)))
        | inr (inr above) ↦ inr (λ is. elim (is level meets) [
          | inl same ↦ Below-same p.label.cube (subst (λ (u : Vertex). Before u p) same above)
          | inr below ↦ Below-same p.label.cube (Below-trans p.label.cube w.label.cube p.label.cube below above)
        ])
      ]
    ]
  ]

  -- whether a vertex is the parent of another is found
  parent_or_not : (p v : Vertex) → Contains vs p → IsParent vs p v ⊎ (IsParent vs p v → ⊥)
  parent_or_not p v among = elim (cases_eq (p.depth + 1) v.depth) [
    | inr differ ↦ inr (λ is. differ is.above)
    | inl above ↦ elim (share_or_not p.label.cube v.label.cube) [
      | inr never ↦ inr (λ is. never is.meets)
      | inl meets ↦ elim (all_or_one (IsLeast p v) vs (λ w other. least_or_not p v w among other)) [
        | inl all ↦ inl (record { above = above; meets = meets; least = all })
        | inr (w, other, not) ↦ inr (λ is. not (is.least w other))
      ]
    ]
  ]

  -- children of one vertex have different labels or are one
  compared : (v x c : Vertex) → Contains vs x → Contains vs c → IsParent vs v x → IsParent vs v c
      → Before x c ⊎ ((x ≡ c) ⊎ Before c x)
  compared v x c among other is is' = elim (Below-cases x.label.cube c.label.cube) [
    | inl before ↦ inl before
    | inr (inr behind) ↦ inr (inr behind)
    | inr (inl equal) ↦
        let (k, a, b, in_v, in_x) = is.meets in
        inr (inl (one_label x c among other (sym is.above ∙ is'.above) (k, b, b, in_x, in_x) equal))
  ]

  -- the children of a vertex among those of a list
  record HasChildren (v : Vertex) (xs cs : List Vertex) : Type 0 where
    exact : (x : Vertex) → Contains cs x ↔ (Contains xs x × IsParent vs v x)
    rising : AllPairs Before cs

  -- they are found, one after another
  children_of : (v : Vertex) → Contains vs v → (xs : List Vertex) → ((x : Vertex) → Contains xs x → Contains vs x)
      → (cs : List Vertex) × HasChildren v xs cs
  children_of v among [] known = (
    [],
    record {
      exact = λ x. (λ has. absurd (none_in x has), λ h. absurd (none_in x h.0));
      rising = λ i j d before within. absurd (omega (arith, within));
    },
  )
  children_of v among (x ∷ xs) known =
      let (cs, are) = children_of v among xs (λ y later. known y (tail_member x xs y later)) in
      elim (parent_or_not v x among) [
        | inr not ↦ (
          cs,
          record {
            exact = λ y. (
              λ has. let (later, is) = (are.exact y).0 has in (tail_member x xs y later, is),
              λ (has, is). elim (member_cases x xs y has) [
                | inl first ↦ absurd (not (subst (IsParent vs v) (sym first) is))
                | inr later ↦ (are.exact y).1 (later, is)
              ],
            );
            rising = are.rising;
          },
        )
        | inl is ↦
            let (ds, has) = put x cs are.rising (λ c old.
            let (later, child) = (are.exact c).0 old in
            compared v x c (known x (head_member x xs)) (known c (tail_member x xs c later)) is child) in (
              ds,
              record {
                exact = λ y. (
                  λ here. elim ((has.exact y).0 here) [
                    | inl same ↦ (
                      subst (Contains (x ∷ xs)) (sym same) (head_member x xs),
                      subst (IsParent vs v) (sym same) is,
                    )
                    | inr old ↦
                        let (later, child) = (are.exact y).0 old in (tail_member x xs y later, child)
                  ],
                  λ (here, child). elim (member_cases x xs y here) [
                    | inl first ↦ (has.exact y).1 (inl (sym first))
                    | inr later ↦ (has.exact y).1 (inr ((are.exact y).1 (later, child)))
                  ],
                );
                rising = has.rising;
              },
            )
      ]

  -- ---- preorder

  module _ (bound : ℕ) (below : (v : Vertex) → Contains vs v → v.depth < bound) where
    -- vertices from which there are at most n levels below the bound
    abbrev Reach : ℕ → List Vertex → Type 0
    Reach n siblings = (v : Vertex) → Contains siblings v → Contains vs v × (bound ≤ v.depth + n)

    -- siblings in preorder
    abbrev Forest : List Vertex → Type 0
    Forest siblings = (tree : List Vertex) × InPreorder vs siblings tree

    -- one after another, where children have a preorder
    row : (n : ℕ) → ((cs : List Vertex) → Reach n cs → Forest cs) → (siblings : List Vertex) → Reach (suc n) siblings
        → Forest siblings
    row n under [] reach = ([], none)
    row n under (v ∷ rest) reach =
        let (known, deep) = reach v (head_member v rest) in
        let (cs, are) = children_of v known vs (λ x among. among) in
        let (tree, order) = under cs (λ c child.
        let (among, is) = (are.exact c).0 child in
        let above = is.above in
        (among, omega (arith, deep, above))) in
        let (after, behind) = row n under rest (λ w later. reach w (tail_member v rest w later)) in
        (v ∷ tree ++ after, more v rest cs tree after (record { exact = are.exact; rising = are.rising }) order behind)

    -- so all have one
    forest : (n : ℕ) (siblings : List Vertex) → Reach n siblings → Forest siblings
    forest zero [] reach = ([], none)
    forest zero (v ∷ rest) reach =
        let (known, deep) = reach v (head_member v rest) in
        let less = below v known in
        absurd (omega (arith, deep, less))
    forest (suc n) siblings reach = row n (forest n) siblings reach

-- each record has a tree
pub found_tree : (log : List LogRecord) (t : ℕ) (r : LogRecord) → slice_get log t ≡ Some r
    → (tree : List Vertex) × IsTree log t tree
found_tree log t r at =
    let within = slice_get_within log t r at in
    let is : take (t + 1) log ≡ take t log ++ r ∷ [] =
    take_more log t r within ∙ ap (λ (q : LogRecord). take t log ++ q ∷ []) (get_or_from_slice_get log t r r at) in
    let (vs, are) = found_vertices (take t log ++ r ∷ []) (some (take t log)) in
    let root : Contains vs (at_depth 0 r.event) = root_among (take t log) r vs are in
    let (bound, below) = bounded vs in
    let (tree, order) =
    forest vs (levels_are_apart (take t log ++ r ∷ []) vs are) bound below bound (at_depth 0 r.event ∷ []) (λ v among.
    (subst (Contains vs) (only_member (at_depth 0 r.event) v among) root, omega arith)) in (
      tree,
      record {
        last = r;
        vs = vs;
        last_is = at;
        vertices = subst (λ l. AreVertices l vs) (sym is) are;
        preorder = order;
      },
    )
  where
    some : (front : List LogRecord) → 0 < length (front ++ r ∷ [])
    some [] = omega arith
    some (q ∷ front) = omega arith

-- ---- witnesses

-- the record names the variable
abbrev has_variable : LogRecord → ℕ → Bool
has_variable r v = names r.event.cube v

-- the witness of an entry of a variable
of_variable : (names : Names) (i : Instance) (log : List LogRecord) → IsLegal i (start_of i) log → (name entry v : ℕ)
    → v < length (replay (start_of i) log) → name_of names v ≡ name
    → (w : Witness) × IsWitness names (Some (name, entry)) (replay (start_of i) log) log w
of_variable names i log legal name entry v below is =
    elim (cases_lt entry (cursor (replay (start_of i) log) v)) [
      | inr not ↦ (
        Missing name entry (cursor (replay (start_of i) log) v),
        (refl, refl, inl (v, below, is, refl), omega (arith, not)),
      )
      | inl used ↦
          let known : v < variables_of i.stacks =
          omega (arith, below, length-replay (start_of i) log, length-start i) in
          let many = cursor_counts i log v known in
          let inside : entry < length (naming log v) = omega (arith, used, many) in
          let none_yet : LogRecord = record { event = record { unit = 0; cube = [] }; entries = [] } in
          let r : LogRecord = get_or (naming log v) entry none_yet in
          let here : slice_get (naming log v) entry ≡ Some r =
          slice_get-get_or (naming log v) entry none_yet inside in
          let uses : Uses r v entry = legal_log_counts i log legal v known entry r here in
          let among : Contains log r =
          (filter_keeps (λ (q : LogRecord). has_variable q v) log r
          (entry, inside, get_or_from_slice_get (naming log v) entry r r here)).0 in
          let at : slice_get log among.0 ≡ Some r =
          slice_get-get_or log among.0 r among.1 ∙ ap (λ (q : LogRecord). Some q) among.2 in
          let (tree, tree_is) = found_tree log among.0 r at in (
            Shown tree,
            record {
              v = v;
              below = below;
              named = is;
              t = among.0;
              r = r;
              record_is = at;
              used = uses;
              tree_is = tree_is;
            },
          )
    ]

-- what is asked of a legal log has a witness
pub found_witness : (names : Names) (asked : Option (ℕ × ℕ)) (i : Instance) (log : List LogRecord)
    → IsLegal i (start_of i) log → (w : Witness) × IsWitness names asked (replay (start_of i) log) log w
found_witness names None i log legal = (Unasked, tt)
found_witness names (Some asked) i log legal =
    elim (named_or_not names asked.0 (length (replay (start_of i) log))) [
      | inl (v, below, is) ↦ of_variable names i log legal asked.0 asked.1 v below is
      | inr never ↦ (Missing asked.0 asked.1 0, (refl, refl, inr (never, refl), omega arith))
    ]
