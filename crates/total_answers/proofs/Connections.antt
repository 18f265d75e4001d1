-- Paths from a root join each vertex to it, or there is a least one that is cut off: a set of vertices that are joined
-- grows along edges for as long as some edge leads out of it.
use Rattle.std.proofs.Common.{inl, inr, ◌≡◌, ◌⊎◌, ℕ, zero, suc, ◌+◌, ◌<◌, ◌≤◌, true, List, [], ◌∷◌, length, refl, sym, ap, subst, ◌∙◌, arith, Contains}
use Rattle.std.specs.List.{range_with_len}
use Rattle.std.proofs.lemmas.Bool.{cases_Bool, cases_eq, false≢true}
use Rattle.std.proofs.lemmas.List.Elements.{All-contains}
use Rattle.pop_model.specs.Places.{IsLeast}
use Rattle.pop_model.proofs.Members.{in_range}
use Rattle.pop_model.proofs.Rising.{member_cases, head_member, tail_member, none_in}
use Rattle.graph_read.specs.declared.edge.Edge.{Edge}
use Rattle.graph_read.specs.Graphs.{GraphOf, IsVertex, IsEdge, IsGraph}
use Rattle.graph_read.specs.Incidence.{touches, other_end}
use Rattle.graph_read.specs.Paths.{IsPath, IsJoined, IsCutOff, IsConnected}
use Rattle.graph_read.proofs.JoinedPaths.{joined_more}
use Rattle.graph_read.proofs.VisitedEdges.{other_end_vertex}
use Rattle.prs_rounds.proofs.ClosedSets.{IsDecided}
use Rattle.total_answers.proofs.Deciding.{none_least, some_member}
use Rattle.total_answers.proofs.SinkEvents.{decide_vertex}

-- a number is in a list, or not
has_number : (ns : List ℕ) (w : ℕ) → IsDecided (Contains ns w)
has_number ns w = elim (some_member (λ n. n ≡ w) ns (λ n. cases_eq n w)) [
  | inl (n, has, same) ↦ inl (subst (Contains ns) same has)
  | inr none ↦ inr (λ has. none w has refl)
]

-- a list without one of its members, which has one less
record Without (ns : List ℕ) (w : ℕ) (rest : List ℕ) : Type 0 where
  size : suc (length rest) ≡ length ns
  others : (v : ℕ) → Contains ns v → (v ≡ w) ⊎ Contains rest v

without : (ns : List ℕ) (w : ℕ) → Contains ns w → (rest : List ℕ) × Without ns w rest
without [] w has = absurd (none_in w has)
without (n ∷ ns) w has = elim (cases_eq n w) [
  | inl same ↦ (
    ns,
    record {
      size = refl;
      others = λ v among. elim (member_cases n ns v among) [
        | inl first ↦ inl (sym first ∙ same)
        | inr behind ↦ inr behind
      ];
    },
  )
  | inr other ↦ elim (member_cases n ns w has) [
    | inl first ↦ absurd (other first)
    | inr behind ↦
        let rest = without ns w behind in (
          n ∷ rest.0,
          record {
            size = ap suc rest.1.size;
            others = λ v among. elim (member_cases n ns v among) [
              | inl first ↦ inr (subst (Contains (n ∷ rest.0)) first (head_member n rest.0))
              | inr later ↦ elim (rest.1.others v later) [
                | inl is ↦ inl is
                | inr still ↦ inr (tail_member n rest.0 v still)
              ]
            ];
          },
        )
  ]
]

module _ (g : GraphOf) (is : IsGraph g) (root : ℕ) (root_is : IsVertex g.vertices root) where
  -- vertices that are met, all of them joined to the root, and those that are left
  record AreMet (met left : List ℕ) : Type 0 where
    root_met : Contains met root
    joined : (w : ℕ) → Contains met w → IsJoined g root w
    all : (w : ℕ) → IsVertex g.vertices w → Contains met w ⊎ Contains left w

  -- an edge leads from a vertex that is met to this one
  abbrev LeadsIn : List ℕ → ℕ → Type 0
  LeadsIn met w = (a : ℕ) × Contains met a
      × ((e : Edge) × Contains g.edges e × ((touches e a ≡ true) × (other_end e a ≡ w)))

  -- it is found whether one does
  leads_in : (met : List ℕ) (w : ℕ) → IsDecided (LeadsIn met w)
  leads_in met w = elim (some_member
      (λ a. (e : Edge) × Contains g.edges e × ((touches e a ≡ true) × (other_end e a ≡ w))) met
      (λ a. some_edge a)) [
        | inl (a, has, leads) ↦ inl (a, has, leads)
        | inr none ↦ inr (λ (a, has, leads). none a has leads)
      ]
    where
      leads : (a : ℕ) (e : Edge) → IsDecided ((touches e a ≡ true) × (other_end e a ≡ w))
      leads a e = elim (cases_Bool (touches e a)) [
        | inr not ↦ inr (λ h. false≢true (sym not ∙ h.0))
        | inl touch ↦ elim (cases_eq (other_end e a) w) [
          | inl to ↦ inl (touch, to)
          | inr other ↦ inr (λ h. other h.1)
        ]
      ]

      some_edge : (a : ℕ)
          → IsDecided ((e : Edge) × Contains g.edges e × ((touches e a ≡ true) × (other_end e a ≡ w)))
      some_edge a = elim (some_member (λ e. (touches e a ≡ true) × (other_end e a ≡ w)) g.edges (leads a)) [
        | inl (e, has, to) ↦ inl (e, has, to)
        | inr none ↦ inr (λ (e, has, to). none e has to)
      ]

  -- the vertices that are joined to the root
  record AreJoined (met : List ℕ) : Type 0 where
    joined : (w : ℕ) → Contains met w → IsJoined g root w
    all : (w : ℕ) → IsJoined g root w → Contains met w

  -- where no edge leads to a vertex that is left, each that is joined is met
  met_along : (met left : List ℕ) → AreMet met left → ((w : ℕ) → Contains left w → LeadsIn met w → ⊥) → (a : ℕ)
      → Contains met a → (path : List Edge) (b : ℕ) → IsPath g a path b → Contains met b
  met_along met left are none a here [] b same = subst (Contains met) same here
  met_along met left are none a here (e ∷ path) b (has, touch, on) =
      let w : ℕ = other_end e a in
      let vertex = other_end_vertex g.vertices a e (All-contains (IsEdge g.vertices) g.edges e is.edges_join has) in
      elim (are.all w vertex) [
        | inl met_too ↦ met_along met left are none w met_too path b on
        | inr left_still ↦ absurd (none w left_still (a, here, (e, has, (touch, refl))))
      ]

  -- fewer vertices are left
  record Grows (left : List ℕ) : Type 0 where
    met : List ℕ
    rest : List ℕ
    fewer : length rest < length left
    are : AreMet met rest

  -- one more vertex is met, or all that are joined are
  step : (met left : List ℕ) → AreMet met left → ((all : List ℕ) × AreJoined all) ⊎ Grows left
  step met left are = elim (some_member (LeadsIn met) left (leads_in met)) [
    | inr none ↦ inl (
      met,
      record {
        joined = are.joined;
        all = λ w path. met_along met left are none root are.root_met path.0 w path.1;
      },
    )
    | inl (w, has, (a, here, (e, among, (touch, to)))) ↦
        let rest = without left w has in
        let size = rest.1.size in
        inr (record {
          met = w ∷ met;
          rest = rest.0;
          fewer = omega (arith, size);
          are = record {
            root_met = tail_member w met root are.root_met;
            joined = λ v has'. elim (member_cases w met v has') [
              | inl same ↦ subst (IsJoined g root) (to ∙ same) (joined_more g root a e (are.joined a here) among touch)
              | inr old ↦ are.joined v old
            ];
            all = λ v vertex. elim (are.all v vertex) [
              | inl old ↦ inl (tail_member w met v old)
              | inr left_still ↦ elim (rest.1.others v left_still) [
                | inl same ↦ inl (subst (Contains (w ∷ met)) (sym same) (head_member w met))
                | inr still ↦ inr still
              ]
            ];
          };
        })
  ]

  -- with at most n vertices left
  grown : (n : ℕ) (met left : List ℕ) → length left ≤ n → AreMet met left → (all : List ℕ) × AreJoined all
  grown zero met left few are = elim (step met left are) [
    | inl done ↦ done
    | inr g ↦ absurd (let fewer = g.fewer in omega (arith, few, fewer))
  ]
  grown (suc n) met left few are = elim (step met left are) [
    | inl done ↦ done
    | inr g ↦ grown n g.met g.rest (let fewer = g.fewer in omega (arith, few, fewer)) g.are
  ]

  -- so they are found
  all_joined : (all : List ℕ) × AreJoined all
  all_joined =
      let left : List ℕ = range_with_len 0 (g.vertices + 1) in
      grown (length left) (root ∷ []) left (omega arith) (record {
        root_met = head_member root [];
        joined = λ w has. elim (member_cases root [] w has) [
          | inl same ↦ ([], same)
          | inr none ↦ absurd (none_in w none)
        ];
        all = λ w vertex. inr (in_range (g.vertices + 1) w (let last = vertex.last in omega (arith, last)));
      })

  -- whether a vertex is cut off
  decide_cut : (w : ℕ) → IsDecided (IsCutOff g root w)
  decide_cut w = elim (decide_vertex g.vertices w) [
    | inr none ↦ inr (λ cut. none cut.vertex)
    | inl vertex ↦ elim (has_number all_joined.0 w) [
      | inl has ↦ inr (λ cut. cut.apart (all_joined.1.joined w has))
      | inr none ↦ inl (record { vertex = vertex; apart = λ path. none (all_joined.1.all w path) })
    ]
  ]

  -- the least vertex that is, or each is joined
  pub cut_or_connected : ((w : ℕ) × IsLeast (IsCutOff g root) w) ⊎ IsConnected g root
  cut_or_connected = elim (none_least (IsCutOff g root) (g.vertices + 1) decide_cut
      (λ w cut. let last = cut.vertex.last in omega (arith, last))) [
        | inl found ↦ inl found
        | inr none ↦ inr (λ w vertex. elim (has_number all_joined.0 w) [
          | inl has ↦ all_joined.1.joined w has
          | inr out ↦ absurd (none w (record { vertex = vertex; apart = λ path. out (all_joined.1.all w path) }))
        ])
      ]
