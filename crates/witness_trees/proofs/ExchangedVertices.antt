-- The vertices of a log in which two neighbours that share no variable are exchanged. Of two such events neither is
-- among the vertices that the other may join. So from the last record back they join at the same depths in either
-- order, and only the order of the vertices changes. The root's neighbour, if it is exchanged with the root, shares no
-- variable with the only vertex there, and so is left out.
use Rattle.std.proofs.Common.{inl, inr, ℕ, ◌+◌, ◌<◌, List, [], ◌∷◌, ◌++◌, length, refl, sym, subst, arith, Contains}
use Rattle.std.proofs.lemmas.List.{length-append}
use Rattle.pop_model.specs.Families.{Event}
use Rattle.pop_model.specs.Extremal.{Share}
use Rattle.pop_model.specs.Logs.{LogRecord}
use Rattle.pop_model.proofs.Sharing.{Share-sym}
use Rattle.pop_model.proofs.Rising.{member_cases, tail_member, AreMembers, only_member}
use Rattle.pop_log.proofs.Exchanges.{cons_members, first_two}
use Rattle.witness_trees.specs.Vertices.{Vertex, at_depth, Meets, IsDeepest, MeetsNone, IsJoined, AreVertices}

-- a list has its own members
same_members : {X : Type 0} (xs : List X) → AreMembers xs xs
same_members xs z among = among

-- the depth at which an event joins depends on the vertices there are, and not on their order
deepest_from : (vs ws : List Vertex) → AreMembers vs ws → AreMembers ws vs → (e : Event) (d : ℕ) → IsDeepest vs e d
    → IsDeepest ws e d
deepest_from vs ws there back e d is =
    record {
      some = (is.some.0, there is.some.0 is.some.1, is.some.2, is.some.3);
      greatest = λ v among meets. is.greatest v (back v among) meets;
    }

-- an event joins these vertices, which then are those of another list
pub record JoinsAlike (ws : List Vertex) (e : Event) (joined : List Vertex) : Type 0 where
  pub alike : List Vertex
  pub joins : IsJoined ws e alike
  pub there : AreMembers joined alike
  pub back : AreMembers alike joined

-- so it joins lists with the same members alike
joins_from : (vs ws : List Vertex) → AreMembers vs ws → AreMembers ws vs → (e : Event) (joined : List Vertex)
    → IsJoined vs e joined → JoinsAlike ws e joined
joins_from vs ws there back e joined (inl (d, deepest, is)) =
    let v = at_depth (d + 1) e in
    record {
      alike = v ∷ ws;
      joins = inl (d, deepest_from vs ws there back e d deepest, refl);
      there = subst (λ l. AreMembers l (v ∷ ws)) (sym is) (cons_members v vs ws there);
      back = subst (AreMembers (v ∷ ws)) (sym is) (cons_members v ws vs back);
    }
joins_from vs ws there back e joined (inr (meets_none, is)) =
    record {
      alike = ws;
      joins = inr (λ v among meets. meets_none v (back v among) meets, refl);
      there = subst (λ l. AreMembers l ws) (sym is) there;
      back = subst (AreMembers ws) (sym is) back;
    }

-- a vertex that the event doesn't meet has no say in its depth
deepest_with : (x : Vertex) (vs : List Vertex) (e : Event) (d : ℕ) → (Meets x e → ⊥) → IsDeepest vs e d
    → IsDeepest (x ∷ vs) e d
deepest_with x vs e d apart is =
    record {
      some = (is.some.0, tail_member x vs is.some.0 is.some.1, is.some.2, is.some.3);
      greatest = λ v among meets. elim (member_cases x vs v among) [
        | inl same ↦ absurd (apart (subst (λ w. Meets w e) (sym same) meets))
        | inr later ↦ is.greatest v later meets
      ];
    }

-- nor where it is taken away
deepest_without : (x : Vertex) (vs : List Vertex) (e : Event) (d : ℕ) → (Meets x e → ⊥) → IsDeepest (x ∷ vs) e d
    → IsDeepest vs e d
deepest_without x vs e d apart is =
    record {
      some = elim (member_cases x vs is.some.0 is.some.1) [
        | inl same ↦ absurd (apart (subst (λ w. Meets w e) (sym same) is.some.3))
        | inr later ↦ (is.some.0, later, is.some.2, is.some.3)
      ];
      greatest = λ v among meets. is.greatest v (tail_member x vs v among) meets;
    }

-- nor in whether it meets none
none_with : (x : Vertex) (vs : List Vertex) (e : Event) → (Meets x e → ⊥) → MeetsNone vs e → MeetsNone (x ∷ vs) e
none_with x vs e apart is v among meets = elim (member_cases x vs v among) [
  | inl same ↦ apart (subst (λ w. Meets w e) (sym same) meets)
  | inr later ↦ is v later meets
]

-- an event that meets none of some vertices meets none of fewer
none_without : (x : Vertex) (vs : List Vertex) (e : Event) → MeetsNone (x ∷ vs) e → MeetsNone vs e
none_without x vs e is v among meets = is v (tail_member x vs v among) meets

-- two events join one after the other, and the vertices then are those of another list
record BothJoin (vs : List Vertex) (first second : Event) (joined : List Vertex) : Type 0 where
  between : List Vertex
  alike : List Vertex
  first_joins : IsJoined vs first between
  second_joins : IsJoined between second alike
  there : AreMembers joined alike
  back : AreMembers alike joined

-- two events that share no variable join in either order
both_join : (vs mid joined : List Vertex) (e f : Event) → (Share e.cube f.cube → ⊥) → IsJoined vs e mid
    → IsJoined mid f joined → BothJoin vs f e joined
both_join vs mid joined e f apart (inl (d, deep, is)) joins =
    let v = at_depth (d + 1) e in
    either v (subst (λ l. IsJoined l f joined) is joins)
  where
    either : (v : Vertex) → IsJoined (at_depth (d + 1) e ∷ vs) f joined → BothJoin vs f e joined
    either v (inl (k, deep', is')) =
        let w = at_depth (k + 1) f in
        record {
          between = w ∷ vs;
          alike = at_depth (d + 1) e ∷ w ∷ vs;
          first_joins = inl (k, deepest_without (at_depth (d + 1) e) vs f k apart deep', refl);
          second_joins = inl (d, deepest_with w vs e d (λ h. apart (Share-sym f.cube e.cube h)) deep, refl);
          there = subst (λ l. AreMembers l (at_depth (d + 1) e ∷ w ∷ vs)) (sym is') (first_two w (at_depth (d + 1) e) vs);
          back = subst (AreMembers (at_depth (d + 1) e ∷ w ∷ vs)) (sym is') (first_two (at_depth (d + 1) e) w vs);
        }
    either v (inr (none', is')) =
        record {
          between = vs;
          alike = at_depth (d + 1) e ∷ vs;
          first_joins = inr (none_without (at_depth (d + 1) e) vs f none', refl);
          second_joins = inl (d, deep, refl);
          there = subst (λ l. AreMembers l (at_depth (d + 1) e ∷ vs)) (sym is') (same_members (at_depth (d + 1) e ∷ vs));
          back = subst (AreMembers (at_depth (d + 1) e ∷ vs)) (sym is') (same_members (at_depth (d + 1) e ∷ vs));
        }
both_join vs mid joined e f apart (inr (none_e, is)) joins =
    either (subst (λ l. IsJoined l f joined) is joins)
  where
    either : IsJoined vs f joined → BothJoin vs f e joined
    either (inl (k, deep', is')) =
        let w = at_depth (k + 1) f in
        record {
          between = w ∷ vs;
          alike = w ∷ vs;
          first_joins = inl (k, deep', refl);
          second_joins = inr (none_with w vs e (λ h. apart (Share-sym f.cube e.cube h)) none_e, refl);
          there = subst (λ l. AreMembers l (w ∷ vs)) (sym is') (same_members (w ∷ vs));
          back = subst (AreMembers (w ∷ vs)) (sym is') (same_members (w ∷ vs));
        }
    either (inr (none', is')) =
        record {
          between = vs;
          alike = vs;
          first_joins = inr (none', refl);
          second_joins = inr (none_e, refl);
          there = subst (λ l. AreMembers l vs) (sym is') (same_members vs);
          back = subst (AreMembers vs) (sym is') (same_members vs);
        }

-- the vertices of a log with one record more in front: it joins those of the records behind it
Behind : LogRecord → List LogRecord → List Vertex → Type 0
Behind x log vs = (later : List Vertex) × AreVertices log later × IsJoined later x.event vs

-- such a log's vertices are made so
vertices_open : (x : LogRecord) (log : List LogRecord) (vs : List Vertex) → 0 < length log → AreVertices (x ∷ log) vs
    → Behind x log vs
unfolding Behind
vertices_open x [] vs some are = absurd (omega (arith, some))
vertices_open x (q ∷ log) vs some are = are

-- and what is made so are its vertices
vertices_shut : (x : LogRecord) (log : List LogRecord) (vs : List Vertex) → 0 < length log → Behind x log vs
    → AreVertices (x ∷ log) vs
unfolding Behind
vertices_shut x [] vs some are = absurd (omega (arith, some))
vertices_shut x (q ∷ log) vs some are = are

-- the vertices of this log are those of another list
pub record HasAlike (log : List LogRecord) (vs : List Vertex) : Type 0 where
  pub alike : List Vertex
  pub vertices : AreVertices log alike
  pub there : AreMembers vs alike
  pub back : AreMembers alike vs

-- a log with a record has one behind others, too
pub some_behind : (front log : List LogRecord) → 0 < length log → 0 < length (front ++ log)
some_behind front log some = omega (arith, some, length-append front log)

-- logs whose vertices are alike have alike vertices behind the same records
pub alike_behind : (front log other : List LogRecord) → 0 < length log → 0 < length other
    → ((vs : List Vertex) → AreVertices log vs → HasAlike other vs) → (vs : List Vertex)
    → AreVertices (front ++ log) vs → HasAlike (front ++ other) vs
unfolding Behind
alike_behind [] log other some some' each vs are = each vs are
alike_behind (x ∷ front) log other some some' each vs are =
    let parts = vertices_open x (front ++ log) vs (some_behind front log some) are in
    let rest = alike_behind front log other some some' each parts.0 parts.1 in
    let joins = joins_from parts.0 rest.alike rest.there rest.back x.event vs parts.2 in
    record {
      alike = joins.alike;
      vertices = vertices_shut x (front ++ other) joins.alike (some_behind front other some')
          (rest.alike, rest.vertices, joins.joins);
      there = joins.there;
      back = joins.back;
    }

-- two neighbours at the front, before others
pub exchanged_front : (r q : LogRecord) (log : List LogRecord) → 0 < length log
    → (Share r.event.cube q.event.cube → ⊥) → (vs : List Vertex) → AreVertices (r ∷ q ∷ log) vs
    → HasAlike (q ∷ r ∷ log) vs
unfolding Behind
exchanged_front r q log some apart vs (mid, are, joins) =
    let parts = vertices_open q log mid some are in
    let both = both_join parts.0 mid vs q.event r.event (λ h. apart (Share-sym q.event.cube r.event.cube h)) parts.2 joins in
    record {
      alike = both.alike;
      vertices = (both.between, vertices_shut r log both.between some (parts.0, parts.1, both.first_joins), both.second_joins);
      there = both.there;
      back = both.back;
    }

-- the root's neighbour is left out
pub added_front : (r q : LogRecord) → (Share r.event.cube q.event.cube → ⊥) → (vs : List Vertex)
    → AreVertices (r ∷ []) vs → HasAlike (q ∷ r ∷ []) vs
added_front r q apart vs are =
    record {
      alike = vs;
      vertices = (
        vs,
        are,
        inr (
          λ v among meets.
              let is = only_member (at_depth 0 r.event) v (subst (λ l. Contains l v) are among) in
              apart (subst (λ (w : Vertex). Share w.label.cube q.event.cube) (sym is) meets),
          refl,
        ),
      );
      there = same_members vs;
      back = same_members vs;
    }

-- also where it stood before the root's record and stands behind it
pub dropped_front : (r q : LogRecord) → (Share r.event.cube q.event.cube → ⊥) → (vs : List Vertex)
    → AreVertices (r ∷ q ∷ []) vs → HasAlike (q ∷ []) vs
dropped_front r q apart vs (later, are, inl (d, deepest, is)) =
    let v = deepest.some.0 in
    let same = only_member (at_depth 0 q.event) v (subst (λ l. Contains l v) are deepest.some.1) in
    let meets = subst (λ (w : Vertex). Share w.label.cube r.event.cube) (sym same) deepest.some.3 in
    absurd (apart (Share-sym q.event.cube r.event.cube meets))
dropped_front r q apart vs (later, are, inr (meets_none, is)) =
    record {
      alike = later;
      vertices = are;
      there = subst (λ l. AreMembers l later) (sym is) (same_members later);
      back = subst (AreMembers later) (sym is) (same_members later);
    }
