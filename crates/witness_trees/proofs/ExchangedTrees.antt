-- If two neighbours of a log that share no variable are exchanged, no record's tree changes. The vertices are the same
-- in another order, on which no parent and no preorder depends.
use Rattle.std.proofs.Common.{◌≡◌, ◌≢◌, ℕ, zero, suc, ◌+◌, ◌<◌, cond, eqb, List, [], ◌∷◌, ◌++◌, length, take, drop, Some, slice_get, refl, sym, ap, subst, ◌∙◌, arith, eq-eqb, ne_eqb}
use Rattle.std.proofs.lemmas.List.{append_assoc, length-append, length-take-le, take_at, take-append-drop, drop_more}
use Rattle.std.proofs.lemmas.Option.{get_or_from_slice_get, slice_get_within}
use Rattle.pop_model.specs.Extremal.{Share}
use Rattle.pop_model.specs.Logs.{LogRecord}
use Rattle.pop_model.proofs.Rising.{AreMembers}
use Rattle.pop_log.proofs.Fronts.{take_push}
use Rattle.witness_trees.specs.Vertices.{Vertex, at_depth, AreVertices}
use Rattle.witness_trees.specs.Trees.{IsParent, AreChildren, InPreorder, IsTree}
use Rattle.witness_trees.specs.Trees.InPreorder.{none, more}
use Rattle.witness_trees.specs.Laws.{exchanged_place}
use Rattle.witness_trees.proofs.ExchangedVertices.{HasAlike, some_behind, alike_behind, exchanged_front, added_front, dropped_front}

-- a parent doesn't depend on the order of the vertices
parent_from : (vs ws : List Vertex) → AreMembers ws vs → (parent v : Vertex) → IsParent vs parent v
    → IsParent ws parent v
parent_from vs ws back parent v is =
    record {
      above = is.above;
      meets = is.meets;
      least = λ other among. is.least other (back other among);
    }

-- nor do children
children_from : (vs ws : List Vertex) → AreMembers vs ws → AreMembers ws vs → (parent : Vertex) (children : List Vertex)
    → AreChildren vs parent children → AreChildren ws parent children
children_from vs ws there back parent children are =
    record {
      exact = λ v. (
        λ h. let is = (are.exact v).0 h in (there v is.0, parent_from vs ws back parent v is.1),
        λ h. (are.exact v).1 (back v h.0, parent_from ws vs there parent v h.1),
      );
      rising = are.rising;
    }

-- nor does a preorder
preorder_from : (vs ws siblings list : List Vertex) → AreMembers vs ws → AreMembers ws vs → InPreorder vs siblings list
    → InPreorder ws siblings list
preorder_from vs ws [] [] there back none = none
preorder_from vs ws siblings list there back (more v rest children below after are under behind) =
    more v rest children below after (children_from vs ws there back v children are)
    (preorder_from vs ws children below there back under) (preorder_from vs ws rest after there back behind)

-- the tree of a record behind these
pub record IsTreeBehind (before : List LogRecord) (last : LogRecord) (tree : List Vertex) : Type 0 where
  pub vs : List Vertex
  pub vertices : AreVertices (before ++ last ∷ []) vs
  pub preorder : InPreorder vs (at_depth 0 last.event ∷ []) tree

-- logs with alike vertices have one tree
tree_alike : (before other : List LogRecord) (last : LogRecord) (tree : List Vertex)
    → ((vs : List Vertex) → AreVertices (before ++ last ∷ []) vs → HasAlike (other ++ last ∷ []) vs)
    → IsTreeBehind before last tree → IsTreeBehind other last tree
tree_alike before other last tree each is =
    let new = each is.vs is.vertices in
    record {
      vs = new.alike;
      vertices = new.vertices;
      preorder = preorder_from is.vs new.alike (at_depth 0 last.event ∷ []) tree new.there new.back is.preorder;
    }

-- a record at its place in a log, with its tree
pub record IsTreeIn (log : List LogRecord) (t : ℕ) (last : LogRecord) (tree : List Vertex) : Type 0 where
  pub before : List LogRecord
  pub after : List LogRecord
  pub is : log ≡ before ++ last ∷ after
  pub place : length before ≡ t
  pub tree_is : IsTreeBehind before last tree

-- the tree of a record, taken apart
pub tree_opened : (log : List LogRecord) (t : ℕ) (tree : List Vertex) (is : IsTree log t tree)
    → IsTreeIn log t is.last tree
tree_opened log t tree is =
    let within : t < length log = slice_get_within log t is.last is.last_is in
    record {
      before = take t log;
      after = drop (t + 1) log;
      is = sym (take-append-drop t log) ∙ ap (λ l. take t log ++ l) (drop_more log t is.last within
          ∙ ap (λ (q : LogRecord). q ∷ drop (t + 1) log) (get_or_from_slice_get log t is.last is.last is.last_is));
      place = length-take-le t log (omega (arith, within));
      tree_is = record {
        vs = is.vs;
        vertices = subst (λ l. AreVertices l is.vs) (take_push log t is.last is.last_is) is.vertices;
        preorder = is.preorder;
      };
    }

-- the record between others stands at its place
middle : (before after : List LogRecord) (last : LogRecord) (t : ℕ) → length before ≡ t
    → slice_get (before ++ last ∷ after) t ≡ Some last
middle [] after last zero size = refl
middle [] after last (suc t) size = absurd (omega (arith, size))
middle (x ∷ before) after last zero size = absurd (omega (arith, size))
middle (x ∷ before) after last (suc t) size = middle before after last t (omega (arith, size))

-- and so it is read there
pub place_read : (log : List LogRecord) (t : ℕ) (last : LogRecord) (tree : List Vertex) → IsTreeIn log t last tree
    → slice_get log t ≡ Some last
place_read log t last tree at =
    subst (λ l. slice_get l t ≡ Some last) (sym at.is) (middle at.before at.after last t at.place)

-- put together again
pub tree_shut : (log : List LogRecord) (t : ℕ) (last : LogRecord) (tree : List Vertex) → IsTreeIn log t last tree
    → IsTree log t tree
tree_shut log t last tree at =
    let whole = at.before ++ last ∷ [] in
    let size : length whole ≡ t + 1 = let count = length-append at.before (last ∷ []) in omega (arith, count, at.place) in
    let front : take (t + 1) log ≡ whole =
    ap (take (t + 1)) (at.is ∙ sym (append_assoc at.before (last ∷ []) at.after)) ∙ take_at whole at.after (t + 1) size in
    record {
      last = last;
      vs = at.tree_is.vs;
      last_is = place_read log t last tree at;
      vertices = subst (λ l. AreVertices l at.tree_is.vs) (sym front) at.tree_is.vertices;
      preorder = at.tree_is.preorder;
    }

-- where a record stands in a log with two neighbours: before them, it is one of them, or behind them
data Stands (front back : List LogRecord) (r q : LogRecord) (before : List LogRecord) (last : LogRecord)
    (after : List LogRecord) : Type 0 where
  stands_ahead : (mid : List LogRecord) → front ≡ before ++ last ∷ mid → Stands front back r q before last after
  is_first : before ≡ front → last ≡ r → Stands front back r q before last after
  is_second : before ≡ front ++ r ∷ [] → last ≡ q → after ≡ back → Stands front back r q before last after
  stands_beyond : (mid : List LogRecord) → before ≡ front ++ r ∷ q ∷ mid → back ≡ mid ++ last ∷ after
      → Stands front back r q before last after

-- there is no other place
stands : (front back : List LogRecord) (r q : LogRecord) (before : List LogRecord) (last : LogRecord)
    (after : List LogRecord) → front ++ r ∷ q ∷ back ≡ before ++ last ∷ after
    → Stands front back r q before last after
stands [] back r q [] last after is = let h : r ≡ last = cc in is_first refl (sym h)
stands [] back r q (x ∷ []) last after is =
    let a : r ≡ x = cc in
    let b : q ≡ last = cc in
    let c : back ≡ after = cc in
    is_second (ap (λ (z : LogRecord). z ∷ []) (sym a)) (sym b) (sym c)
stands [] back r q (x ∷ y ∷ mid) last after is =
    let a : r ≡ x = cc in
    let b : q ≡ y = cc in
    let c : back ≡ mid ++ last ∷ after = cc in
    stands_beyond mid (ap (λ (z : LogRecord). z ∷ y ∷ mid) (sym a) ∙ ap (λ (z : LogRecord). r ∷ z ∷ mid) (sym b)) c
stands (x ∷ front) back r q [] last after is =
    let h : x ≡ last = cc in
    stands_ahead front (ap (λ (z : LogRecord). z ∷ front) h)
stands (x ∷ front) back r q (y ∷ before) last after is =
    let h : x ≡ y = cc in
    let t : front ++ r ∷ q ∷ back ≡ before ++ last ∷ after = cc in
    elim (stands front back r q before last after t) [
      | stands_ahead mid a ↦
          stands_ahead mid (ap (λ (l : List LogRecord). x ∷ l) a ∙ ap (λ (z : LogRecord). z ∷ before ++ last ∷ mid) h)
      | is_first a b ↦ is_first (ap (λ (z : LogRecord). z ∷ before) (sym h) ∙ ap (λ (l : List LogRecord). x ∷ l) a) b
      | is_second a b c ↦
          is_second (ap (λ (z : LogRecord). z ∷ before) (sym h) ∙ ap (λ (l : List LogRecord). x ∷ l) a) b c
      | stands_beyond mid a b ↦
          stands_beyond mid (ap (λ (z : LogRecord). z ∷ before) (sym h) ∙ ap (λ (l : List LogRecord). x ∷ l) a) b
    ]

-- the first of the two goes to the second place
at_first : (n t : ℕ) → t ≡ n → exchanged_place n t ≡ n + 1
at_first n t is = ap (λ b. cond b (n + 1) (cond (eqb t (n + 1)) n t)) (eq-eqb t n is)

-- the second to the first
at_second : (n t : ℕ) → t ≡ n + 1 → exchanged_place n t ≡ n
at_second n t is =
    ap (λ b. cond b (n + 1) (cond (eqb t (n + 1)) n t)) (ne_eqb t n (λ h. absurd (omega (arith, is, h))))
    ∙ ap (λ b. cond b n t) (eq-eqb t (n + 1) is)

-- and each other stays
at_other : (n t : ℕ) → t ≢ n → t ≢ n + 1 → exchanged_place n t ≡ t
at_other n t first second =
    ap (λ b. cond b (n + 1) (cond (eqb t (n + 1)) n t)) (ne_eqb t n first)
    ∙ ap (λ b. cond b n t) (ne_eqb t (n + 1) second)

-- the record stands in the log with the neighbours exchanged, with the same tree
module _ (front back : List LogRecord) (r q : LogRecord) (apart : Share r.event.cube q.event.cube → ⊥) (t : ℕ)
    (last : LogRecord) (tree : List Vertex) (at : IsTreeIn (front ++ r ∷ q ∷ back) t last tree) where
  -- a record before them keeps its tree, which has nothing of them
  from_ahead : (mid : List LogRecord) → front ≡ at.before ++ last ∷ mid
      → IsTreeIn (front ++ q ∷ r ∷ back) (exchanged_place (length front) t) last tree
  from_ahead mid is =
      let size : length front ≡ length at.before + length (last ∷ mid) = ap length is ∙ length-append at.before (last ∷ mid) in
      let some : 0 < length (last ∷ mid) = omega arith in
      record {
        before = at.before;
        after = mid ++ q ∷ r ∷ back;
        is = ap (λ l. l ++ q ∷ r ∷ back) is ∙ append_assoc at.before (last ∷ mid) (q ∷ r ∷ back);
        place = let stays = at_other (length front) t (λ h. absurd (omega (arith, size, some, at.place, h)))
            (λ h. absurd (omega (arith, size, some, at.place, h))) in at.place ∙ sym stays;
        tree_is = at.tree_is;
      }

  -- the first gets the second before it, which its tree leaves out
  from_first : at.before ≡ front → last ≡ r
      → IsTreeIn (front ++ q ∷ r ∷ back) (exchanged_place (length front) t) last tree
  from_first is same =
      let size : length (front ++ q ∷ []) ≡ length front + 1 = length-append front (q ∷ []) in
      let here : t ≡ length front = sym at.place ∙ ap length is in
      record {
        before = front ++ q ∷ [];
        after = back;
        is = ap (λ (x : LogRecord). front ++ q ∷ x ∷ back) (sym same) ∙ sym (append_assoc front (q ∷ []) (last ∷ back));
        place = size ∙ sym (at_first (length front) t here);
        tree_is = tree_alike front (front ++ q ∷ []) last tree
            (λ vs are.
            subst (λ l. HasAlike l vs) (sym (append_assoc front (q ∷ []) (last ∷ [])))
            (alike_behind front (last ∷ []) (q ∷ last ∷ []) (omega arith) (omega arith)
            (added_front last q (subst (λ (x : LogRecord). Share x.event.cube q.event.cube
            → ⊥) (sym same) apart)) vs are))
            (subst (λ l. IsTreeBehind l last tree) is at.tree_is);
      }

  -- the second loses the first, which its tree left out
  from_second : at.before ≡ front ++ r ∷ [] → last ≡ q → at.after ≡ back
      → IsTreeIn (front ++ q ∷ r ∷ back) (exchanged_place (length front) t) last tree
  from_second is same rest =
      let size : length (front ++ r ∷ []) ≡ length front + 1 = length-append front (r ∷ []) in
      let here : t ≡ length front + 1 = sym at.place ∙ ap length is ∙ size in
      record {
        before = front;
        after = r ∷ back;
        is = ap (λ (x : LogRecord). front ++ x ∷ r ∷ back) (sym same);
        place = sym (at_second (length front) t here);
        tree_is = tree_alike (front ++ r ∷ []) front last tree
            (λ vs are.
            alike_behind front (r ∷ last ∷ []) (last ∷ []) (omega arith) (omega arith)
            (dropped_front r last (subst (λ (x : LogRecord). Share r.event.cube x.event.cube → ⊥) (sym same) apart)) vs
            (subst (λ l. AreVertices l vs) (append_assoc front (r ∷ []) (last ∷ [])) are))
            (subst (λ l. IsTreeBehind l last tree) is at.tree_is);
      }

  -- the tree of a record behind them has alike vertices
  from_beyond : (mid : List LogRecord) → at.before ≡ front ++ r ∷ q ∷ mid → back ≡ mid ++ last ∷ at.after
      → IsTreeIn (front ++ q ∷ r ∷ back) (exchanged_place (length front) t) last tree
  from_beyond mid is rest =
      let size : length (front ++ r ∷ q ∷ mid) ≡ length front + length (r ∷ q ∷ mid) = length-append front (r ∷ q ∷ mid) in
      let size' : length (front ++ q ∷ r ∷ mid) ≡ length front + length (q ∷ r ∷ mid) = length-append front (q ∷ r ∷ mid) in
      let here : t ≡ length (front ++ r ∷ q ∷ mid) = sym at.place ∙ ap length is in
      let two : length (r ∷ q ∷ mid) ≡ length mid + 2 = omega arith in
      let two' : length (q ∷ r ∷ mid) ≡ length mid + 2 = omega arith in
      record {
        before = front ++ q ∷ r ∷ mid;
        after = at.after;
        is = ap (λ l. front ++ q ∷ r ∷ l) rest ∙ sym (append_assoc front (q ∷ r ∷ mid) (last ∷ at.after));
        place = let stays = at_other (length front) t (λ h. absurd (omega (arith, size, two, here, h)))
            (λ h. absurd (omega (arith, size, two, here, h))) in omega (arith, stays, size, size', here, two, two');
        tree_is = tree_alike (front ++ r ∷ q ∷ mid) (front ++ q ∷ r ∷ mid) last tree
            (λ vs are.
            subst (λ l. HasAlike l vs) (sym (append_assoc front (q ∷ r ∷ mid) (last ∷ [])))
            (alike_behind front (r ∷ q ∷ mid ++ last ∷ []) (q ∷ r ∷ mid ++ last ∷ []) (omega arith) (omega arith)
            (exchanged_front r q (mid ++ last ∷ []) (some_behind mid (last ∷ []) (omega arith)) apart) vs
            (subst (λ l. AreVertices l vs) (append_assoc front (r ∷ q ∷ mid) (last ∷ [])) are)))
            (subst (λ l. IsTreeBehind l last tree) is at.tree_is);
      }

  -- wherever it stands
  pub tree_moved : IsTreeIn (front ++ q ∷ r ∷ back) (exchanged_place (length front) t) last tree
  tree_moved = elim (stands front back r q at.before last at.after at.is) [
    | stands_ahead mid is ↦ from_ahead mid is
    | is_first is same ↦ from_first is same
    | is_second is same rest ↦ from_second is same rest
    | stands_beyond mid is rest ↦ from_beyond mid is rest
  ]

-- an exchange keeps each record's tree
pub tree_exchanged : (front back : List LogRecord) (r q : LogRecord) → (Share r.event.cube q.event.cube → ⊥) → (t : ℕ)
    (tree : List Vertex) → IsTree (front ++ r ∷ q ∷ back) t tree
    → IsTree (front ++ q ∷ r ∷ back) (exchanged_place (length front) t) tree
tree_exchanged front back r q apart t tree is =
    tree_shut (front ++ q ∷ r ∷ back) (exchanged_place (length front) t) is.last tree
    (tree_moved front back r q apart t is.last tree (tree_opened (front ++ r ∷ q ∷ back) t tree is))
