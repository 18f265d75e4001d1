-- A record of a log has one witness tree. Its vertices are determined one after another, from the last record to the
-- first. The children of a vertex increase strictly, so their members determine them. So there is only one preorder.
use Rattle.std.proofs.Common.{inl, inr, ◌≡◌, ℕ, ◌+◌, List, [], ◌∷◌, ◌++◌, take, refl, sym, ap, ap₂, subst, ◌∙◌, arith}
use Rattle.pop_model.specs.Families.{Event}
use Rattle.pop_model.specs.Logs.{LogRecord}
use Rattle.pop_log.proofs.InOrder.{same_in_order}
use Rattle.witness_trees.specs.Vertices.{Vertex, IsJoined, AreVertices, at_depth}
use Rattle.witness_trees.specs.Trees.{IsBelow, AreChildren, InPreorder, IsTree}
use Rattle.witness_trees.specs.Trees.InPreorder.{none, more}
use Rattle.witness_trees.proofs.BelowLemmas.{Below-same, Below-trans}

-- the label of the one is below that of the other
abbrev Before : Vertex → Vertex → Type 0
Before v w = IsBelow v.label.cube w.label.cube

-- of two labels one alone is below the other
before_one_way : (v w : Vertex) → Before v w → Before w v → ⊥
before_one_way v w up down = Below-same v.label.cube (Below-trans v.label.cube w.label.cube v.label.cube up down)

-- a vertex has one list of children
one_children : (all : List Vertex) (v : Vertex) (cs ds : List Vertex) → AreChildren all v cs → AreChildren all v ds
    → cs ≡ ds
one_children all v cs ds is is' =
    same_in_order Before before_one_way cs ds is.rising is'.rising (λ w has. (is'.exact w).1 ((is.exact w).0 has))
    (λ w has. (is.exact w).1 ((is'.exact w).0 has))

-- what a preorder of siblings is made of
record IsOpened (all : List Vertex) (v : Vertex) (siblings list : List Vertex) : Type 0 where
  children : List Vertex
  below : List Vertex
  after : List Vertex
  are : AreChildren all v children
  under : InPreorder all children below
  behind : InPreorder all siblings after
  list_is : list ≡ v ∷ below ++ after

-- a preorder is made of the first sibling, what stands below it, and what the others give
opened : (all : List Vertex) (v : Vertex) (siblings list : List Vertex) → InPreorder all (v ∷ siblings) list
    → IsOpened all v siblings list
opened all v siblings list (more w rest children below after are under behind) =
    record {
      children = children;
      below = below;
      after = after;
      are = are;
      under = under;
      behind = behind;
      list_is = refl;
    }

-- no siblings have no vertex in preorder
emptied : (all list : List Vertex) → InPreorder all [] list → [] ≡ list
emptied all [] none = refl
emptied all (v ∷ list) h = elim h [ ]

-- siblings have one preorder
one_preorder : (all siblings a b : List Vertex) → InPreorder all siblings a → InPreorder all siblings b → a ≡ b
one_preorder all [] [] b none h = emptied all b h
one_preorder all siblings a b (more v rest children below after are under behind) h =
    let o = opened all v rest b h in
    let same : children ≡ o.children = one_children all v children o.children are o.are in
    let first : below ≡ o.below =
    one_preorder all children below o.below under (subst (λ l. InPreorder all l o.below) (sym same) o.under) in
    let last : after ≡ o.after = one_preorder all rest after o.after behind o.behind in
    ap₂ (λ (l r : List Vertex). v ∷ l ++ r) first last ∙ sym o.list_is

-- an event joins vertices in one way
one_joined : (vs : List Vertex) (e : Event) (a b : List Vertex) → IsJoined vs e a → IsJoined vs e b → a ≡ b
one_joined vs e a b (inl (d, deep, a_is)) (inl (d', deep', b_is)) =
    let (v, has, depth, meets) = deep.some in
    let (w, has', depth', meets') = deep'.some in
    let up = deep.greatest w has' meets' in
    let down = deep'.greatest v has meets in
    let same : d ≡ d' = omega (arith, up, down, depth, depth') in
    a_is ∙ ap (λ n. at_depth (n + 1) e ∷ vs) same ∙ sym b_is
one_joined vs e a b (inl (d, deep, a_is)) (inr (alone, b_is)) =
    let (v, has, depth, meets) = deep.some in absurd (alone v has meets)
one_joined vs e a b (inr (alone, a_is)) (inl (d, deep, b_is)) =
    let (v, has, depth, meets) = deep.some in absurd (alone v has meets)
one_joined vs e a b (inr (alone, a_is)) (inr (alone', b_is)) = a_is ∙ sym b_is

-- a log has one list of vertices
one_vertices : (log : List LogRecord) (vs ws : List Vertex) → AreVertices log vs → AreVertices log ws → vs ≡ ws
one_vertices [] vs ws is is' = absurd is
one_vertices (r ∷ []) vs ws is is' = is ∙ sym is'
one_vertices (r ∷ q ∷ log) vs ws (later, rest, joined) (later', rest', joined') =
    let same : later ≡ later' = one_vertices (q ∷ log) later later' rest rest' in
    one_joined later' r.event vs ws (subst (λ l. IsJoined l r.event vs) same joined) joined'

-- a record has one tree
pub one_tree : (log : List LogRecord) (t : ℕ) (a b : List Vertex) → IsTree log t a → IsTree log t b → a ≡ b
one_tree log t a b is is' =
    let last_is = is.last_is in
    let last_is' = is'.last_is in
    let last : is.last ≡ is'.last = cc in
    let vs : is.vs ≡ is'.vs = one_vertices (take (t + 1) log) is.vs is'.vs is.vertices is'.vertices in
    one_preorder is'.vs (at_depth 0 is'.last.event ∷ []) a b
    (subst (λ l. InPreorder is'.vs (at_depth 0 l.event ∷ []) a) last
    (subst (λ l. InPreorder l (at_depth 0 is.last.event ∷ []) a) vs is.preorder))
    is'.preorder
