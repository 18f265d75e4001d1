-- The places of a tree's vertices, as they are written variable by variable. Vertices of different variables are
-- different, since they increase with these.
use Rattle.std.proofs.Common.{inl, inr, ◌≡◌, ℕ, ◌+◌, ◌-◌, ◌<◌, ◌≤◌, Bool, true, false, cond, ltb, lt-ltb, le-ltb, List, length, set, get_or, sym, ap, ◌∙◌, arith}
use Rattle.std.proofs.lemmas.Bool.{cases_eq, cases_lt}
use Rattle.std.proofs.lemmas.List.{length-set, get_or-set_same, get_or-set_other}
use Rattle.pop_model.specs.Names.{vertex_of}
use Rattle.graph_read.specs.Graphs.{GraphOf, IsVertex, edge_at}
use Rattle.graph_read.specs.Incidence.{StandAtPlaces, edges_at, other_end}
use Rattle.graph_read.proofs.KnownEdges.{vertex_is}
use Rattle.pop_print.specs.Output.{arrow_line, slot_line}
use Rattle.pop_print.specs.Places.{ArePlaces}

-- a variable's vertex is at most two more than it
vertex_near : (root v : ℕ) → vertex_of root v ≤ v + 2
vertex_near root v = by (ltb (v + 1) root)
  where
    by : (b : Bool) → cond b (v + 1) (v + 2) ≤ v + 2
    by true = omega arith
    by false = omega arith

-- and at least one more
vertex_past : (root v : ℕ) → 1 ≤ vertex_of root v
vertex_past root v = by (ltb (v + 1) root)
  where
    by : (b : Bool) → 1 ≤ cond b (v + 1) (v + 2)
    by true = omega arith
    by false = omega arith

-- the vertices rise with their variables
pub vertex_rises : (root u v : ℕ) → u < v → vertex_of root u < vertex_of root v
vertex_rises root u v less = elim (cases_lt (v + 1) root) [
  | inl low ↦
      let first : vertex_of root u ≡ u + 1 =
      ap (λ b. cond b (u + 1) (u + 2)) (lt-ltb (u + 1) root (omega (arith, less, low))) in
      let last : vertex_of root v ≡ v + 1 = ap (λ b. cond b (v + 1) (v + 2)) (lt-ltb (v + 1) root low) in
      omega (arith, first, last, less)
  | inr high ↦
      let last : vertex_of root v ≡ v + 2 = ap (λ b. cond b (v + 1) (v + 2)) (le-ltb (v + 1) root high) in
      omega (arith, vertex_near root u, last, less)
]

-- the vertices of the variables before here have their places
pub record PlacedBelow (n root v : ℕ) (values places : List ℕ) : Type 0 where
  pub count : length places ≡ n
  pub each : (u : ℕ) → u < v → get_or places (vertex_of root u - 1) 0 ≡ get_or values u 0 + 1

-- with a variable more
pub placed_more : (n root v w x : ℕ) (values places : List ℕ) → IsVertex n root → v + 1 < n → w ≡ vertex_of root v
    → x ≡ get_or values v 0 → PlacedBelow n root v values places
    → PlacedBelow n root (v + 1) values (set places (w - 1) (x + 1))
placed_more n root v w x values places root_is below named value placed = record {
  count = length-set places (w - 1) (x + 1) ∙ placed.count;
  each = λ u less. elim (cases_eq u v) [
    | inl same ↦
        let count = placed.count in
        let last = (vertex_is root n v root_is below).last in
        let first = (vertex_is root n v root_is below).first in
        let at : vertex_of root u - 1 ≡ w - 1 =
        ap (λ t. t - 1) (ap (vertex_of root) same ∙ sym named) in
        ap (λ k. get_or (set places (w - 1) (x + 1)) k 0) at
        ∙ get_or-set_same places (w - 1) (x + 1) 0 (omega (arith, count, last, first, named))
        ∙ ap (λ y. y + 1) (value ∙ ap (λ t. get_or values t 0) (sym same))
    | inr other ↦
        let before : u < v = omega (arith, less, other) in
        let rises = vertex_rises root u v before in
        let some = vertex_past root u in
        get_or-set_other places (w - 1) (vertex_of root u - 1) (x + 1) 0
        (λ same. absurd (omega (arith, same, rises, some, named)))
        ∙ placed.each u before
  ];
}

-- behind the last variable all have
pub placed_all : (n root v : ℕ) (values places : List ℕ) → length values + 1 ≡ n → length values ≤ v
    → PlacedBelow n root v values places → ArePlaces root values places
placed_all n root v values places count past placed =
    record {
      count = placed.count ∙ sym count;
      each = λ u less. placed.each u (omega (arith, less, past));
    }

-- a list with a member for each vertex has one for the variable's
pub place_within : (n root v w : ℕ) (edges : List ℕ) → IsVertex n root → v + 1 < n → w ≡ vertex_of root v
    → length edges ≡ n → w - 1 < length edges
place_within n root v w edges root_is below named count =
    let vertex = vertex_is root n v root_is below in
    let first = vertex.first in
    let last = vertex.last in
    omega (arith, named, first, last, count)

-- the edge at a vertex's place is the one of its slot
pub place_found : (g : GraphOf) (root v w x i : ℕ) (values places edges : List ℕ) → IsVertex g.vertices root
    → v < length values → length values + 1 ≡ g.vertices → w ≡ vertex_of root v → x ≡ get_or values v 0
    → x < length (edges_at g (vertex_of root v)) → ArePlaces root values places → StandAtPlaces g places edges
    → i ≡ get_or edges (w - 1) 0 → i ≡ get_or (edges_at g (vertex_of root v)) x 0
place_found g root v w x i values places edges root_is below count named value within are stand read =
    let u = vertex_of root v in
    let vertex = vertex_is root g.vertices v root_is (omega (arith, below, count)) in
    let place : get_or places (u - 1) 0 ≡ x + 1 = are.each v below ∙ ap (λ y. y + 1) (sym value) in
    read ∙ ap (λ t. get_or edges (t - 1) 0) named ∙ stand.each u x vertex place within

-- so its line is that of the slot
pub place_line : (g : GraphOf) (root v w x i : ℕ) → w ≡ vertex_of root v
    → i ≡ get_or (edges_at g (vertex_of root v)) x 0
    → arrow_line w (other_end (edge_at g i) w) (i + 1) ≡ slot_line g (vertex_of root v) x
place_line g root v w x i named at =
    let u = vertex_of root v in
    ap (λ t. arrow_line t (other_end (edge_at g i) t) (i + 1)) named
    ∙ ap (λ j. arrow_line u (other_end (edge_at g j) u) (j + 1)) at
