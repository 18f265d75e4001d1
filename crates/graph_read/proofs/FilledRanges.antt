-- Rows that are filled range by range. In a pass over the edges a number is pushed if its row is in the range, so that
-- the rows of the range hold what came into them, and the others stay. There is room for each number: a row of the
-- range holds what came into it before, and has room for what all edges put there. Once a range is filled, the rows
-- below its end are filled, and those behind it are still empty; the ranges together have all rows.
use Rattle.std.proofs.Common.{◌≡◌, ◌⊎◌, inl, inr, ℕ, ◌+◌, ◌-◌, ◌*◌, ◌/◌, ◌<◌, ◌≤◌, true, false, List, [], ◌∷◌, ◌++◌, length, get_or, replicate, refl, sym, ap, ◌∙◌, subst, arith, append_assoc}
use Rattle.std.specs.Prelude.{All}
use Rattle.std.proofs.Math.Nat.{div-add-mod, mod-lt, mul-le-mul_right}
use Rattle.std.proofs.lemmas.List.{take_all, length-set, length-replicate, get_or-replicate, get_or_past, ext_get_or}
use Rattle.std.proofs.lemmas.List.FromFn.{get_or-map-range_with_len, length-map-range_with_len}
use Rattle.std.proofs.lemmas.Bool.{cases_eq, cases_lt}
use Rattle.pop_rows.specs.FlatRows.{RoomyRows, HasRoom, row_at, push_at}
use Rattle.pop_rows.proofs.Puts.{CountPuts, put_into, put_into_push, put_into_push_other, pushed_here, pushed_elsewhere, has_room_for_next}
use Rattle.graph_read.specs.declared.edge.Edge.{Edge}
use Rattle.graph_read.specs.declared.row_range.RowRange.{RowRange}
use Rattle.graph_read.specs.Graphs.{GraphOf, IsEdge}
use Rattle.graph_read.specs.Ranges.{IsWithin, AreEmptyWithin, FillsRange}
use Rattle.graph_read.specs.Incidence.{is_loop, edges_at, degrees_of, Putting, row_by, rows_by}
use Rattle.graph_read.proofs.IncidenceRows.{Puts, IsEdgeAt, ends_from, first_ends, rest_ends, all_ends, put_first, put_second, plain_ends, two_more, loop_more, row_stands, length-row_stands, row_there}

-- ---- in a range

-- the rooms are as large as all edges need
pub rooms_count : (put : Putting) (g : GraphOf) (rooms : List ℕ) → All (IsEdge g.vertices) g.edges → rooms ≡ degrees_of g
    → CountPuts g.vertices (ends_from put 0 g.edges) rooms
rooms_count put g rooms edges is =
    record {
      size = ap length is ∙ length-map-range_with_len (λ w. length (edges_at g w)) 1 g.vertices;
      each = λ k here.
          ap (λ rs. get_or rs k 0) is
          ∙ get_or-map-range_with_len (λ w. length (edges_at g w)) 1 g.vertices k (k + 1) 0 here (omega arith)
          ∙ sym (length-row_stands put g k edges);
    }

-- What holds of rows once some numbers were put: those of the range have what came into them, and the others stayed.
pub record HoldsRange (range : RowRange) (old : RoomyRows) (puts : Puts) (f : RoomyRows) : Type 0 where
  pub rooms : f.rooms ≡ old.rooms
  pub size : length f.rows ≡ length old.rows
  pub within : (k : ℕ) → IsWithin range k → row_at f.rows k ≡ put_into k puts
  pub beyond : (k : ℕ) → (IsWithin range k → ⊥) → row_at f.rows k ≡ row_at old.rows k

-- before the first edge the rows of the range are empty
pub holds_no_edge : (range : RowRange) (f : RoomyRows) → AreEmptyWithin range f.rows → HoldsRange range f [] f
holds_no_edge range f empty = record { rooms = refl; size = refl; within = empty; beyond = λ k outside. refl }

-- the rows have rooms for all edges of a graph
pub record HasRooms (g : GraphOf) (f : RoomyRows) : Type 0 where
  pub edges : All (IsEdge g.vertices) g.edges
  pub rooms : f.rooms ≡ degrees_of g
  pub size : length f.rows ≡ g.vertices

-- there is room for the number that comes next
room_next : (put : Putting) (g : GraphOf) (range : RowRange) (old : RoomyRows) (puts rest : Puts) (v x : ℕ)
    (f : RoomyRows) → HasRooms g old → v < g.vertices → ends_from put 0 g.edges ≡ puts ++ (v, x) ∷ rest
    → HoldsRange range old puts f → IsWithin range v → HasRoom f v
room_next put g range old puts rest v x f room below all h within =
    has_room_for_next g.vertices v x puts rest f below
    (subst (λ ps. CountPuts g.vertices ps f.rooms) all (rooms_count put g f.rooms room.edges (h.rooms ∙ room.rooms)))
    (h.within v within)

-- there is room for an edge at its first end
pub room_from : (put : Putting) (g : GraphOf) (range : RowRange) (old : RoomyRows) (i : ℕ) (e : Edge)
    (f : RoomyRows) → HasRooms g old → IsEdgeAt g i e → is_loop e ≡ false → HoldsRange range old (first_ends put g i) f
    → IsWithin range (e.u - 1) → HasRoom f (e.u - 1)
room_from put g range old i e f room at apart h =
    room_next put g range old (first_ends put g i) (put_second put i e ∷ rest_ends put g i) (e.u - 1) (put i e e.u) f
    room (row_there g.vertices e.u at.edge.from)
    (all_ends put g i e at ∙ ap (λ ps. (first_ends put g i ++ ps) ++ rest_ends put g i) (plain_ends put i e apart)
    ∙ append_assoc (first_ends put g i) (put_first put i e ∷ put_second put i e ∷ []) (rest_ends put g i)) h

-- and at its second end
pub room_to : (put : Putting) (g : GraphOf) (range : RowRange) (old : RoomyRows) (i : ℕ) (e : Edge)
    (f : RoomyRows) → HasRooms g old → IsEdgeAt g i e → is_loop e ≡ false
    → HoldsRange range old (first_ends put g i ++ put_first put i e ∷ []) f
    → IsWithin range (e.v - 1) → HasRoom f (e.v - 1)
room_to put g range old i e f room at apart h =
    room_next put g range old (first_ends put g i ++ put_first put i e ∷ []) (rest_ends put g i) (e.v - 1)
    (put i e e.v) f room (row_there g.vertices e.v at.edge.to)
    (all_ends put g i e at ∙ ap (λ ps. (first_ends put g i ++ ps) ++ rest_ends put g i) (plain_ends put i e apart)
    ∙ ap (λ ps. ps ++ rest_ends put g i)
    (sym (append_assoc (first_ends put g i) (put_first put i e ∷ []) (put_second put i e ∷ [])))
    ∙ append_assoc (first_ends put g i ++ put_first put i e ∷ []) (put_second put i e ∷ []) (rest_ends put g i)) h

-- what a number does that goes to row v: it is pushed there if the row is one of the range
pub record PutsEnd (range : RowRange) (v x : ℕ) (f f' : RoomyRows) : Type 0 where
  pub rooms : f'.rooms ≡ f.rooms
  pub within : IsWithin range v → f'.rows ≡ push_at f.rows v x
  pub beyond : (IsWithin range v → ⊥) → f'.rows ≡ f.rows

-- a row is one of a range, or it isn't
is_within : (range : RowRange) (v : ℕ) → IsWithin range v ⊎ (IsWithin range v → ⊥)
is_within range v =
    elim (cases_lt v range.first) [
      | inl before ↦ inr (λ h. omega (arith, before, h.0))
      | inr from ↦
          elim (cases_lt v range.end) [
            | inl below ↦ inl (from, below)
            | inr behind ↦ inr (λ h. omega (arith, behind, h.1))
          ]
    ]

-- a number more
pub holds_end : (range : RowRange) (old : RoomyRows) (puts : Puts) (v x : ℕ) (f f' : RoomyRows) → v < length old.rows
    → PutsEnd range v x f f' → HoldsRange range old puts f → HoldsRange range old (puts ++ (v, x) ∷ []) f'
holds_end range old puts v x f f' below put h =
    elim (is_within range v) [
      | inl within ↦
          let pushed = put.within within in
          record {
            rooms = put.rooms ∙ h.rooms;
            size = ap length pushed ∙ length-set f.rows v (row_at f.rows v ++ x ∷ []) ∙ h.size;
            within = λ k k_within. ap (λ rows. row_at rows k) pushed ∙ by k k_within;
            beyond = λ k outside.
                ap (λ rows. row_at rows k) pushed
                ∙ pushed_elsewhere v k x f.rows (λ same. outside (subst (IsWithin range) same within))
                ∙ h.beyond k outside;
          }
      | inr outside ↦
          let stayed = put.beyond outside in
          record {
            rooms = put.rooms ∙ h.rooms;
            size = ap length stayed ∙ h.size;
            within = λ k k_within.
                ap (λ rows. row_at rows k) stayed ∙ h.within k k_within
                ∙ sym (put_into_push_other v k x puts (λ same. outside (subst (IsWithin range) (sym same) k_within)));
            beyond = λ k k_outside. ap (λ rows. row_at rows k) stayed ∙ h.beyond k k_outside;
          }
    ]
  where
    by : (k : ℕ) → IsWithin range k → row_at (push_at f.rows v x) k ≡ put_into k (puts ++ (v, x) ∷ [])
    by k k_within =
        elim (cases_eq v k) [
          | inl same ↦
              let size = h.size in
              subst (λ u. row_at (push_at f.rows v x) u ≡ put_into u (puts ++ (v, x) ∷ [])) same
              (pushed_here v x f.rows (omega (arith, size, below))
              ∙ ap (λ ys. ys ++ x ∷ []) (h.within v (subst (IsWithin range) (sym same) k_within))
              ∙ sym (put_into_push v x puts))
          | inr other ↦
              pushed_elsewhere v k x f.rows other ∙ h.within k k_within ∙ sym (put_into_push_other v k x puts other)
        ]

-- the first end of an edge
pub holds_from : (put : Putting) (g : GraphOf) (range : RowRange) (old : RoomyRows) (i : ℕ) (e : Edge)
    (f f' : RoomyRows) → HasRooms g old → IsEdgeAt g i e → PutsEnd range (e.u - 1) (put i e e.u) f f'
    → HoldsRange range old (first_ends put g i) f → HoldsRange range old (first_ends put g i ++ put_first put i e ∷ []) f'
holds_from put g range old i e f f' room at first h =
    let size = room.size in
    holds_end range old (first_ends put g i) (e.u - 1) (put i e e.u) f f'
    (omega (arith, size, row_there g.vertices e.u at.edge.from)) first h

-- and its second, so that the edge is put
pub holds_edge : (put : Putting) (g : GraphOf) (range : RowRange) (old : RoomyRows) (i : ℕ) (e : Edge)
    (f f' : RoomyRows) → HasRooms g old → IsEdgeAt g i e → is_loop e ≡ false
    → PutsEnd range (e.v - 1) (put i e e.v) f f'
    → HoldsRange range old (first_ends put g i ++ put_first put i e ∷ []) f
    → HoldsRange range old (first_ends put g (i + 1)) f'
holds_edge put g range old i e f f' room at apart second h =
    let size = room.size in
    subst (λ ps. HoldsRange range old ps f') (two_more put g i e at apart)
    (holds_end range old (first_ends put g i ++ put_first put i e ∷ []) (e.v - 1) (put i e e.v) f f'
    (omega (arith, size, row_there g.vertices e.v at.edge.to)) second h)

-- and the rows stay behind a loop
pub holds_loop : (put : Putting) (g : GraphOf) (range : RowRange) (old : RoomyRows) (i : ℕ) (e : Edge)
    (f : RoomyRows) → IsEdgeAt g i e → is_loop e ≡ true → HoldsRange range old (first_ends put g i) f
    → HoldsRange range old (first_ends put g (i + 1)) f
holds_loop put g range old i e f at loop h = subst (λ ps. HoldsRange range old ps f) (loop_more put g i e at loop) h

-- after all edges the rows of the range have what they put there
pub holds_all : (put : Putting) (g : GraphOf) (range : RowRange) (old : RoomyRows) (i : ℕ) (f : RoomyRows)
    → All (IsEdge g.vertices) g.edges → length g.edges ≤ i → HoldsRange range old (first_ends put g i) f
    → FillsRange put g range old.rows f.rows
holds_all put g range old i f edges all h = record {
  size = h.size;
  within = λ k below k_within.
      h.within k k_within ∙ ap (λ es. put_into k (ends_from put 0 es)) (take_all i g.edges all)
      ∙ row_stands put g k edges;
  beyond = h.beyond;
}

-- ---- range by range

-- what holds of rows once those below row `done` were filled: the others are empty
pub record HoldsBelow (put : Putting) (g : GraphOf) (done : ℕ) (f : RoomyRows) : Type 0 where
  pub rooms : f.rooms ≡ degrees_of g
  pub size : length f.rows ≡ g.vertices
  pub filled : (k : ℕ) → k < g.vertices → k < done → row_at f.rows k ≡ row_by put g (k + 1)
  pub empty : (k : ℕ) → done ≤ k → row_at f.rows k ≡ []

-- a row of empty rows is empty
row_of_empty : (n k : ℕ) → row_at (replicate n []) k ≡ []
row_of_empty n k = by (cases_lt k n)
  where
    none : List ℕ
    none = []

    by : (k < n) ⊎ (n ≤ k) → row_at (replicate n []) k ≡ []
    by (inl below) = get_or-replicate n k none none below
    by (inr behind) = get_or_past (replicate n none) k none (omega (arith, behind, length-replicate n none))

-- before the first range all rows are empty
pub holds_no_range : (put : Putting) (g : GraphOf) (f : RoomyRows) (degrees : List ℕ) → degrees ≡ degrees_of g
    → f.rooms ≡ degrees → f.rows ≡ replicate (length degrees) [] → HoldsBelow put g 0 f
holds_no_range put g f degrees is rooms rows =
    let none : List ℕ = [] in
    record {
      rooms = rooms ∙ is;
      size = ap length rows ∙ length-replicate (length degrees) none ∙ ap length is
          ∙ length-map-range_with_len (λ w. length (edges_at g w)) 1 g.vertices;
      filled = λ k below before. absurd (omega (arith, before));
      empty = λ k from. ap (λ rs. row_at rs k) rows ∙ row_of_empty (length degrees) k;
    }

-- r ranges of 1 + n / r rows have n rows
pub ranges_cover : (n r k : ℕ) → 0 < r → r ≤ k → n ≤ k * (1 + n / r)
ranges_cover n r k some all =
    omega (arith, div-add-mod n r, mod-lt n some, mul-le-mul_right (1 + n / r) all)

-- once all rows were filled
pub holds_every_row : (put : Putting) (g : GraphOf) (done : ℕ) (f : RoomyRows) → g.vertices ≤ done
    → HoldsBelow put g done f → f.rows ≡ rows_by put g
holds_every_row put g done f all h =
    let none : List ℕ = [] in
    ext_get_or none f.rows (rows_by put g)
    (h.size ∙ sym (length-map-range_with_len (row_by put g) 1 g.vertices))
    (λ k below.
    let size = h.size in
    let here : k < g.vertices = omega (arith, below, size) in
    h.filled k here (omega (arith, here, all))
    ∙ sym (get_or-map-range_with_len (row_by put g) 1 g.vertices k (k + 1) none here (omega arith)))
