-- The numbers of a tree's heads stand for its arrows.
use Rattle.std.proofs.Common.{◌≡◌, ℕ, suc, ◌-◌, ◌<◌, ◌≤◌, ◌^◌, lt-ltb, le-ltb, List, [], ◌∷◌, length, map, get_or, Option, Some, None, IfSome, refl, sym, ap, ap₂, subst, ◌∙◌, arith, All}
use Rattle.std.specs.List.{range_with_len}
use Rattle.std.specs.Option.{unwrap_or}
use Rattle.std.proofs.lemmas.List.{length-map}
use Rattle.std.proofs.lemmas.List.Elements.{All-map, All-weaker}
use Rattle.std.proofs.lemmas.List.FromFn.{length-map-range_with_len}
use Rattle.pop_model.specs.Names.{vertex_of}
use Rattle.pop_instance.specs.Arrows.{IsNumberRow, AreHeadNumbers, head_of_number, heads_of_numbers}
use Rattle.pop_instance.proofs.HeadRows.{if_some}
use Rattle.graph_read.specs.Graphs.{GraphOf, IsVertex, IsGraph, edge_at}
use Rattle.graph_read.specs.Incidence.{edges_at, other_end}
use Rattle.graph_read.specs.Paths.{IsConnected}
use Rattle.cycle_popping.specs.Trees.{variable_of, heads_at, heads_of_tree}
use Rattle.cycle_popping.specs.Numbers.{number_of, numbers_at}
use Rattle.graph_read.proofs.KnownEdges.{edges_known, edges_few}
use Rattle.graph_read.proofs.VisitedEdges.{other_end_vertex}
use Rattle.cycle_popping.proofs.TreeRows.{variable_below, edge_is, some_slot, all_rows}

-- a list that was changed twice, where the two changes make one
pub map_twice : {X Y Z : Type 0} (f : Y → Z) (g : X → Y) (h : X → Z) (xs : List X) → All (λ x. f (g x) ≡ h x) xs
    → map f (map g xs) ≡ map h xs
map_twice f g h [] same = refl
map_twice {X} {Y} {Z} f g h (x ∷ xs) same =
    ap₂ (λ (z : Z) (zs : List Z). z ∷ zs) (same 0 x (omega arith))
    (map_twice f g h xs (λ k d less. same (suc k) d (omega arith)))

-- a head below the count is the head of its number
number_back : (n : ℕ) (head : Option ℕ) → IfSome head (λ v. v < n) → head_of_number n (unwrap_or head n) ≡ head
number_back n None below = rw (le-ltb n n (omega arith)) refl
number_back n (Some v) below = rw (lt-ltb v n below) refl

-- the number of such a head is at most the count
number_most : (n : ℕ) (head : Option ℕ) → IfSome head (λ v. v < n) → unwrap_or head n ≤ n
number_most n None below = omega arith
number_most n (Some v) below = omega arith

-- the numbers of all variables' heads
abbrev pub numbers_of_tree : GraphOf → ℕ → List (List ℕ)
numbers_of_tree g root = map (numbers_at g root) (range_with_len 0 (g.vertices - 1))

-- there is a row for each variable
pub count_numbers : (g : GraphOf) (root : ℕ) → length (numbers_of_tree g root) ≡ g.vertices - 1
count_numbers g root = length-map-range_with_len (numbers_at g root) 0 (g.vertices - 1)

module _ (g : GraphOf) (root : ℕ) (is : IsGraph g) (at : IsVertex g.vertices root) where
  -- a slot's head is the root or a variable
  slot_below : (w i : ℕ) → i < length g.edges
      → IfSome (variable_of root (other_end (edge_at g i) w)) (λ v. v < g.vertices - 1)
  slot_below w i known =
      let other = other_end (edge_at g i) w in
      if_some (λ v. v < g.vertices - 1) (variable_of root other)
      (λ v leads. variable_below g.vertices root other v at
      (other_end_vertex g.vertices w (edge_at g i) (edge_is g i is known)) leads)

  -- the numbers of a variable's heads stand for these
  row_back : (v : ℕ) → map (head_of_number (g.vertices - 1)) (numbers_at g root v) ≡ heads_at g root v
  row_back v =
      let w = vertex_of root v in
      let other : ℕ → ℕ = λ i. other_end (edge_at g i) w in
      map_twice (head_of_number (g.vertices - 1)) (λ i. number_of g root (other i)) (λ i. variable_of root (other i))
      (edges_at g w)
      (All-weaker (λ i. i < length g.edges)
      (λ i. head_of_number (g.vertices - 1) (number_of g root (other i)) ≡ variable_of root (other i))
      (λ i known. number_back (g.vertices - 1) (variable_of root (other i)) (slot_below w i known))
      (edges_at g w) (edges_known g w))

  -- the numbers of all heads stand for the tree's
  pub heads_back : heads_of_numbers (numbers_of_tree g root) ≡ heads_of_tree g root
  heads_back =
      let n = g.vertices - 1 in
      ap (λ count. map (map (head_of_number count)) (numbers_of_tree g root)) (count_numbers g root)
      ∙ map_twice (map (head_of_number n)) (numbers_at g root) (heads_at g root) (range_with_len 0 n)
      (λ k d less. row_back (get_or (range_with_len 0 n) k d))

  -- no row is long
  pub numbers_short : All (λ row. length row < 2 ^ 31) (numbers_of_tree g root)
  numbers_short = all_rows (λ row. length row < 2 ^ 31) (numbers_at g root) (g.vertices - 1)
      (λ v below. omega (
        arith,
        edges_few g (vertex_of root v),
        is.edges_fit,
        length-map (edges_at g (vertex_of root v)) (λ i. number_of g root (other_end (edge_at g i) (vertex_of root v))),
      ))

  -- the numbers are those of arrows
  pub numbers_known : IsConnected g root → AreHeadNumbers (numbers_of_tree g root)
  numbers_known joined =
      subst (λ n. All (IsNumberRow n) (numbers_of_tree g root)) (sym (count_numbers g root))
      (all_rows (IsNumberRow (g.vertices - 1)) (numbers_at g root) (g.vertices - 1) row)
    where
      row : (v : ℕ) → v < g.vertices - 1 → IsNumberRow (g.vertices - 1) (numbers_at g root v)
      row v below =
          let w = vertex_of root v in
          let other : ℕ → ℕ = λ i. other_end (edge_at g i) w in
          record {
            some = omega (
              arith,
              some_slot g root is at joined v below,
              length-map (edges_at g w) (λ i. number_of g root (other i)),
            );
            below = All-map (λ x. x ≤ g.vertices - 1) (λ i. number_of g root (other i)) (edges_at g w)
                (All-weaker (λ i. i < length g.edges) (λ i. number_of g root (other i) ≤ g.vertices - 1)
                (λ i known. number_most (g.vertices - 1) (variable_of root (other i)) (slot_below w i known))
                (edges_at g w) (edges_known g w));
          }
