-- The layered log. Records that depend on one another are in the order of their layers both in the log and after the
-- sort by layer and unit. So the layered log is a reordering of the log: it is legal, has the same replay, and each
-- record has its layer in it. In a legal log two records of one layer have different units, so there is only one
-- sorted order. Reorderings of one log have the same records with the same layers, so they have one layered log.
use Rattle.std.proofs.Common.{inl, inr, ◌≡◌, ◌⊎◌, ℕ, ◌<◌, ◌≤◌, Bool, true, false, eqb, ◌&&◌, List, [], ◌∷◌, ◌++◌, map, zip, length, get_or, refl, sym, ap, subst, ◌∙◌, arith, Contains, AllPairs, true≢false, eqb-true, eq-eqb, is_lt}
use Rattle.std.specs.List.{IsDistinct}
use Rattle.std.specs.Cmp.{IsTotalOrder, IsStrictWeakOrder}
use Rattle.std.specs.Ordering.{nat_cmp, ordering_then}
use Rattle.std.proofs.lemmas.Bool.{cases_lt, and_parts, and_from, false_from_ne_true}
use Rattle.std.proofs.lemmas.Cmp.{then_total, on_total, nat_cmp_total, ranked, by_ranked}
use Rattle.std.proofs.lemmas.List.Elements.{Contains-get_or, Contains-push, Contains-append_left}
use Rattle.std.proofs.lemmas.List.Sorted.{ranks_by, sorted_far, Contains-permutation, IsPermutation-sym}
use Rattle.std.proofs.lemmas.Map.Keys.{IsDistinct-from_apart, IsDistinct-IsPermutation, apart_from_distinct, ge_from_not_lt}
use Rattle.std.specs.Cmp.Derive.{one_truth}
use Rattle.pop_model.specs.Logs.{LogRecord}
use Rattle.pop_model.proofs.Sharing.{share, share_from, share_to, Share-sym}
use Rattle.pop_model.proofs.Rising.{member_cases, AreMembers}
use Rattle.pop_log.specs.Layers.{Depend, Placed, LayersBehind, AreLayers}
use Rattle.pop_log.specs.Layered.{placed_cmp, AreSorted, ArePlaced, ComesBefore}
use Rattle.pop_log.proofs.Reordering.{IsReordered, IsOrdered, StandInOrder, reordered, pairs_cons}

-- records with their layers that depend
abbrev pub PlacedDepend : Placed → Placed → Type 0
PlacedDepend p q = Depend p.0 q.0

-- a lesser layer
abbrev pub IsLower : Placed → Placed → Type 0
IsLower p q = p.1 < q.1

-- a log with its layers has the records of the log
pub zip_records : (earlier : List Placed) (log : List LogRecord) (ys : List ℕ) → LayersBehind earlier log ys
    → map (λ p. p.0) (zip log ys) ≡ log
zip_records earlier [] [] are = refl
zip_records earlier [] (y ∷ ys) are = refl
zip_records earlier (r ∷ log) [] are = absurd are
zip_records earlier (r ∷ log) (y ∷ ys) are =
    ap (λ (l : List LogRecord). r ∷ l) (zip_records (earlier ++ (r, y) ∷ []) log ys are.1)

-- and the layers
zip_layers : (earlier : List Placed) (log : List LogRecord) (ys : List ℕ) → LayersBehind earlier log ys
    → map (λ p. p.1) (zip log ys) ≡ ys
zip_layers earlier [] [] are = refl
zip_layers earlier [] (y ∷ ys) are = absurd are
zip_layers earlier (r ∷ log) [] are = absurd are
zip_layers earlier (r ∷ log) (y ∷ ys) are =
    ap (λ (l : List ℕ). y ∷ l) (zip_layers (earlier ++ (r, y) ∷ []) log ys are.1)

-- so its records have these layers
pub zip_placed : (log : List LogRecord) (ys : List ℕ) → AreLayers log ys → ArePlaced (zip log ys)
zip_placed log ys are =
    subst (λ l. AreLayers l (map (λ p. p.1) (zip log ys))) (sym (zip_records [] log ys are))
    (subst (AreLayers log) (sym (zip_layers [] log ys are)) are)

-- a record has a greater layer than each record before it on which it depends
above_earlier : (earlier : List Placed) (log : List LogRecord) (ys : List ℕ) → LayersBehind earlier log ys
    → (p q : Placed) → Contains earlier p → Contains (zip log ys) q → Depend p.0 q.0 → p.1 < q.1
above_earlier earlier [] ys are p q among (k, within, at) depend = absurd (omega (arith, within))
above_earlier earlier (r ∷ log) [] are p q among later depend = absurd are
above_earlier earlier (r ∷ log) (y ∷ ys) are p q among later depend =
    elim (member_cases (r, y) (zip log ys) q later) [
      | inl is ↦
          subst (λ (x : Placed). Depend p.0 x.0 → p.1 < x.1) is (λ d. are.0.greatest p.0 p.1 among d) depend
      | inr rest ↦
          above_earlier (earlier ++ (r, y) ∷ []) log ys are.1 p q
          (Contains-append_left earlier ((r, y) ∷ []) p among) rest depend
    ]

-- in a log those that depend rise by layers
pub layers_in_order : (earlier : List Placed) (log : List LogRecord) (ys : List ℕ) → LayersBehind earlier log ys
    → StandInOrder PlacedDepend IsLower (zip log ys)
layers_in_order earlier [] ys are = λ i j d before within. absurd (omega (arith, within))
layers_in_order earlier (r ∷ log) [] are = absurd are
layers_in_order earlier (r ∷ log) (y ∷ ys) are =
    pairs_cons (λ p q. PlacedDepend p q → IsLower p q) (r, y) (zip log ys)
    (λ q among depend.
    above_earlier (earlier ++ (r, y) ∷ []) log ys are.1 (r, y) q (Contains-push earlier (r, y)) among depend)
    (layers_in_order (earlier ++ (r, y) ∷ []) log ys are.1)

-- dependence goes both ways, and of two layers one alone is less
pub by_layers : IsOrdered PlacedDepend IsLower
by_layers =
    record {
      flips = λ x y depend. Share-sym x.0.event.cube y.0.event.cube depend;
      one_way = λ x y up down. omega (arith, up, down);
    }

-- one layer, and a variable that is shared
abbrev level_shares : Placed → Placed → Bool
level_shares p q = eqb p.1 q.1 && share p.0.event.cube q.0.event.cube

-- this goes both ways
shares_back : (p q : Placed) → level_shares p q ≡ true → level_shares q p ≡ true
shares_back p q test =
    let parts = and_parts (eqb p.1 q.1) (share p.0.event.cube q.0.event.cube) test in
    and_from (eqb q.1 p.1) (share q.0.event.cube p.0.event.cube) (eq-eqb q.1 p.1 (sym (eqb-true p.1 q.1 parts.0)))
    (share_to q.0.event.cube p.0.event.cube
    (Share-sym p.0.event.cube q.0.event.cube (share_from p.0.event.cube q.0.event.cube parts.1)))

-- so the test of a pair is that of the pair the other way round
shares_flips : (p q : Placed) → level_shares p q ≡ level_shares q p
shares_flips p q = one_truth (level_shares p q) (level_shares q p) (shares_back p q) (shares_back q p)

-- those of one layer share no variable
no_level_shares : (log : List LogRecord) (ys : List ℕ) → AreLayers log ys → IsDistinct level_shares (zip log ys)
no_level_shares log ys are = IsDistinct-from_apart level_shares (zip log ys) (λ i j d before within.
    let p = get_or (zip log ys) i d in
    let q = get_or (zip log ys) j d in
    false_from_ne_true (level_shares p q) (λ test.
    let parts = and_parts (eqb p.1 q.1) (share p.0.event.cube q.0.event.cube) test in
    let less : p.1 < q.1 =
    layers_in_order [] log ys are i j d before within (share_from p.0.event.cube q.0.event.cube parts.1) in
    let equal : p.1 ≡ q.1 = eqb-true p.1 q.1 parts.0 in
    omega (arith, less, equal)))

-- layer and unit make a total order
placed_total : IsTotalOrder placed_cmp
placed_total = then_total (on_total (λ (p : Placed). p.1) nat_cmp_total)
    (on_total (λ (p : Placed). p.0.event.unit) nat_cmp_total)

-- whose less is a strict weak one
pub placed_order : IsStrictWeakOrder (λ (p q : Placed). is_lt (placed_cmp p q))
placed_order = ranks_by placed_total (λ (p : Placed). p)

-- the layer is greater, or it is the same and the unit isn't less
abbrev NotBehind : Placed → Placed → Type 0
NotBehind p q = (p.1 < q.1) ⊎ ((p.1 ≡ q.1) × (p.0.event.unit ≤ q.0.event.unit))

-- a record of which none comes before another isn't behind it
not_behind : (p q : Placed) → is_lt (placed_cmp q p) ≡ false → NotBehind p q
not_behind p q test =
    let units = nat_cmp q.0.event.unit p.0.event.unit in
    by_ranked (q.1 < p.1) (q.1 ≡ p.1) (p.1 < q.1) (nat_cmp q.1 p.1) (ranked q.1 p.1 (nat_cmp q.1 p.1) refl)
    (λ is less. absurd (true≢false (sym (ap (λ o. is_lt (ordering_then o units)) is) ∙ test)))
    (λ is same.
    inr (
      sym same,
      ge_from_not_lt q.0.event.unit p.0.event.unit (sym (ap (λ o. is_lt (ordering_then o units)) is) ∙ test),
    ))
    (λ is more. inl more)

-- the records of the log with their layers, sorted
module _ (log : List LogRecord) (placed : List Placed) (sorted : AreSorted log placed) where
  -- those of one layer share no variable
  one_level : IsDistinct level_shares placed
  one_level = IsDistinct-IsPermutation level_shares shares_flips (zip log sorted.layers) placed sorted.same_records
      (no_level_shares log sorted.layers sorted.are_layers)

  -- sorted, they rise by layer and unit
  rises : AllPairs NotBehind placed
  rises i j d before within =
      not_behind (get_or placed i d) (get_or placed j d)
      (sorted_far (λ (p q : Placed). is_lt (placed_cmp p q)) placed_order placed sorted.sorted i j d
      (omega (arith, before)) within)

  -- nor do those at two places, in one layer
  apart_at : (i j : ℕ) (d : Placed) → i < j → j < length placed → (get_or placed i d).1 ≡ (get_or placed j d).1
      → Depend (get_or placed i d).0 (get_or placed j d).0 → ⊥
  apart_at i j d before within equal depend =
      let p = get_or placed i d in
      let q = get_or placed j d in
      true≢false (sym (and_from (eqb p.1 q.1) (share p.0.event.cube q.0.event.cube) (eq-eqb p.1 q.1 equal)
      (share_to p.0.event.cube q.0.event.cube depend))
      ∙ apart_from_distinct level_shares placed i j d one_level before within)

  -- those that depend rise by layers
  in_order : StandInOrder PlacedDepend IsLower placed
  in_order i j d before within depend = elim (rises i j d before within) [
    | inl less ↦ less
    | inr equal ↦ absurd (apart_at i j d before within equal.0 depend)
  ]

  -- the records of the log are there
  pub sorted_there : AreMembers (zip log sorted.layers) placed
  sorted_there z among = Contains-permutation (zip log sorted.layers) placed z sorted.same_records among

  -- and no others
  pub sorted_back : AreMembers placed (zip log sorted.layers)
  sorted_back z among =
      Contains-permutation placed (zip log sorted.layers) z
      (IsPermutation-sym (zip log sorted.layers) placed sorted.same_records) among

  -- they are a reordering of the log with its layers, where each record has a variable
  pub sorted_moved : ((p : Placed) → Contains (zip log sorted.layers) p → PlacedDepend p p)
      → IsReordered PlacedDepend (zip log sorted.layers) placed
  sorted_moved selves =
      reordered PlacedDepend IsLower by_layers placed (zip log sorted.layers)
      (layers_in_order [] log sorted.layers sorted.are_layers) in_order selves sorted_there sorted_back

  -- where records of one unit share a variable, they rise strictly
  pub strictly : ((p q : Placed) → Contains placed p → Contains placed q → p.0.event.unit ≡ q.0.event.unit
      → PlacedDepend p q) → AllPairs ComesBefore placed
  strictly one_unit i j d before within = elim (rises i j d before within) [
    | inl less ↦ inl less
    | inr equal ↦ inr (equal.0, below i j d before within equal.0 equal.1)
  ]
    where
      below : (i j : ℕ) (d : Placed) → i < j → j < length placed → (get_or placed i d).1 ≡ (get_or placed j d).1
          → (get_or placed i d).0.event.unit ≤ (get_or placed j d).0.event.unit
          → (get_or placed i d).0.event.unit < (get_or placed j d).0.event.unit
      below i j d before within equal low =
          let p = get_or placed i d in
          let q = get_or placed j d in
          elim (cases_lt p.0.event.unit q.0.event.unit) [
            | inl less ↦ less
            | inr high ↦
                let same : p.0.event.unit ≡ q.0.event.unit = omega (arith, low, high) in
                let depend =
                one_unit p q (Contains-get_or placed i d (omega (arith, before, within))) (Contains-get_or placed j d within)
                same in
                absurd (apart_at i j d before within equal depend)
          ]
