-- Records in layered order are their own layered log: each has its layer after those before it, and layer and unit
-- increase, so the sort moves none.
use Rattle.std.proofs.Common.{inl, inr, ◌≡◌, ℕ, zero, suc, ◌+◌, ◌<◌, false, List, [], ◌∷◌, ◌++◌, map, zip, get_or, refl, sym, ap, subst, ◌∙◌, arith, is_lt}
use Rattle.std.specs.Ordering.{nat_cmp, ordering_then}
use Rattle.std.specs.List.Sorted.{IsPermutation, IsSorted, IsStable}
use Rattle.std.proofs.lemmas.Cmp.{ranked, by_ranked}
use Rattle.std.proofs.lemmas.List.Sorted.{IsPermutation-refl}
use Rattle.pop_log.specs.Layers.{Placed, LayersBehind}
use Rattle.pop_log.specs.Layered.{placed_cmp, AreSorted, ComesBefore, AreInLayers}

-- the records have the layers that stand with them
layers_behind : (before placed : List Placed) → AreInLayers before placed
    → LayersBehind before (map (λ p. p.0) placed) (map (λ p. p.1) placed)
layers_behind before [] are = tt
layers_behind before (p ∷ placed) are = (are.0.layer, layers_behind (before ++ p ∷ []) placed are.1)

-- of two records the later isn't less
not_less : (p q : Placed) → ComesBefore p q → is_lt (placed_cmp q p) ≡ false
not_less p q (inl more) =
    let units = nat_cmp q.0.event.unit p.0.event.unit in
    by_ranked (q.1 < p.1) (q.1 ≡ p.1) (p.1 < q.1) (nat_cmp q.1 p.1) (ranked q.1 p.1 (nat_cmp q.1 p.1) refl)
    (λ is less. absurd (omega (arith, more, less)))
    (λ is same. absurd (omega (arith, more, same)))
    (λ is greater. ap (λ o. is_lt (ordering_then o units)) is)
not_less p q (inr (level, more)) =
    let a : ℕ = q.0.event.unit in
    let b : ℕ = p.0.event.unit in
    by_ranked (q.1 < p.1) (q.1 ≡ p.1) (p.1 < q.1) (nat_cmp q.1 p.1) (ranked q.1 p.1 (nat_cmp q.1 p.1) refl)
    (λ is less. absurd (omega (arith, level, less)))
    (λ is same.
    by_ranked (a < b) (a ≡ b) (b < a) (nat_cmp a b) (ranked a b (nat_cmp a b) refl)
    (λ is' less. absurd (omega (arith, more, less)))
    (λ is' equal. absurd (omega (arith, more, equal)))
    (λ is' greater. ap (λ o. is_lt (ordering_then o (nat_cmp a b))) is ∙ ap is_lt is'))
    (λ is greater. absurd (omega (arith, level, greater)))

-- so they are sorted
in_order : (before placed : List Placed) → AreInLayers before placed → IsSorted placed_cmp placed
in_order before [] are k d low within = absurd (omega (arith, within))
in_order before (p ∷ []) are k d low within = absurd (omega (arith, within))
in_order before (p ∷ q ∷ placed) are zero d low within = not_less p q (are.1.0.order before p refl)
in_order before (p ∷ q ∷ placed) are (suc k) d low within =
    let next : suc k + 1 ≡ suc (k + 1) = omega arith in
    subst (λ n. is_lt (placed_cmp (get_or (p ∷ q ∷ placed) n d) (get_or (q ∷ placed) k d)) ≡ false) (sym next)
    (in_order (before ++ p ∷ []) (q ∷ placed) are.1 k d (omega arith) (omega (arith, within)))

-- records with their layers are put together again
zip_again : (placed : List Placed) → zip (map (λ p. p.0) placed) (map (λ p. p.1) placed) ≡ placed
zip_again [] = refl
zip_again (p ∷ placed) = ap (λ (l : List Placed). p ∷ l) (zip_again placed)

-- so they are their own layered log
pub sorted_in_layers : (placed : List Placed) → AreInLayers [] placed → AreSorted (map (λ p. p.0) placed) placed
sorted_in_layers placed are =
    let same = sym (zip_again placed) in
    record {
      layers = map (λ p. p.1) placed;
      are_layers = layers_behind [] placed are;
      same_records = subst (λ l. IsPermutation l placed) same (IsPermutation-refl placed);
      sorted = in_order [] placed are;
      in_order = subst (λ l. IsStable placed_cmp l placed) same (λ z. refl);
    }
