-- A list that was sorted by keys, no two of which are alike, rises strictly by them.
use Rattle.std.proofs.Common.{inl, inr, ◌≡◌, ◌≢◌, ℕ, ◌<◌, false, eqb, List, [], ◌∷◌, length, map, get_or, sym, ap, ◌∙◌, arith, ne_eqb}
use Rattle.std.specs.List.{AllPairs, IsDistinct}
use Rattle.std.specs.List.Sorted.{IsPermutation, IsNonDecreasingBy, IsStrictlyIncreasing}
use Rattle.std.proofs.lemmas.Bool.{cases_eq}
use Rattle.std.proofs.lemmas.List.{length-map, get_or-map}
use Rattle.std.proofs.lemmas.List.Sorted.{IsPermutation-map}
use Rattle.std.proofs.lemmas.Map.Keys.{IsDistinct-from_apart, IsDistinct-IsPermutation, IsStrictlyIncreasing-from_distinct}

-- what doesn't fall by the keys of its images has images that don't fall by them
pub map_sorted : {X Y : Type 0} (f : X → Y) (key : Y → ℕ) (xs : List X) → IsNonDecreasingBy (λ x. key (f x)) xs
    → IsNonDecreasingBy key (map f xs)
map_sorted f key [] sorted i j d order below = absurd (omega arith)
map_sorted f key (x ∷ xs) sorted i j d order below =
    let size : length (map f (x ∷ xs)) ≡ length (x ∷ xs) = length-map (x ∷ xs) f in
    let low : key (get_or (map f (x ∷ xs)) i d) ≡ key (f (get_or (x ∷ xs) i x)) =
    ap key (get_or-map f (x ∷ xs) i x d (omega arith)) in
    let high : key (get_or (map f (x ∷ xs)) j d) ≡ key (f (get_or (x ∷ xs) j x)) =
    ap key (get_or-map f (x ∷ xs) j x d (omega arith)) in
    omega (arith, low, high, sorted i j x order (omega arith))

-- keys of a list in which no two are alike
keys_distinct : {X : Type 0} (key : X → ℕ) (xs : List X) → AllPairs (λ x y. key x ≢ key y) xs
    → IsDistinct eqb (map key xs)
keys_distinct {X = X} key xs differ = IsDistinct-from_apart eqb (map key xs) (apart xs differ)
  where
    apart : (ys : List X) → AllPairs (λ x y. key x ≢ key y) ys → (i j d : ℕ) → i < j → j < length (map key ys)
        → eqb (get_or (map key ys) i d) (get_or (map key ys) j d) ≡ false
    apart [] differ i j d less below = absurd (omega arith)
    apart (x ∷ ys) differ i j d less below =
        let size : length (map key (x ∷ ys)) ≡ length (x ∷ ys) = length-map (x ∷ ys) key in
        let low : get_or (map key (x ∷ ys)) i d ≡ key (get_or (x ∷ ys) i x) =
        get_or-map key (x ∷ ys) i x d (omega arith) in
        let high : get_or (map key (x ∷ ys)) j d ≡ key (get_or (x ∷ ys) j x) =
        get_or-map key (x ∷ ys) j x d (omega arith) in
        ne_eqb (get_or (map key (x ∷ ys)) i d) (get_or (map key (x ∷ ys)) j d)
        (λ same. differ i j x less (omega arith) (sym low ∙ same ∙ high))

-- whether two numbers are equal doesn't depend on their order
pub eqb_comm : (m n : ℕ) → eqb m n ≡ eqb n m
eqb_comm m n = elim (cases_eq m n) [
  | inl same ↦ ap (λ k. eqb m k) (sym same) ∙ ap (λ k. eqb k m) same
  | inr differ ↦ ne_eqb m n differ ∙ sym (ne_eqb n m (λ h. differ (sym h)))
]

-- the list in order rises strictly by its keys
pub rises_sorted : {X : Type 0} (key : X → ℕ) (xs ys : List X) → IsPermutation xs ys → IsNonDecreasingBy key ys
    → AllPairs (λ x y. key x ≢ key y) xs → IsStrictlyIncreasing (map key ys)
rises_sorted key xs ys moved sorted differ =
    IsStrictlyIncreasing-from_distinct (map key ys) (map_sorted key (λ n. n) ys sorted)
    (IsDistinct-IsPermutation eqb eqb_comm (map key xs) (map key ys) (IsPermutation-map key xs ys moved)
    (keys_distinct key xs differ))
