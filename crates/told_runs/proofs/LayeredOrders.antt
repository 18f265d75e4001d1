-- Each log has a layered order: its layers are a function of it, and insertion sorts it.
use Rattle.std.proofs.Common.{◌≡◌, ℕ, zero, suc, ◌+◌, Bool, true, false, not, cond, List, [], ◌∷◌, zip, get_or, filter, refl, sym, ap, subst, ◌∙◌, arith, is_lt, true≢false}
use Rattle.std.specs.Cmp.{IsStrictWeakOrder}
use Rattle.std.proofs.lemmas.Bool.{and_parts, not-true}
use Rattle.std.specs.List.Sorted.{IsPermutation, IsSortedBy, IsStableBy, ties}
use Rattle.std.proofs.lemmas.List.Sorted.{IsPermutation-refl, IsPermutation-trans, IsPermutation-cons, IsPermutation-middle}
use Rattle.pop_model.specs.Logs.{LogRecord}
use Rattle.pop_log.specs.Layers.{Placed}
use Rattle.pop_log.specs.Layered.{placed_cmp, AreSorted}
use Rattle.pop_log.proofs.LayersLemmas.{layers_behind, layers_are}
use Rattle.pop_log.proofs.LayeredLemmas.{placed_order}

-- sorting by insertion, in a strict weak order
module _ {X : Type 0} (lt : X → X → Bool) (order : IsStrictWeakOrder lt) where
  -- an element before the first that isn't less than it
  abbrev put : X → List X → List X
  put x [] = x ∷ []
  put x (y ∷ ys) = cond (lt y x) (y ∷ put x ys) (x ∷ y ∷ ys)

  -- the elements, one after another
  abbrev sort : List X → List X
  sort [] = []
  sort (x ∷ xs) = put x (sort xs)

  -- the elements are the same
  put_moves : (x : X) (ys : List X) → IsPermutation (x ∷ ys) (put x ys)
  put_moves x [] = IsPermutation-refl (x ∷ [])
  put_moves x (y ∷ ys) =
      (elim (lt y x) as (λ b. IsPermutation (x ∷ y ∷ ys) (cond b (y ∷ put x ys) (x ∷ y ∷ ys))) [
        | true ↦
            IsPermutation-trans (x ∷ y ∷ ys) (y ∷ x ∷ ys) (y ∷ put x ys) (IsPermutation-middle (x ∷ []) y ys)
            (IsPermutation-cons y (x ∷ ys) (put x ys) (put_moves x ys))
        | false ↦ IsPermutation-refl (x ∷ y ∷ ys)
      ])

  sort_moves : (xs : List X) → IsPermutation xs (sort xs)
  sort_moves [] = IsPermutation-refl []
  sort_moves (x ∷ xs) =
      IsPermutation-trans (x ∷ xs) (x ∷ sort xs) (put x (sort xs)) (IsPermutation-cons x xs (sort xs) (sort_moves xs))
      (put_moves x (sort xs))

  -- no element of the list is less than one that stands at its head
  abbrev IsLeastHead : X → List X → Type 0
  IsLeastHead y [] = Unit {0}
  IsLeastHead y (z ∷ zs) = lt z y ≡ false

  -- the tail of a sorted list is sorted
  tail_sorted : (y : X) (ys : List X) → IsSortedBy lt (y ∷ ys) → IsSortedBy lt ys
  tail_sorted y ys sorted k d low within =
      let next : suc k + 1 ≡ suc (k + 1) = omega arith in
      subst (λ n. lt (get_or (y ∷ ys) n d) (get_or ys k d) ≡ false) next
      (sorted (suc k) d (omega arith) (omega (arith, within)))

  -- and begins with no lesser element
  head_least : (y : X) (ys : List X) → IsSortedBy lt (y ∷ ys) → IsLeastHead y ys
  head_least y [] sorted = tt
  head_least y (z ∷ zs) sorted = sorted 0 y (omega arith) (omega arith)

  -- a sorted list behind an element that is no greater
  cons_sorted : (y : X) (ys : List X) → IsLeastHead y ys → IsSortedBy lt ys → IsSortedBy lt (y ∷ ys)
  cons_sorted y [] least sorted k d low within = absurd (omega (arith, within))
  cons_sorted y (z ∷ zs) least sorted zero d low within = least
  cons_sorted y (z ∷ zs) least sorted (suc k) d low within =
      let next : suc (k + 1) ≡ suc k + 1 = omega arith in
      subst (λ n. lt (get_or (y ∷ z ∷ zs) n d) (get_or (z ∷ zs) k d) ≡ false) next
      (sorted k d (omega arith) (omega (arith, within)))

  -- the head of a list into which an element is put
  put_least : (y x : X) (ys : List X) → lt x y ≡ false → IsLeastHead y ys → IsLeastHead y (put x ys)
  put_least y x [] no_less least = no_less
  put_least y x (z ∷ zs) no_less least =
      (elim (lt z x) as (λ b. IsLeastHead y (cond b (z ∷ put x zs) (x ∷ z ∷ zs))) [ true ↦ least | false ↦ no_less ])

  -- the list stays sorted
  put_sorted : (x : X) (ys : List X) → IsSortedBy lt ys → IsSortedBy lt (put x ys)
  put_sorted x [] sorted = cons_sorted x [] tt sorted
  put_sorted x (y ∷ ys) sorted =
      (elim (lt y x) as (λ b. lt y x ≡ b → IsSortedBy lt (cond b (y ∷ put x ys) (x ∷ y ∷ ys))) [
        | true ↦ λ less.
            cons_sorted y (put x ys)
            (put_least y x ys (order.one_way y x less) (head_least y ys sorted)) (put_sorted x ys (tail_sorted y ys sorted))
        | false ↦ λ no_less. cons_sorted x (y ∷ ys) no_less sorted
      ]) refl

  sort_sorts : (xs : List X) → IsSortedBy lt (sort xs)
  sort_sorts [] = λ k d low within. absurd (omega (arith, within))
  sort_sorts (x ∷ xs) = put_sorted x (sort xs) (sort_sorts xs)

  -- two that tie
  tie_parts : (z x : X) → ties lt z x ≡ true → (lt z x ≡ false) × (lt x z ≡ false)
  tie_parts z x tied =
      let parts = and_parts (not (lt z x)) (not (lt x z)) tied in (not-true _ parts.0, not-true _ parts.1)

  -- what ties with one element doesn't tie with a lesser one
  no_third : (z x y : X) → lt y x ≡ true → ties lt z x ≡ true → ties lt z y ≡ true → ⊥
  no_third z x y less tied tied' =
      true≢false (sym less ∙ order.chain y z x (tie_parts z y tied').1 (tie_parts z x tied).0)

  -- two neighbours of which at most one is kept may change places
  one_kept : (x y : X) (l : List X) (a b : Bool) → (a ≡ true → b ≡ true → ⊥)
      → cond b (y ∷ cond a (x ∷ l) l) (cond a (x ∷ l) l) ≡ cond a (x ∷ cond b (y ∷ l) l) (cond b (y ∷ l) l)
  one_kept x y l true true both = absurd (both refl refl)
  one_kept x y l a b both = refl

  -- those that tie stay in order
  put_stable : (x : X) (ys : List X) → IsStableBy lt (x ∷ ys) (put x ys)
  put_stable x [] z = refl
  put_stable x (y ∷ ys) z =
      (elim (lt y x) as (λ b. lt y x ≡ b
      → filter (ties lt z) (cond b (y ∷ put x ys) (x ∷ y ∷ ys)) ≡ filter (ties lt z) (x ∷ y ∷ ys)) [
        | true ↦ λ less.
            ap (λ (l : List X). cond (ties lt z y) (y ∷ l) l) (put_stable x ys z)
            ∙ one_kept x y (filter (ties lt z) ys) (ties lt z x) (ties lt z y) (no_third z x y less)
        | false ↦ λ no_less. refl
      ]) refl

  sort_stable : (xs : List X) → IsStableBy lt xs (sort xs)
  sort_stable [] z = refl
  sort_stable (x ∷ xs) z =
      put_stable x (sort xs) z ∙ ap (λ (l : List X). cond (ties lt z x) (x ∷ l) l) (sort_stable xs z)

-- a log has a layered order
pub layered_order : (log : List LogRecord) → (placed : List Placed) × AreSorted log placed
layered_order log =
    let lt : Placed → Placed → Bool = λ p q. is_lt (placed_cmp p q) in
    let ys : List ℕ = layers_behind [] log in
    let all : List Placed = zip log ys in (
      sort lt placed_order all,
      record {
        layers = ys;
        are_layers = layers_are [] log;
        same_records = sort_moves lt placed_order all;
        sorted = sort_sorts lt placed_order all;
        in_order = sort_stable lt placed_order all;
      },
    )

-- that of a log without records has none
pub nothing_sorted : AreSorted [] []
unfolding layered_order
nothing_sorted = (layered_order []).1
