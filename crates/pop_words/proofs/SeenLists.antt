-- What a search through rows finds, said of what contracts see of them.
use Rattle.std.proofs.Common.{◌≡◌, Bool, true, false, ◌||◌, List, [], ◌∷◌, map, Option, None, Some, option_map, refl, ap, if◌then◌else◌, cond}
use Rattle.std.specs.List.{list_any, find}
use Rattle.pop_words.specs.Values.{only_if}

-- some view passes a test where some element's view does
pub list_any-map : {X Y : Type 0} (test : Y → Bool) (view : X → Y) (xs : List X)
    → list_any test (map view xs) ≡ list_any (λ x. test (view x)) xs
list_any-map test view [] = refl
list_any-map test view (x ∷ xs) = ap (λ b. test (view x) || b) (list_any-map test view xs)

-- the first view that passes a test is that of the first element whose view does
pub find-map : {X Y : Type 0} (test : Y → Bool) (view : X → Y) (xs : List X)
    → find test (map view xs) ≡ option_map view (find (λ x. test (view x)) xs)
find-map test view [] = refl
find-map test view (x ∷ xs) = elim (test (view x)) as
    (λ b. cond b (Some (view x)) (find test (map view xs))
    ≡ option_map view (cond b (Some x) (find (λ y. test (view y)) xs))) [
      | true ↦ refl
      | false ↦ find-map test view xs
    ]

-- a view passes a test where what it is a view of does
pub only_if-map : {X Y : Type 0} (test : Y → Bool) (view : X → Y) (read : Option X)
    → only_if test (option_map view read) ≡ option_map view (only_if (λ x. test (view x)) read)
only_if-map test view None = refl
only_if-map test view (Some x) = elim (test (view x)) as
    (λ b. (if b then Some (view x) else None) ≡ option_map view (if b then Some x else None)) [
      | true ↦ refl
      | false ↦ refl
    ]
