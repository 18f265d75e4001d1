-- What a test of a list says of its elements.
use Rattle.std.proofs.Common.{inl, inr, ◌≡◌, Bool, true, false, ◌&&◌, List, [], ◌∷◌, Some, refl, sym, ap, subst, ◌∙◌, Contains, cond}
use Rattle.std.specs.List.{find, list_all, list_any}
use Rattle.std.proofs.lemmas.Bool.{both_ways, or_cases, true_from_ne_false}
use Rattle.std.proofs.lemmas.List.Elements.{Contains-append_right}
use Rattle.std.proofs.lemmas.List.Folds.{list_all_at, list_any_at}
use Rattle.pop_model.proofs.Rising.{head_member}

-- where all pass, each does
pub all_at : {X : Type 0} (test : X → Bool) (xs : List X) → list_all test xs ≡ true → (x : X) → Contains xs x
    → test x ≡ true
all_at test xs all x (k, within, at) = true_from_ne_false (test x)
    (λ fails. both_ways (list_all test xs) (list_all_at test xs k x within (ap test at ∙ fails)) all)

-- where each passes, all do
pub all_from : {X : Type 0} (test : X → Bool) (xs : List X) → ((x : X) → Contains xs x → test x ≡ true)
    → list_all test xs ≡ true
all_from test [] each = refl
all_from test (y ∷ xs) each =
    ap (λ b. b && list_all test xs) (each y (head_member y xs))
    ∙ all_from test xs (λ x later. each x (Contains-append_right (y ∷ []) xs x later))

-- where one passes, some do
pub some_at : {X : Type 0} (test : X → Bool) (xs : List X) (x : X) → Contains xs x → test x ≡ true
    → list_any test xs ≡ true
some_at test xs x (k, within, at) good = list_any_at test xs k x within (ap test at ∙ good)

-- where some pass, there is one that does
pub some_from : {X : Type 0} (test : X → Bool) (xs : List X) → list_any test xs ≡ true
    → (x : X) × Contains xs x × (test x ≡ true)
some_from test [] some = absurd (cc)
some_from test (y ∷ xs) some = elim (or_cases (test y) (list_any test xs) some) [
  | inl here ↦ (y, head_member y xs, here)
  | inr later ↦ let one = some_from test xs later in
      (one.0, Contains-append_right (y ∷ []) xs one.0 one.1, one.2)
]

-- what is found is in the list and passes
pub found_is : {X : Type 0} (test : X → Bool) (xs : List X) (x : X) → find test xs ≡ Some x
    → Contains xs x × (test x ≡ true)
found_is test [] x found = absurd (cc)
found_is test (y ∷ xs) x found =
    (elim (test y) as (λ b. test y ≡ b → cond b (Some y) (find test xs) ≡ Some x
    → Contains (y ∷ xs) x × (test x ≡ true)) [
      | true ↦ λ passes here. let is : y ≡ x = cc in
          (subst (Contains (y ∷ xs)) is (head_member y xs), ap test (sym is) ∙ passes)
      | false ↦ λ fails later. let one = found_is test xs x later in
          (Contains-append_right (y ∷ []) xs x one.0, one.1)
    ]) refl found
