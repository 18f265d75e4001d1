-- Members that are printed one behind another: where those before a place are printed, and the member there is printed
-- behind them, those up to it are.
use Rattle.std.proofs.Common.{◌≡◌, ℕ, ◌+◌, ◌<◌, ◌≤◌, List, [], ◌∷◌, ◌++◌, length, take, get_or, sym, ap, ◌∙◌, append_assoc}
use Rattle.std.specs.List.{flat_map}
use Rattle.std.proofs.lemmas.Grind.{flat_map-append}
use Rattle.std.proofs.lemmas.List.{append-nil, take_more, take_all}

-- what is printed of one member more
pub flat_map-take : {X : Type 0} (f : X → List ℕ) (xs : List X) (i : ℕ) (x : X) → i < length xs → get_or xs i x ≡ x
    → flat_map f (take (i + 1) xs) ≡ flat_map f (take i xs) ++ f x
flat_map-take f xs i x within is =
    ap (flat_map f) (take_more xs i x within ∙ ap (λ y. take i xs ++ y ∷ []) is)
    ∙ flat_map-append f (take i xs) (x ∷ []) ∙ ap (λ l. flat_map f (take i xs) ++ l) (append-nil (f x))

-- one member more, of members that are printed one behind another
pub member_more : {X : Type 0} (f : X → List ℕ) (xs : List X) (i : ℕ) (x : X) (before out new : List ℕ)
    → i < length xs → get_or xs i x ≡ x → out ≡ before ++ flat_map f (take i xs) → new ≡ out ++ f x
    → new ≡ before ++ flat_map f (take (i + 1) xs)
member_more f xs i x before out new within is printed pushed =
    pushed ∙ ap (λ l. l ++ f x) printed ∙ append_assoc before (flat_map f (take i xs)) (f x)
    ∙ ap (λ l. before ++ l) (sym (flat_map-take f xs i x within is))

-- all members
pub all_members : {X : Type 0} (f : X → List ℕ) (xs : List X) (n : ℕ) (before out : List ℕ) → length xs ≤ n
    → out ≡ before ++ flat_map f (take n xs) → out ≡ before ++ flat_map f xs
all_members f xs n before out all printed = printed ∙ ap (λ ys. before ++ flat_map f ys) (take_all n xs all)
