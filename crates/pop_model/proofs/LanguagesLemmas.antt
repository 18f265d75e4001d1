-- How a first bad place is shown.
use Rattle.std.proofs.Common.{◌≡◌, suc, ◌+◌, List, [], ◌∷◌, ◌++◌, length, take, refl, sym, ap, subst, ◌∙◌, arith, length-append}
use Rattle.std.proofs.Math.Seq.{take-append_seam, take-length}
use Rattle.pop_model.specs.Languages.{Begins, IsFirstBad}

-- one element in the middle goes with the front
pub regroup : {X : Type 0} → (front : List X) (x : X) (rest : List X) → front ++ x ∷ rest ≡ (front ++ x ∷ []) ++ rest
regroup [] x rest = refl
regroup (y ∷ front) x rest = ap (λ l. y ∷ l) (regroup front x rest)

-- the front begins a member, and with one more element it begins none
pub first_bad : {X : Type 0} → (In : List X → Type 0) (front : List X) (x : X) (rest : List X) → Begins In front
    → ((more : List X) → In (front ++ x ∷ more) → ⊥) → IsFirstBad In (front ++ x ∷ rest) (suc (length front))
first_bad In front x rest begins none =
    let seam : take (length front) (front ++ x ∷ rest) ≡ front = take-append_seam front (x ∷ rest) in
    let size : length (front ++ x ∷ []) ≡ suc (length front) = length-append front (x ∷ []) ∙ omega arith in
    let longer : take (suc (length front)) (front ++ x ∷ rest) ≡ front ++ x ∷ [] =
    ap (λ n. take n (front ++ x ∷ rest)) (sym size) ∙ ap (take (length (front ++ x ∷ []))) (regroup front x rest)
    ∙ take-append_seam (front ++ x ∷ []) rest in
    let whole : length (front ++ x ∷ rest) ≡ length front + length (x ∷ rest) = length-append front (x ∷ rest) in
    record {
      outside = none rest;
      place = (length front, refl, omega (arith, whole), subst (Begins In) (sym seam) begins);
      bad = λ h (more, member). none more (subst In (sym (regroup front x more)) (subst (λ l. In (l ++ more)) longer member));
    }

-- it begins a member and is none
pub ends_early : {X : Type 0} → (In : List X → Type 0) (xs : List X) → Begins In xs → (In xs → ⊥)
    → IsFirstBad In xs (suc (length xs))
ends_early In xs begins outside =
    record {
      outside = outside;
      place = (length xs, refl, omega arith, subst (Begins In) (sym (take-length xs)) begins);
      bad = λ h. absurd (omega arith);
    }
