-- Cubes that the order doesn't tell apart are equal.
use Rattle.std.proofs.Common.{◌≡◌, ℕ, ◌<◌, true, [], ◌∷◌, refl, sym, ap, ap₂, ◌∙◌, Less, Equal, Greater}
use Rattle.std.specs.declared.cmp.Ordering.{Ordering}
use Rattle.std.specs.Ordering.{nat_cmp, is_eq, ordering_then, eq_by_cmp}
use Rattle.std.proofs.lemmas.Cmp.{ranked, by_ranked, tied_itself}
use Rattle.pop_model.specs.Popping.{Cube}
use Rattle.pop_instance.specs.Cubes.{pair_cmp, cube_cmp, cube_total}

-- numbers that tie are equal
pub nat_ties : (x y : ℕ) → nat_cmp x y ≡ Equal → x ≡ y
nat_ties x y ties = by_ranked (x < y) (x ≡ y) (y < x) (nat_cmp x y) (ranked x y (nat_cmp x y) refl) (λ is less. cc)
    (λ is same. same) (λ is more. cc)

-- two comparisons behind one another tie only where both do
then_ties : (a b : Ordering) → ordering_then a b ≡ Equal → (a ≡ Equal) × (b ≡ Equal)
then_ties Less b ties = cc
then_ties Equal b ties = (refl, ties)
then_ties Greater b ties = cc

-- cubes that tie are equal
pub cube_ties : (e f : Cube) → cube_cmp e f ≡ Equal → e ≡ f
cube_ties [] [] ties = refl
cube_ties [] (q ∷ f) ties = cc
cube_ties (p ∷ e) [] ties = cc
cube_ties (p ∷ e) (q ∷ f) ties =
    let parts = then_ties (pair_cmp p q) (cube_cmp e f) ties in
    let pair = then_ties (nat_cmp p.0 q.0) (nat_cmp p.1 q.1) parts.0 in
    let same : p ≡ q = ap₂ (λ (m n : ℕ). (m, n)) (nat_ties p.0 q.0 pair.0) (nat_ties p.1 q.1 pair.1) in
    ap₂ (λ (r : ℕ × ℕ) (g : Cube). r ∷ g) same (cube_ties e f parts.1)

-- a cube ties with itself
pub cube_ties_itself : (e : Cube) → cube_cmp e e ≡ Equal
cube_ties_itself e = tied_itself cube_total e

-- equal cubes, and no others, pass the test of equality
pub cube_eq : (e f : Cube) → (eq_by_cmp cube_cmp e f ≡ true → e ≡ f) × (e ≡ f → eq_by_cmp cube_cmp e f ≡ true)
cube_eq e f =
    (λ is. cube_ties e f (is_tie (cube_cmp e f) is), λ same. ap is_eq (ap (cube_cmp e) (sym same) ∙ cube_ties_itself e))
  where
    is_tie : (o : Ordering) → is_eq o ≡ true → o ≡ Equal
    is_tie Less is = cc
    is_tie Equal is = refl
    is_tie Greater is = cc
