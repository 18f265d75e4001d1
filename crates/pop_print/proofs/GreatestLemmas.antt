-- The greatest of numbers, one after another.
use Rattle.std.proofs.Common.{◌≡◌, ℕ, zero, suc, ◌+◌, ◌<◌, ◌≤◌, max, List, [], ◌∷◌, length, take, get_or, refl, ap, ap₂, ◌∙◌, subst, sym, inl, inr, arith}
use Rattle.std.specs.Prelude.{Contains}
use Rattle.std.specs.Ordering.{nat_cmp, ord_max}
use Rattle.std.proofs.Math.Nat.{max-eq_left, max-eq_right}
use Rattle.std.proofs.lemmas.Bool.{cases_lt}
use Rattle.std.proofs.lemmas.Bool.Decides.{nat_tests}
use Rattle.std.proofs.lemmas.List.{take_more}
use Rattle.std.proofs.lemmas.List.Elements.{All-from_get_or}
use Rattle.std.proofs.lemmas.List.Recursion.{max_bounds, max_push}
use Rattle.pop_print.specs.Made.{greatest, IsGreatest}

-- what `max` answers
max_is : (n m : ℕ) → ord_max nat_cmp n m ≡ max n m
max_is n m = grind (arith, nat_tests)

-- with a number more
pub greatest_more : (ns : List ℕ) (i m n : ℕ) → i < length ns → m ≡ greatest (take i ns) → n ≡ get_or ns i 0
    → ord_max nat_cmp m n ≡ greatest (take (i + 1) ns)
greatest_more ns i m n below most here =
    max_is m n ∙ ap₂ max most here
    ∙ sym (ap greatest (take_more ns i 0 below)
    ∙ max_push greatest (λ k. k) refl (λ _ _. refl) (take i ns) (get_or ns i 0))

-- a member stays one behind a number that is put in
put_in : (a b m : ℕ) (ns : List ℕ) → Contains (a ∷ ns) m → Contains (a ∷ b ∷ ns) m
put_in a b m ns (zero, below, at) = (0, omega arith, at)
put_in a b m ns (suc k, below, at) = (suc (suc k), omega arith, at)

-- the greatest is one of the numbers or 0
greatest_reached : (ns : List ℕ) → Contains (0 ∷ ns) (greatest ns)
greatest_reached [] = (0, omega arith, refl)
greatest_reached (n ∷ ns) =
    let In : ℕ → Type 0 = Contains (0 ∷ n ∷ ns) in
    elim (cases_lt n (greatest ns)) [
      | inl more ↦
          subst In (sym (max-eq_right (omega (arith, more)))) (put_in 0 n (greatest ns) ns (greatest_reached ns))
      | inr most ↦ subst In (sym (max-eq_left most)) (1, omega arith, refl)
    ]

-- and none of them is more
pub greatest_is : (ns : List ℕ) → IsGreatest ns (greatest ns)
greatest_is ns =
    record {
      reached = greatest_reached ns;
      greatest = All-from_get_or (λ n. n ≤ greatest ns) ns 0
          (λ i below. max_bounds greatest (λ n. n) refl (λ _ _. refl) ns i 0 below);
    }
