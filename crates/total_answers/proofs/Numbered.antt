-- What is of a kind is listed by rising keys, key by key, where no two of the kind have one key and it is found of each
-- key whether one has it.
use Rattle.std.proofs.Common.{inl, inr, ◌≡◌, ◌↔◌, ℕ, zero, suc, ◌<◌, List, [], ◌∷◌, ◌++◌, map, get_or, sym, subst, ◌∙◌, arith, Contains}
use Rattle.std.specs.List.Sorted.{IsStrictlyIncreasing}
use Rattle.std.proofs.lemmas.Bool.{cases_eq}
use Rattle.std.proofs.lemmas.List.{map_push}
use Rattle.std.proofs.lemmas.List.Elements.{All-map, Contains-get_or, Contains-push, Contains-push_cases, Contains-append_left}
use Rattle.pop_model.proofs.Rising.{none_in}
use Rattle.pop_instance.proofs.Increasing.{increasing_push}
use Rattle.total_answers.proofs.Deciding.{Finds}

-- those with a key below n, by rising keys
pub record AreBelow {X : Type 0} (key : X → ℕ) (P : X → Type 0) (n : ℕ) (xs : List X) : Type 0 where
  pub rising : IsStrictlyIncreasing (map key xs)
  pub exact : (x : X) → Contains xs x ↔ (P x × (key x < n))

module _ {X : Type 0} (key : X → ℕ) (P : X → Type 0) (one : (x y : X) → P x → P y → key x ≡ key y → x ≡ y) where
  -- none has the next key
  skipped : (n : ℕ) (xs : List X) → AreBelow key P n xs → ((x : X) → P x × (key x ≡ n) → ⊥) → AreBelow key P (suc n) xs
  skipped n xs are none = record {
    rising = are.rising;
    exact = λ x. (
      λ has. let old = (are.exact x).0 has in (old.0, (let less = old.1 in omega (arith, less))),
      λ (is, less). elim (cases_eq (key x) n) [
        | inl last ↦ absurd (none x (is, last))
        | inr other ↦ (are.exact x).1 (is, omega (arith, less, other))
      ],
    );
  }

  -- this one has it
  pushed : (n : ℕ) (xs : List X) → AreBelow key P n xs → (y : X) → P y → key y ≡ n
      → AreBelow key P (suc n) (xs ++ y ∷ [])
  pushed n xs are y is at = record {
    rising = subst IsStrictlyIncreasing (sym (map_push key xs y))
        (increasing_push (map key xs) (key y) are.rising
        (All-map (λ k. k < key y) key xs (λ k d less.
        let low = ((are.exact (get_or xs k d)).0 (Contains-get_or xs k d less)).1 in omega (arith, low, at))));
    exact = λ x. (
      λ has. elim (Contains-push_cases xs y x has) [
        | inl before ↦ let old = (are.exact x).0 before in (old.0, (let less = old.1 in omega (arith, less)))
        | inr same ↦ subst (λ z. P z × (key z < suc n)) same (is, omega (arith, at))
      ],
      λ (p, less). elim (cases_eq (key x) n) [
        | inl last ↦ subst (Contains (xs ++ y ∷ [])) (one y x is p (at ∙ sym last)) (Contains-push xs y)
        | inr other ↦ Contains-append_left xs (y ∷ []) x ((are.exact x).1 (p, omega (arith, less, other)))
      ],
    );
  }

  -- so they are listed
  pub listed : ((k : ℕ) → Finds (λ (x : X). P x × (key x ≡ k))) → (n : ℕ) → (xs : List X) × AreBelow key P n xs
  listed find zero = (
    [],
    record {
      rising = λ k less. absurd (omega (arith, less));
      exact = λ x. (λ has. absurd (none_in x has), λ (is, less). absurd (omega (arith, less)));
    },
  )
  listed find (suc n) =
      let old = listed find n in
      elim (find n) [
        | inr none ↦ (old.0, skipped n old.0 old.1 none)
        | inl found ↦ (old.0 ++ found.0 ∷ [], pushed n old.0 old.1 found.0 found.1.0 found.1.1)
      ]
