-- Two lists without repetition whose members are matched one to one have one length, and weights in proportion.
use Rattle.std.proofs.Common.{inl, inr, ◌≡◌, ◌≢◌, ◌⊎◌, ℕ, zero, suc, ◌+◌, ◌*◌, List, [], ◌∷◌, length, get_or, refl, sym, ap, subst, ◌∙◌, arith, Contains}
use Rattle.std.specs.List.{AllPairs, sum_by}
use Rattle.std.proofs.lemmas.List.Sums.{sum_by-cons}
use Rattle.std.proofs.lemmas.List.Kept.{AllPairs-cons}
use Rattle.std.proofs.lemmas.List.Elements.{Contains-get_or}
use Rattle.std.proofs.Math.Nat.{add-mul}
use Rattle.pop_model.proofs.Rising.{member_cases, head_member, tail_member}

-- no two members of the list are the same
abbrev pub Differ : {X : Type 0} → List X → Type 0
Differ {X} xs = AllPairs (λ (x y : X). x ≢ y) xs

-- nor of its tail
pub tail_differ : {X : Type 0} → (x : X) (xs : List X) → Differ (x ∷ xs) → Differ xs
tail_differ x xs differ i j d less within = differ (suc i) (suc j) d (omega (arith, less)) (omega (arith, within))

-- the head is no member of the tail
pub head_differs : {X : Type 0} → (x : X) (xs : List X) → Differ (x ∷ xs) → (y : X) → Contains xs y → x ≢ y
head_differs x xs differ y (k, within, is) same =
    differ 0 (suc k) y (omega arith) (omega (arith, within)) (same ∙ sym is)

-- another member may be put in front
pub cons_differs : {X : Type 0} → (x : X) (xs : List X) → ((y : X) → Contains xs y → x ≢ y) → Differ xs
    → Differ (x ∷ xs)
cons_differs {X} x xs each differ =
    AllPairs-cons (λ (a b : X). a ≢ b) x xs (λ k d h. each (get_or xs k d) (Contains-get_or xs k d h)) differ

-- a list without one of its members
pub record Without {X : Type 0} (f : X → ℕ) (ys : List X) (s : X) : Type 0 where
  pub rest : List X
  pub size : length ys ≡ suc (length rest)
  pub total : sum_by f ys ≡ f s + sum_by f rest
  pub differ : Differ rest
  pub apart : (z : X) → Contains rest z → s ≢ z
  pub there : (z : X) → Contains ys z → (s ≡ z) ⊎ Contains rest z
  pub back : (z : X) → Contains rest z → Contains ys z

-- it is there for each member
pub without : {X : Type 0} → (f : X → ℕ) (ys : List X) (s : X) → Differ ys → Contains ys s → Without f ys s
without {X} f [] s differ has = absurd (omega (arith, has.1))
without {X} f (y ∷ ys) s differ (zero, within, same) = record {
  rest = ys;
  size = refl;
  total = sum_by-cons f y ys ∙ ap (λ (x : X). f x + sum_by f ys) same;
  differ = tail_differ y ys differ;
  apart = λ z has e. head_differs y ys differ z has (same ∙ e);
  there = λ z has. elim (member_cases y ys z has) [ inl is ↦ inl (sym same ∙ is) | inr behind ↦ inr behind ];
  back = λ z has. tail_member y ys z has;
}
without {X} f (y ∷ ys) s differ (suc k, within, same) =
    let in_tail : Contains ys s = (k, omega (arith, within), same) in
    let old : Without f ys s = without f ys s (tail_differ y ys differ) in_tail in
    record {
      rest = y ∷ old.rest;
      size = ap suc old.size;
      total =
          let a : sum_by f (y ∷ ys) ≡ f y + sum_by f ys = sum_by-cons f y ys in
          let b : sum_by f (y ∷ old.rest) ≡ f y + sum_by f old.rest = sum_by-cons f y old.rest in
          let c = old.total in
          omega (arith, a, b, c);
      differ = cons_differs y old.rest (λ z has. head_differs y ys differ z (old.back z has)) old.differ;
      apart = λ z has e. elim (member_cases y old.rest z has) [
        | inl is ↦ head_differs y ys differ s in_tail (is ∙ sym e)
        | inr behind ↦ old.apart z behind e
      ];
      there = λ z has. elim (member_cases y ys z has) [
        | inl is ↦ inr (subst (Contains (y ∷ old.rest)) is (head_member y old.rest))
        | inr behind ↦ elim (old.there z behind) [ inl is ↦ inl is | inr more ↦ inr (tail_member y old.rest z more) ]
      ];
      back = λ z has. elim (member_cases y old.rest z has) [
        | inl is ↦ subst (Contains (y ∷ ys)) is (head_member y ys)
        | inr behind ↦ tail_member y ys z (old.back z behind)
      ];
    }

-- a relation that matches at most one, either way, and with each the weight in proportion
pub record Matches {X : Type 0} (R : X → X → Type 0) (f : X → ℕ) (a b : ℕ) : Type 0 where
  pub weight : (r s : X) → R r s → f r * b ≡ f s * a
  pub once : (r s z : X) → R r s → R r z → s ≡ z
  pub one : (r q s : X) → R r s → R q s → r ≡ q

-- as many, and of weights in proportion
pub record Alike {X : Type 0} (f : X → ℕ) (a b : ℕ) (xs ys : List X) : Type 0 where
  pub size : length xs ≡ length ys
  pub total : sum_by f xs * b ≡ sum_by f ys * a

-- each of the first has a partner in the second
abbrev pub Partners : {X : Type 0} → (X → X → Type 0) → List X → List X → Type 0
Partners {X} R xs ys = (r : X) → Contains xs r → (s : X) × Contains ys s × R r s

-- each of the second is the partner of one of the first
abbrev pub Back : {X : Type 0} → (X → X → Type 0) → List X → List X → Type 0
Back {X} R xs ys = (s : X) → Contains ys s → (r : X) × Contains xs r × R r s

-- lists that are matched either way are alike: the head and its partner are taken away together
pub alike : {X : Type 0} → (R : X → X → Type 0) (f : X → ℕ) (a b : ℕ) → Matches R f a b → (xs ys : List X)
    → Differ xs → Differ ys → Partners R xs ys → Back R xs ys → Alike f a b xs ys
alike R f a b m [] [] differ differ' to fro = record { size = refl; total = omega arith }
alike R f a b m [] (y ∷ ys) differ differ' to fro =
    let none = fro y (head_member y ys) in absurd (let h = none.1.1 in omega (arith, h))
alike {X} R f a b m (x ∷ xs) ys differ differ' to fro =
    let mine = to x (head_member x xs) in
    let s : X = mine.0 in
    let out : Without f ys s = without f ys s differ' mine.1 in
    let to' : Partners R xs out.rest = λ r has.
    let his = to r (tail_member x xs r has) in
    elim (out.there his.0 his.1) [
      | inl is ↦ absurd (head_differs x xs differ r has (m.one x r his.0 (subst (R x) is mine.2) his.2))
      | inr more ↦ (his.0, more, his.2)
    ] in
    let fro' : Back R xs out.rest = λ z has.
    let his = fro z (out.back z has) in
    elim (member_cases x xs his.0 his.1) [
      | inl is ↦ absurd (out.apart z has (m.once x s z mine.2 (subst (λ r. R r z) (sym is) his.2)))
      | inr more ↦ (his.0, more, his.2)
    ] in
    let rest : Alike f a b xs out.rest = alike R f a b m xs out.rest (tail_differ x xs differ) out.differ to' fro' in
    record {
      size = ap suc rest.size ∙ sym out.size;
      total =
          let here : sum_by f (x ∷ xs) * b ≡ f x * b + sum_by f xs * b =
          ap (λ (n : ℕ). n * b) (sum_by-cons f x xs) ∙ add-mul (f x) (sum_by f xs) b in
          let there : sum_by f ys * a ≡ f s * a + sum_by f out.rest * a =
          ap (λ (n : ℕ). n * a) out.total ∙ add-mul (f s) (sum_by f out.rest) a in
          let head : f x * b ≡ f s * a = m.weight x s mine.2 in
          let behind : sum_by f xs * b ≡ sum_by f out.rest * a = rest.total in
          omega (arith, here, there, head, behind);
    }
