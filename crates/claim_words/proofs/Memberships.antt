-- Members of lists.
use Rattle.std.proofs.Common.{◌≡◌, ℕ, ◌≤◌, ◌≢◌, ◌⊎◌, List, [], ◌∷◌, ◌++◌, sym, refl, ap, ◌∙◌, subst, inl, inr, ⊎_elim, arith}
use Rattle.claim_words.proofs.SharersAreOwed.{find_in}
use Rattle.claim_words.proofs.Totals.{is_at-yes}
use mathlib.Core.Logic.{dite}
use native.Mathlib.Decide.{ℕ_discrete}
use Rattle.claim_words.specs.Maps.{total, Each, In, taken_out, Pairs, is_at, times}
use Rattle.claim_words.proofs.HeldLemmas.{taken-hit, taken-miss}

module _ {A : Type 0} where
  -- a member weighs no more than all
  pub in_le : (g : A → ℕ) (a : A) (l : List A) → In a l → g a ≤ total g l
  in_le g a [] i = absurd i
  in_le g a (x ∷ xs) i = ⊎_elim (λ (e : x ≡ a). omega (arith, ap g e))
      (λ (m : In a xs). omega (arith, in_le g a xs m)) i

  -- equal weights of the members have equal sums
  pub same-in : (f g : A → ℕ) (l : List A) → ((a : A) → In a l → f a ≡ g a) → total f l ≡ total g l
  same-in f g [] h = refl
  same-in f g (x ∷ xs) h = omega (arith, h x (inl refl), same-in f g xs (λ a i. h a (inr i)))

  -- a member of two lists one behind another is one of either
  pub in_append : (a : A) (l m : List A) → In a (l ++ m) → In a l ⊎ In a m
  in_append a [] m i = inr i
  in_append a (x ∷ xs) m i = ⊎_elim (λ (e : x ≡ a). inl (inl e))
      (λ (n : In a (xs ++ m)). ⊎_elim (λ q. inl (inr q)) (λ q. inr q) (in_append a xs m n)) i

  -- the member of a list of one
  pub in_one : (a b : A) → In a (b ∷ []) → b ≡ a
  in_one a b i = ⊎_elim (λ (e : b ≡ a). e) (λ (n : In a []). absurd n) i

  -- a member of the first of two lists
  pub in_left : (a : A) (l m : List A) → In a l → In a (l ++ m)
  in_left a [] m i = absurd i
  in_left a (x ∷ xs) m i = ⊎_elim (λ (e : x ≡ a). inl e) (λ (n : In a xs). inr (in_left a xs m n)) i

  -- a member of the second of two lists
  pub in_right : (a : A) (l m : List A) → In a m → In a (l ++ m)
  in_right a [] m i = i
  in_right a (x ∷ xs) m i = inr (in_right a xs m i)

  -- an empty list has no member
  pub none_in : (a : A) (l : List A) → l ≡ [] → In a l → ⊥
  none_in a l e i = let z : In a [] = subst (λ m. In a m) e i in z

  -- what holds of every member holds of each
  pub each_from : (P : A → Type 0) (l : List A) → ((a : A) → In a l → P a) → Each P l
  each_from P [] h = tt
  each_from P (x ∷ xs) h = (h x (inl refl), each_from P xs (λ a i. h a (inr i)))

  -- what holds of each holds of a member
  pub each_in_list : (P : A → Type 0) (l : List A) → Each P l → (a : A) → In a l → P a
  each_in_list P [] h a i = absurd i
  each_in_list P (x ∷ xs) h a i = ⊎_elim (λ (e : x ≡ a). subst P e h.0)
      (λ (m : In a xs). each_in_list P xs h.1 a m) i

-- what follows for the pairs of a map, each of which has a variable of it
pub each-in : (P Q : ℕ × ℕ → Type 0) (l : Pairs) → ((p : ℕ × ℕ) → 1 ≤ times p.0 l → P p → Q p) → Each P l → Each Q l
each-in P Q l f h = each_from Q l (λ p i.
    f p (omega (arith, in_le (is_at p.0) p l i, is_at-yes p.0 p refl)) (each_in_list P l h p i))

-- it holds of a pair of v
pub each-find : (P : ℕ × ℕ → Type 0) (l : Pairs) (v : ℕ) → 1 ≤ times v l → Each P l → (x : ℕ) × P (v, x)
each-find P l v h all = let t = find_in v l h in (t.0, each_in_list P l all (v, t.0) t.1)

-- a member stays where another is taken out
pub in_taken_out : (w u : ℕ) (l : List ℕ) → w ≢ u → In w l → In w (taken_out u l)
in_taken_out w u [] ne i = absurd i
in_taken_out w u (x ∷ xs) ne i = dite (ℕ_discrete x u)
    (λ e. subst (In w) (sym (taken-hit u x xs e))
    (⊎_elim (λ (q : x ≡ w). absurd (ne (sym q ∙ e))) (λ (n : In w xs). in_taken_out w u xs ne n) i))
    (λ n. subst (In w) (sym (taken-miss u x xs n))
    (⊎_elim (λ (q : x ≡ w). inl q) (λ (m : In w xs). inr (in_taken_out w u xs ne m)) i))

-- what holds of each holds of those that are left
pub each_taken_out : (P : ℕ → Type 0) (u : ℕ) (l : List ℕ) → Each P l → Each P (taken_out u l)
each_taken_out P u [] h = tt
each_taken_out P u (x ∷ xs) h = dite (ℕ_discrete x u)
    (λ e. subst (Each P) (sym (taken-hit u x xs e)) (each_taken_out P u xs h.1))
    (λ n. subst (Each P) (sym (taken-miss u x xs n)) (h.0, each_taken_out P u xs h.1))
