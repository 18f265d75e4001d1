-- Sums over lists that change at one place, and maps that are lists of pairs.
use Rattle.std.proofs.Common.{◌≡◌, ℕ, zero, suc, ◌+◌, ◌<◌, ◌≤◌, ◌≢◌, List, [], ◌∷◌, ◌++◌, length, get_or, set, sym, ◌∙◌, refl, ap, subst, arith, cond, eq-eqb, ne_eqb, get_or-set_same, get_or-set_other, ⊎_elim}
use Rattle.std.proofs.lemmas.Bool.Decides.{nat_tests}
use mathlib.Core.Logic.{dite}
use native.Mathlib.Decide.{ℕ_discrete}
use mathlib.Core.Option.{some, some-injective, some-ne-none}
use lib.ListN.{get_elem?}
use Rattle.atomic_table.proofs.Lists.{at_set}
use Rattle.claim_words.specs.Maps.{total, Each, Pairs, is_at, times, without, look, raise}
use Rattle.claim_words.specs.Steps.{advanced_by}
use Rattle.claim_words.specs.Conditions.{IsDue}
use Rattle.claim_words.specs.declared.view.View.{View}

module _ {A : Type 0} (g : A → ℕ) where
  -- the weight of two lists
  pub total-append : (l m : List A) → total g (l ++ m) ≡ total g l + total g m
  total-append [] m = omega arith
  total-append (x ∷ xs) m = omega (arith, total-append xs m)

  -- the weight once a member is another
  pub total-set : (l : List A) (j : ℕ) (v w : A) → get_elem? l j ≡ some v → total g (set l j w) + g v ≡ total g l + g w
  total-set [] j v w e = absurd (some-ne-none v (sym e))
  total-set (x ∷ xs) zero v w e = omega (arith, ap g (some-injective x v e))
  total-set (x ∷ xs) (suc j) v w e = omega (arith, total-set xs j v w e)

  -- it stays where the other weighs as much
  pub total-same : (l : List A) (j : ℕ) (v w : A) → get_elem? l j ≡ some v → g w ≡ g v → total g (set l j w) ≡ total g l
  total-same l j v w e same = omega (arith, total-set l j v w e)

  -- a member weighs no more than all
  pub term_le : (l : List A) (j : ℕ) (v : A) → get_elem? l j ≡ some v → g v ≤ total g l
  term_le [] j v e = absurd (some-ne-none v (sym e))
  term_le (x ∷ xs) zero v e = omega (arith, ap g (some-injective x v e))
  term_le (x ∷ xs) (suc j) v e = omega (arith, term_le xs j v e)

  -- nor do two
  pub terms_le : (l : List A) (j k : ℕ) (v u : A) → k ≢ j → get_elem? l j ≡ some v → get_elem? l k ≡ some u
      → g v + g u ≤ total g l
  terms_le [] j k v u n e d = absurd (some-ne-none v (sym e))
  terms_le (x ∷ xs) zero zero v u n e d = absurd (n refl)
  terms_le (x ∷ xs) zero (suc k) v u n e d = omega (arith, ap g (some-injective x v e), term_le xs k u d)
  terms_le (x ∷ xs) (suc j) zero v u n e d = omega (arith, ap g (some-injective x u d), term_le xs j v e)
  terms_le (x ∷ xs) (suc j) (suc k) v u n e d = omega (arith, terms_le xs j k v u (λ h. n (ap suc h)) e d)

module _ {A : Type 0} (f g : A → ℕ) where
  -- where nothing weighs anything by f, nothing does by g
  pub total-none : (l : List A) → ((j : ℕ) (x : A) → get_elem? l j ≡ some x → f x ≡ 0 → g x ≡ 0) → total f l ≡ 0
      → total g l ≡ 0
  total-none [] h e = refl
  total-none (x ∷ xs) h e = omega
      (arith, h 0 x refl (omega arith), total-none xs (λ j y at. h (suc j) y at) (omega arith))

  -- where one member has the whole weight f, it has the whole weight g
  pub alone : (l : List A) (i : ℕ) (a : A) → get_elem? l i ≡ some a
      → ((j : ℕ) (x : A) → get_elem? l j ≡ some x → f x ≡ 0 → g x ≡ 0) → total f l ≡ f a → total g l ≡ g a
  alone [] i a me h e = absurd (some-ne-none a (sym me))
  alone (x ∷ xs) zero a me h e = let same = some-injective x a me in
      omega (arith, ap f same, ap g same, total-none xs (λ j y at. h (suc j) y at) (omega (arith, ap f same)))
  alone (x ∷ xs) (suc i) a me h e = let le = term_le f xs i a me in
      omega (arith, h 0 x refl (omega arith), alone xs i a me (λ j y at. h (suc j) y at) (omega arith))

module _ {A : Type 0} where
  -- what follows from what holds of each
  pub each-map : (P Q : A → Type 0) → ((a : A) → P a → Q a) → (l : List A) → Each P l → Each Q l
  each-map P Q f [] h = tt
  each-map P Q f (x ∷ xs) h = (f x h.0, each-map P Q f xs h.1)

  -- it holds of each of two lists
  pub each-append : (P : A → Type 0) (l m : List A) → Each P l → Each P m → Each P (l ++ m)
  each-append P [] m h i = i
  each-append P (x ∷ xs) m h i = (h.0, each-append P xs m h.1 i)

-- it holds of each member, once one is another
pub each_set : {A : Type 0} (P : A → Type 0) (l : List A) (i : ℕ) (a : A) → P a
    → ((j : ℕ) (x : A) → j ≢ i → get_elem? l j ≡ some x → P x) → (j : ℕ) (x : A) → get_elem? (set l i a) j ≡ some x → P x
each_set P l i a here else j x at =
    ⊎_elim (λ t. subst P t.1 here) (λ t. else j x t.0 t.1) (at_set l i j a x at)

-- the word of the variable u, once the word of v is n
pub at_word : (ws : List ℕ) (v n u : ℕ) (Q : ℕ → Type 0) → 1 + v < length ws → (u ≡ v → Q n)
    → (u ≢ v → Q (get_or ws (1 + u) 0)) → Q (get_or (set ws (1 + v) n) (1 + u) 0)
at_word ws v n u Q h here else = dite (ℕ_discrete u v)
    (λ e. subst (λ (x : ℕ). Q (get_or (set ws (1 + v) n) (1 + x) 0)) (sym e)
    (subst Q (sym (get_or-set_same ws (1 + v) n 0 h)) (here e)))
    (λ ne. subst Q (sym (get_or-set_other ws (1 + v) (1 + u) n 0 (λ e. ne (omega arith)))) (else ne))

-- the first pair is left out
pub without-hit : (v : ℕ) (p : ℕ × ℕ) (ps : Pairs) → p.0 ≡ v → without v (p ∷ ps) ≡ without v ps
without-hit v p ps e = ap (λ b. cond b (without v ps) (p ∷ without v ps)) (eq-eqb p.0 v e)

-- the first pair isn't
pub without-miss : (v : ℕ) (p : ℕ × ℕ) (ps : Pairs) → p.0 ≢ v → without v (p ∷ ps) ≡ p ∷ without v ps
without-miss v p ps ne = ap (λ b. cond b (without v ps) (p ∷ without v ps)) (ne_eqb p.0 v ne)

-- a pair of v
pub is_at-yes : (v : ℕ) (p : ℕ × ℕ) → p.0 ≡ v → is_at v p ≡ 1
is_at-yes v p e = ap (λ b. cond b 1 0) (eq-eqb p.0 v e)

-- a pair of another variable
pub is_at-no : (v : ℕ) (p : ℕ × ℕ) → p.0 ≢ v → is_at v p ≡ 0
is_at-no v p ne = ap (λ b. cond b 1 0) (ne_eqb p.0 v ne)

-- v is left out
pub times-without_same : (v : ℕ) (l : Pairs) → times v (without v l) ≡ 0
times-without_same v [] = refl
times-without_same v (p ∷ ps) = grind (arith, nat_tests, times-without_same v ps)

-- others stay
pub times-without_other : (v u : ℕ) (l : Pairs) → u ≢ v → times u (without v l) ≡ times u l
times-without_other v u [] n = refl
times-without_other v u (p ∷ ps) n = grind (arith, nat_tests, times-without_other v u ps n)

-- what holds of each holds of those that are left
pub each-without : (P : ℕ × ℕ → Type 0) (v : ℕ) (l : Pairs) → Each P l → Each P (without v l)
each-without P v [] h = tt
each-without P v (p ∷ ps) h = dite (ℕ_discrete p.0 v)
    (λ e. rw (eq-eqb p.0 v e) (each-without P v ps h.1))
    (λ ne. rw (ne_eqb p.0 v ne) (h.0, each-without P v ps h.1))

-- what isn't there is not left out
pub without-none : (v : ℕ) (l : Pairs) → times v l ≡ 0 → without v l ≡ l
without-none v [] e = refl
without-none v (p ∷ ps) e = grind (arith, nat_tests, without-none v ps)

-- the number of the first pair
pub look-hit : (v : ℕ) (p : ℕ × ℕ) (ps : Pairs) → p.0 ≡ v → look v (p ∷ ps) ≡ p.1
look-hit v p ps e = ap (λ b. cond b p.1 (look v ps)) (eq-eqb p.0 v e)

-- the number of another
pub look-miss : (v : ℕ) (p : ℕ × ℕ) (ps : Pairs) → p.0 ≢ v → look v (p ∷ ps) ≡ look v ps
look-miss v p ps ne = ap (λ b. cond b p.1 (look v ps)) (ne_eqb p.0 v ne)

-- it holds of v with its number
pub each-look : (P : ℕ × ℕ → Type 0) (l : Pairs) (v : ℕ) → 1 ≤ times v l → Each P l → P (v, look v l)
each-look P [] v h a = absurd (omega arith)
each-look P (p ∷ ps) v h a = dite (ℕ_discrete p.0 v)
    (λ e. rw (eq-eqb p.0 v e) (subst (λ (x : ℕ). P (x, p.1)) e a.0))
    (λ ne. rw (ne_eqb p.0 v ne) (each-look P ps v (omega (arith, is_at-no v p ne)) a.1))

-- raising changes no variable
pub times-raise : (v u : ℕ) (l : Pairs) → times u (raise v l) ≡ times u l
times-raise v u [] = refl
times-raise v u (p ∷ ps) = grind (arith, nat_tests, times-raise v u ps)

-- what follows once the number of v is 1 higher
pub each-raise : (P Q : ℕ × ℕ → Type 0) (v : ℕ) (l : Pairs) → ((p : ℕ × ℕ) → p.0 ≡ v → P p → Q (p.0, p.1 + 1))
    → ((p : ℕ × ℕ) → p.0 ≢ v → P p → Q p) → Each P l → Each Q (raise v l)
each-raise P Q v [] f g h = tt
each-raise P Q v (p ∷ ps) f g h = dite (ℕ_discrete p.0 v)
    (λ e. rw (eq-eqb p.0 v e) (f p e h.0, each-raise P Q v ps f g h.1))
    (λ ne. rw (ne_eqb p.0 v ne) (g p ne h.0, each-raise P Q v ps f g h.1))

-- an empty map has no variable
pub times-none : (l : Pairs) (v : ℕ) → length l ≡ 0 → times v l ≡ 0
times-none [] v e = refl
times-none (p ∷ ps) v e = absurd (omega arith)

-- an advance of the first pair that is due
pub due_next : (n : ℕ) (d : View) (p : ℕ × ℕ) (rest : Pairs) → IsDue n d (p ∷ rest) → IsDue n (advanced_by d p.0) rest
due_next n d p rest due = let none : times p.0 rest ≡ 0 = omega (arith, due.1 p.0, is_at-yes p.0 p refl) in (
  ap (without p.0) due.0 ∙ without-hit p.0 p rest refl ∙ without-none p.0 rest none,
  (λ v. omega (arith, due.1 v)),
  each-map (λ q. (q.0 < n) × (times q.0 d.held ≡ 1)) (λ q. (q.0 < n) × (times q.0 (raise p.0 d.held) ≡ 1))
      (λ q h. (h.0, times-raise p.0 q.0 d.held ∙ h.1)) rest due.2.1,
)

-- weights of 1 count
pub total-one : {A : Type 0} (l : List A) → total (λ _. 1) l ≡ length l
total-one [] = refl
total-one (x ∷ xs) = omega (arith, total-one xs)

-- a member has a place below the length
pub inside : {A : Type 0} (l : List A) (i : ℕ) (a : A) → get_elem? l i ≡ some a → i < length l
inside [] i a e = absurd (some-ne-none a (sym e))
inside (x ∷ xs) zero a e = omega arith
inside (x ∷ xs) (suc i) a e = omega (arith, inside xs i a e)

-- both hold of each
pub each-both : {A : Type 0} (P Q : A → Type 0) (l : List A) → Each P l → Each Q l → Each (λ a. P a × Q a) l
each-both P Q [] h i = tt
each-both P Q (x ∷ xs) h i = ((h.0, i.0), each-both P Q xs h.1 i.1)
