-- Paths that grow and shrink at their end, and have no variable twice.
use Rattle.std.proofs.Common.{inl, inr, ◌≡◌, ℕ, zero, suc, ◌+◌, ◌-◌, ◌<◌, ◌≤◌, List, [], ◌∷◌, ◌++◌, length, map, take, get_or, cond, ◌==◌, refl, sym, ap, subst, ◌∙◌, arith}
use Rattle.std.proofs.lemmas.Bool.{cases_eq, cases_lt}
use Rattle.std.proofs.lemmas.List.{length-map, take-map, length_push, get_or_push, get_or_append_left}
use Rattle.pop_model.specs.Popping.{variables}
use Rattle.pop_model.proofs.Loops.{path_short}
use Rattle.claim_words.specs.Words.{word_of}
use Rattle.claim_words.specs.Maps.{Pairs, times_in}
use Rattle.claim_words.proofs.Totals.{total-append}
use Rattle.claim_words.proofs.HeldLemmas.{stands_in, one-hit, one-miss, variables-push}
use Rattle.event_finders.specs.Trails.{IsTrail}

-- a path has as many variables
pub variables_long : (p : Pairs) → length (variables p) ≡ length p
variables_long p = length-map p (λ (e : ℕ × ℕ). e.0)

-- the variables of a part
pub variables_take : (n : ℕ) (l : Pairs) → variables (take n l) ≡ take n (variables l)
variables_take n l = sym (take-map (λ (e : ℕ × ℕ). e.0) n l)

-- how often v stands on a path with s at its end
pub times_on : (v : ℕ) (p : Pairs) (s : ℕ × ℕ)
    → times_in v (variables (p ++ s ∷ [])) ≡ times_in v (variables p) + times_in v (s.0 ∷ [])
times_on v p s =
    ap (times_in v) (variables-push p s) ∙ total-append (λ (x : ℕ). cond (x == v) 1 0) (variables p) (s.0 ∷ [])

-- the variable at the end of a path
pub last_variable : (p : Pairs) (s : ℕ × ℕ) (j : ℕ) → j ≡ length p → get_or (variables (p ++ s ∷ [])) j 0 ≡ s.0
last_variable p s j is =
    ap (λ (l : List ℕ). get_or l j 0) (variables-push p s)
    ∙ get_or_push (variables p) s.0 0 j (variables_long p ∙ sym is)

-- those before it
pub before_variable : (p : Pairs) (s : ℕ × ℕ) (j : ℕ) → j < length p
    → get_or (variables (p ++ s ∷ [])) j 0 ≡ get_or (variables p) j 0
before_variable p s j less =
    ap (λ (l : List ℕ). get_or l j 0) (variables-push p s)
    ∙ get_or_append_left (variables p) (s.0 ∷ []) 0 j (omega (arith, less, variables_long p))

-- the variable of what stands there
pub stand_variable : (p : Pairs) (j : ℕ) → (get_or p j (0, 0)).0 ≡ get_or (variables p) j 0
stand_variable [] j = refl
stand_variable (x ∷ p) zero = refl
stand_variable (x ∷ p) (suc j) = stand_variable p j

-- a word stands among those of variables no more often than its variable does
pub words_le : (i : ℕ) (l : List ℕ) → times_in i (map word_of l) ≤ times_in (i - 1) l
words_le i [] = omega arith
words_le i (v ∷ l) = elim (cases_eq (word_of v) i) [
  | inl is ↦
      let same : v ≡ i - 1 = omega (arith, is) in
      omega (arith, one-hit i (word_of v) is, one-hit (i - 1) v same, words_le i l)
  | inr ne ↦ omega (arith, one-miss i (word_of v) ne, words_le i l)
]

-- what stands at two places stands there twice
pub twice : (v : ℕ) (l : List ℕ) (i j : ℕ) → i < j → j < length l → get_or l i 0 ≡ v → get_or l j 0 ≡ v
    → 2 ≤ times_in v l
twice v [] i j less within a b = absurd (omega arith)
twice v (x ∷ l) zero zero less within a b = absurd (omega arith)
twice v (x ∷ l) zero (suc j) less within a b =
    omega (arith, one-hit v x a, stands_in v l j 0 b (omega (arith, within)))
twice v (x ∷ l) (suc i) zero less within a b = absurd (omega arith)
twice v (x ∷ l) (suc i) (suc j) less within a b =
    omega (arith, twice v l i j (omega (arith, less)) (omega (arith, within)) a b)

-- a path that gains a variable that it lacks
module _ (n : ℕ) (p : Pairs) (s : ℕ × ℕ) (is : IsTrail n p) (near : s.0 < n)
    (none : times_in s.0 (variables p) ≡ 0) where
  -- it has each variable once
  once_more : (v : ℕ) → times_in v (variables (p ++ s ∷ [])) ≤ 1
  once_more v = elim (cases_eq s.0 v) [
    | inl same ↦
        let zeroed : times_in v (variables p) ≡ 0 = subst (λ (u : ℕ). times_in u (variables p) ≡ 0) same none in
        omega (arith, times_on v p s, one-hit v s.0 same, zeroed)
    | inr differ ↦ omega (arith, times_on v p s, one-miss v s.0 differ, is.once v)
  ]

  -- all below the count
  below_more : (j : ℕ) → j < suc (length p) → get_or (variables (p ++ s ∷ [])) j 0 < n
  below_more j less = elim (cases_lt j (length p)) [
    | inl within ↦ omega (arith, before_variable p s j within, is.below j within)
    | inr last ↦ omega (arith, last_variable p s j (omega (arith, less, last)), near)
  ]

  -- so there was room for it
  pub room_more : length p < n
  room_more =
      let at : ℕ → ℕ = λ j. get_or (variables (p ++ s ∷ [])) j 0 in
      let size : length (variables (p ++ s ∷ [])) ≡ length p + 1 = variables_long (p ++ s ∷ []) ∙ length_push p s in
      let short = path_short at 0 (suc (length p)) n
      (λ a b from less below same.
      let two = twice (at a) (variables (p ++ s ∷ [])) a b less (omega (arith, below, size)) refl (sym same) in
      absurd (omega (arith, two, once_more (at a))))
      (λ j from less. below_more j (omega (arith, less))) in
      omega (arith, short)

  -- and it is a path again
  pub trail_push : IsTrail n (p ++ s ∷ [])
  trail_push = record {
    once = once_more;
    below = λ j less. below_more j (omega (arith, less, length_push p s));
    short = omega (arith, room_more, length_push p s);
  }

-- a path loses what stands last, which stands nowhere else
module _ (n : ℕ) (p q : Pairs) (s : ℕ × ℕ) (path : p ≡ q ++ s ∷ []) (trail : IsTrail n p) where
  -- the path is longer by one
  longer : length p ≡ length q + 1
  longer = ap length path ∙ length_push q s

  -- its variable is not on the rest
  pub last_off : times_in s.0 (variables q) ≡ 0
  last_off = omega (
    arith,
    trail.once s.0,
    ap (λ (l : Pairs). times_in s.0 (variables l)) path,
    times_on s.0 q s,
    one-hit s.0 s.0 refl,
  )

  -- it is below the count
  pub last_below : s.0 < n
  last_below =
      let at : get_or (variables p) (length q) 0 ≡ s.0 =
      ap (λ (l : Pairs). get_or (variables l) (length q) 0) path ∙ last_variable q s (length q) refl in
      omega (arith, at, trail.below (length q) (omega (arith, longer)))

  -- and the rest is a path
  pub trail_front : IsTrail n q
  trail_front = record {
    once = λ v. omega (arith, trail.once v, ap (λ (l : Pairs). times_in v (variables l)) path, times_on v q s);
    below = λ j less.
        let at : get_or (variables p) j 0 ≡ get_or (variables q) j 0 =
        ap (λ (l : Pairs). get_or (variables l) j 0) path ∙ before_variable q s j less in
        omega (arith, at, trail.below j (omega (arith, less, longer)));
    short = omega (arith, trail.short, longer);
  }
