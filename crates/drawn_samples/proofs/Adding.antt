-- Tables that end with listed samples: their count is the sum of the counts of each, so what is known of the counts of
-- each is known of all together.
use Rattle.std.proofs.Common.{inl, inr, ◌≡◌, ◌⊎◌, ℕ, ◌+◌, ◌*◌, ◌≤◌, List, [], ◌∷◌, sym, ap, subst, ◌∙◌, arith, Contains}
use Rattle.std.specs.List.{sum_by}
use Rattle.std.proofs.lemmas.List.Sums.{sum_by-cons}
use Rattle.std.proofs.Math.Nat.{add-mul, mul_comm, zero-mul}
use Rattle.pop_model.proofs.Rising.{member_cases, head_member, tail_member, none_in}
use Rattle.pop_samples.specs.Frames.{Frame, Rows}
use Rattle.pop_samples.proofs.Matching.{Differ, head_differs, tail_differ}
use Rattle.key_samples.specs.Counts.{Count}
use Rattle.key_samples.specs.Numbers.{Numbers, TableOf}
use Rattle.key_samples.proofs.Counting.{count_either, count_none, same_count}
use Rattle.drawn_samples.specs.Drawn.{TableAmong}

module _ (f : Frame) (Kind : List ℕ → Rows → Type 0) where
  -- the tables of listed samples
  abbrev pub Among : List (List ℕ) → Numbers → Type 0
  Among xs = TableAmong f Kind xs

  -- how many there are, with what holds of sums
  pub record Added (xs : List (List ℕ)) : Type 0 where
    pub total : ℕ
    pub count : Count (Among xs) total
    -- where each counts at least so much of its weight, so do all,
    pub at_least : (weight : List ℕ → ℕ) (a b : ℕ)
        → ((x : List ℕ) (k : ℕ) → Contains xs x → Count (TableOf f (Kind x)) k → a * weight x ≤ k * b)
        → a * sum_by weight xs ≤ total * b
    -- and where each counts at most so much
    pub at_most : (weight : List ℕ → ℕ) (a b : ℕ)
        → ((x : List ℕ) (k : ℕ) → Contains xs x → Count (TableOf f (Kind x)) k → k * b ≤ a * weight x)
        → total * b ≤ a * sum_by weight xs

  -- a product with a sum
  spread : (weight : List ℕ → ℕ) (a : ℕ) (x : List ℕ) (xs : List (List ℕ))
      → a * sum_by weight (x ∷ xs) ≡ a * weight x + a * sum_by weight xs
  spread weight a x xs =
      ap (λ (n : ℕ). a * n) (sum_by-cons weight x xs) ∙ mul_comm a (weight x + sum_by weight xs)
      ∙ add-mul (weight x) (sum_by weight xs) a
      ∙ ap (λ (n : ℕ). n + sum_by weight xs * a) (mul_comm (weight x) a)
      ∙ ap (λ (n : ℕ). a * weight x + n) (mul_comm (sum_by weight xs) a)

  -- samples are added one by one, where each is counted and no table ends with two
  pub added : ((w x : List ℕ) (t : Numbers) → TableOf f (Kind w) t → TableOf f (Kind x) t → w ≡ x)
      → (xs : List (List ℕ)) → Differ xs
      → ((x : List ℕ) → Contains xs x → (n : ℕ) × Count (TableOf f (Kind x)) n) → Added xs
  added one [] differ each = record {
    total = 0;
    count = count_none (Among []) (λ t g. none_in g.values g.among);
    at_least = λ weight a b le. let none = mul_comm a 0 in let zero_a = zero-mul a in omega (arith, none, zero_a);
    at_most = λ weight a b le. let none = zero-mul b in omega (arith, none);
  }
  added one (x ∷ xs) differ each =
      let here : (n : ℕ) × Count (TableOf f (Kind x)) n = each x (head_member x xs) in
      let n : ℕ = here.0 in
      let rest : Added xs = added one xs (tail_differ x xs differ) (λ y has. each y (tail_member x xs y has)) in
      let both : Count (λ (t : Numbers). TableOf f (Kind x) t ⊎ Among xs t) (n + rest.total) =
      count_either (TableOf f (Kind x)) (Among xs) n rest.total here.1 rest.count
      (λ t a b. head_differs x xs differ b.values b.among (one x b.values t a b.table)) in
      record {
        total = n + rest.total;
        count = same_count (λ (t : Numbers). TableOf f (Kind x) t ⊎ Among xs t) (Among (x ∷ xs)) (n + rest.total) both
            (λ t is. elim is [
              | inl a ↦ record { values = x; table = a; among = head_member x xs }
              | inr b ↦ record { values = b.values; table = b.table; among = tail_member x xs b.values b.among }
            ])
            (λ t g. elim (member_cases x xs g.values g.among) [
              | inl is ↦ inl (subst (λ (w : List ℕ). TableOf f (Kind w) t) (sym is) g.table)
              | inr behind ↦ inr (record { values = g.values; table = g.table; among = behind })
            ]);
        at_least = λ weight a b le.
            let first : a * weight x ≤ n * b = le x n (head_member x xs) here.1 in
            let others : a * sum_by weight xs ≤ rest.total * b =
            rest.at_least weight a b (λ y k has is. le y k (tail_member x xs y has) is) in
            let left = spread weight a x xs in
            let right : (n + rest.total) * b ≡ n * b + rest.total * b = add-mul n rest.total b in
            omega (arith, first, others, left, right);
        at_most = λ weight a b le.
            let first : n * b ≤ a * weight x = le x n (head_member x xs) here.1 in
            let others : rest.total * b ≤ a * sum_by weight xs =
            rest.at_most weight a b (λ y k has is. le y k (tail_member x xs y has) is) in
            let left = spread weight a x xs in
            let right : (n + rest.total) * b ≡ n * b + rest.total * b = add-mul n rest.total b in
            omega (arith, first, others, left, right);
      }
