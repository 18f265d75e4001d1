-- Batches in which runs of some samples end with none: the tables of these are all but those that end with a sample, and
-- the counts of a batch multiply.
use Rattle.std.proofs.Common.{inl, inr, ◌≡◌, ◌≢◌, ◌⊎◌, ℕ, ◌*◌, ◌^◌, List, [], ◌∷◌, length, sum, Option, None, Some, refl, sym, ap, ap₂, subst, ◌∙◌, Contains}
use Rattle.std.proofs.Math.Nat.{mul-mul-mul_comm, mul_assoc}
use Rattle.pop_model.proofs.Rising.{head_member, member_cases, none_in, tail_member}
use Rattle.pop_samples.specs.Frames.{Frame, Rows}
use Rattle.pop_samples.specs.Exchange.{Samples}
use Rattle.pop_samples.specs.Weights.{sample_weight}
use Rattle.pop_samples.proofs.Conses.{Fronted, Kept, kept, same_list}
use Rattle.round_samples.specs.Sampled.{Sampled}
use Rattle.key_samples.specs.Counts.{Count}
use Rattle.key_samples.specs.Exact.{AreExact}
use Rattle.key_samples.specs.Numbers.{AreNumbers, Numbers}
use Rattle.key_samples.specs.Shares.{all_shares}
use Rattle.key_samples.proofs.Counting.{count_fronted, count_one, one_count, same_count}
use Rattle.key_samples.proofs.Exact.{exact_numbers, exact_round_numbers}
use Rattle.key_samples.proofs.Totals.{all_numbers}
use Rattle.drawn_samples.specs.Drawn.{AreDrawn, TableEnds}
use Rattle.drawn_samples.specs.Mixed.{AreAlike, AreMixed, BatchEndsSo, EndsSo, MixedRounds, MixedRuns, mixed_weight}
use Rattle.drawn_samples.proofs.Drawing.{drawn_rounds, drawn_samples}

-- two tables are equal or not
same_table : (xs ys : Numbers) → (xs ≡ ys) ⊎ (xs ≢ ys)
same_table [] [] = inl refl
same_table [] (y ∷ ys) = inr (λ h. cc)
same_table (x ∷ xs) [] = inr (λ h. cc)
same_table (x ∷ xs) (y ∷ ys) = elim (same_list x y) [
  | inr a ↦ inr (λ h. a (cc))
  | inl a ↦ elim (same_table xs ys) [
    | inl b ↦ inl (ap₂ (λ (r : List ℕ) (rs : Numbers). r ∷ rs) a b)
    | inr b ↦ inr (λ h. b (cc))
  ]
]

-- a list has a table or not
has_or_not : (xs : List Numbers) (t : Numbers) → Contains xs t ⊎ (Contains xs t → ⊥)
has_or_not [] t = inr (λ has. none_in t has)
has_or_not (x ∷ xs) t = elim (same_table x t) [
  | inl same ↦ inl (subst (Contains (x ∷ xs)) same (head_member x xs))
  | inr other ↦ elim (has_or_not xs t) [
    | inl there ↦ inl (tail_member x xs t there)
    | inr none ↦ inr (λ has. elim (member_cases x xs t has) [ inl same ↦ other same | inr behind ↦ none behind ])
  ]
]

module _ (f : Frame) (Kind : List ℕ → Rows → Type 0) (exact : AreExact f Kind) (drawn : AreDrawn f Kind) where
  -- the tables that end with none
  pub none_counted : (n : ℕ) × Count (EndsSo f Kind None) n
  none_counted =
      let every : Count (AreNumbers f.heights) ((2 ^ 64) ^ sum f.heights) = all_numbers f.heights in
      let ended : Count (TableEnds f Kind) drawn.ended.0 = drawn.ended.1 in
      let some : Kept (λ t. TableEnds f Kind t → ⊥) every.list =
      kept (λ t. TableEnds f Kind t → ⊥) every.list every.all.differ (λ t has. elim (has_or_not ended.list t) [
        | inl there ↦ inr (λ not. not ((ended.all.exact t).0 there))
        | inr none ↦ inl (λ ends. none ((ended.all.exact t).1 ends))
      ]) in (
        length some.list,
        record {
          list = some.list;
          all = record {
            differ = some.differ;
            exact = λ t. (
              λ has. let s = some.sound t has in ((every.all.exact t).0 s.0, s.1),
              λ is. some.complete t ((every.all.exact t).1 is.0) is.1,
            );
          };
          size = refl;
        },
      )

  -- a batch of one sample more
  one_more : (o : Option (List ℕ)) (ends : List (Option (List ℕ))) (n m : ℕ) → Count (EndsSo f Kind o) n
      → Count (BatchEndsSo f Kind ends) m → Count (BatchEndsSo f Kind (o ∷ ends)) (n * m)
  one_more o ends n m a b =
      same_count (Fronted (EndsSo f Kind o) (BatchEndsSo f Kind ends)) (BatchEndsSo f Kind (o ∷ ends)) (n * m)
      (count_fronted (EndsSo f Kind o) (BatchEndsSo f Kind ends) n m a b)
      (λ z made. subst (BatchEndsSo f Kind (o ∷ ends)) (sym made.is) (made.has_front, made.has_rest))
      fro
    where
      fro : (z : List Numbers) → BatchEndsSo f Kind (o ∷ ends) z → Fronted (EndsSo f Kind o) (BatchEndsSo f Kind ends) z
      fro [] g = absurd g
      fro (t ∷ tables) g = record { front = t; rest = tables; is = refl; has_front = g.0; has_rest = g.1 }

  -- of no sample there is the empty batch
  no_sample : Count (BatchEndsSo f Kind []) 1
  no_sample = count_one [] (BatchEndsSo f Kind []) tt empty
    where
      empty : (z : List Numbers) → BatchEndsSo f Kind [] z → [] ≡ z
      empty [] g = refl
      empty (t ∷ tables) g = absurd g

  -- each batch is counted, and batches are as the shares
  mixed : (ends others : List (Option (List ℕ))) → AreAlike f ends others
      → (n : ℕ) × (m : ℕ) × Count (BatchEndsSo f Kind ends) n × Count (BatchEndsSo f Kind others) m
      × (n * mixed_weight (all_shares f.weights) others ≡ m * mixed_weight (all_shares f.weights) ends)
  mixed [] [] alike = (1, 1, no_sample, no_sample, refl)
  mixed [] (x ∷ others) alike = absurd alike
  mixed (None ∷ ends) [] alike = absurd alike
  mixed (Some w ∷ ends) [] alike = absurd alike
  mixed (None ∷ ends) (Some x ∷ others) alike = absurd alike
  mixed (Some w ∷ ends) (None ∷ others) alike = absurd alike
  mixed (None ∷ ends) (None ∷ others) alike =
      let here = none_counted in
      let (n, m, a, b, rest) = mixed ends others alike in
      let Bw : ℕ = mixed_weight (all_shares f.weights) ends in
      let Bx : ℕ = mixed_weight (all_shares f.weights) others in (
        here.0 * n,
        here.0 * m,
        one_more None ends here.0 n here.1 a,
        one_more None others here.0 m here.1 b,
        mul_assoc here.0 n Bx ∙ ap (λ (k : ℕ). here.0 * k) rest ∙ sym (mul_assoc here.0 m Bw),
      )
  mixed (Some w ∷ ends) (Some x ∷ others) alike =
      let j = exact.counted w alike.0 in
      let k = exact.counted x alike.1 in
      let (n, m, a, b, rest) = mixed ends others alike.2 in
      let here = exact.by_shares w x alike.0 alike.1 j.0 k.0 j.1 k.1 in
      let Sw : ℕ = sample_weight (all_shares f.weights) w in
      let Sx : ℕ = sample_weight (all_shares f.weights) x in
      let Bw : ℕ = mixed_weight (all_shares f.weights) ends in
      let Bx : ℕ = mixed_weight (all_shares f.weights) others in (
        j.0 * n,
        k.0 * m,
        one_more (Some w) ends j.0 n j.1 a,
        one_more (Some x) others k.0 m k.1 b,
        mul-mul-mul_comm j.0 n Sx Bx ∙ ap₂ (λ (i l : ℕ). i * l) here rest ∙ mul-mul-mul_comm k.0 Sw m Bw,
      )

  -- the law
  pub are_mixed : AreMixed f Kind
  are_mixed = record {
    counted = λ ends alike. let (n, m, a, b, same) = mixed ends ends alike in (n, a);
    by_shares = λ ends others alike n m mine theirs.
        let (j, k, a, b, same) = mixed ends others alike in
        ap (λ (i : ℕ). i * mixed_weight (all_shares f.weights) others)
        (one_count (BatchEndsSo f Kind ends) n j mine a)
        ∙ same
        ∙ sym (ap (λ (i : ℕ). i * mixed_weight (all_shares f.weights) ends)
        (one_count (BatchEndsSo f Kind others) m k theirs b));
  }

-- the law of the one-thread run
pub mixed_runs : MixedRuns
mixed_runs f frame have extremal =
    are_mixed f (Samples f) (exact_numbers f frame have extremal) (drawn_samples f frame have extremal)

-- the law of rounds
pub mixed_rounds : MixedRounds
mixed_rounds f frame have listed =
    are_mixed f (Sampled f) (exact_round_numbers f frame have listed) (drawn_rounds f frame have listed)
