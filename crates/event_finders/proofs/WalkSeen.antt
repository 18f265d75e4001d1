-- What a walk adds to what its pass has seen: at most one entry for each word in a round.
use Rattle.std.proofs.Common.{inl, inr, ◌≡◌, ◌⊎◌, ℕ, ◌+◌, ◌-◌, ◌≤◌, [], ◌∷◌, ◌++◌, sym, ap, ◌∙◌, arith, append_assoc, append-nil}
use Rattle.std.proofs.lemmas.Bool.{cases_eq}
use Rattle.pop_model.specs.Popping.{variables}
use Rattle.claim_words.specs.Words.{word_of}
use Rattle.claim_words.specs.Maps.{Pairs, times, times_in, is_at}
use Rattle.claim_words.specs.declared.view.View.{View}
use Rattle.claim_words.proofs.Totals.{total-append, is_at-yes, is_at-no}
use Rattle.event_finders.specs.Gains.{SeesWithin}
use Rattle.event_finders.specs.WalkSteps.{words_of, Walked, SeesLast}
use Rattle.event_finders.proofs.TrailLemmas.{words_le}

-- a word stands in two lists of entries as often as in both
both_times : (i : ℕ) (a b : Pairs) → times i (a ++ b) ≡ times i a + times i b
both_times i a b = total-append (is_at i) a b

-- the words of a path with one more
pub words_push : (i : ℕ) (p : Pairs) (s : ℕ × ℕ)
    → times_in i (words_of (p ++ s ∷ [])) ≡ times_in i (words_of p) + is_at i (word_of s.0, 0)
words_push i [] s = omega arith
words_push i (x ∷ p) s = omega (arith, words_push i p s)

-- no word stands there twice
words_once : (p : Pairs) → ((v : ℕ) → times_in v (variables p) ≤ 1) → (i : ℕ) → times_in i (words_of p) ≤ 1
words_once p once i = omega (arith, words_le i (variables p), once (i - 1))

-- claims behind others
pub walked_then : (d e f : View) (p q r : Pairs) → Walked d e p q → Walked e f q r → Walked d f p r
walked_then d e f p q r a b = record {
  added = a.added ++ b.added;
  seen = b.seen ∙ ap (λ (l : Pairs). l ++ b.added) a.seen ∙ append_assoc d.seen a.added b.added;
  on = λ i. omega (arith, both_times i a.added b.added, a.on i, b.on i);
  begins = b.begins ∙ a.begins;
  traced = λ n from t. b.traced n from (a.traced n from t);
}

-- and what was seen at last behind them
pub last_then : (d e f : View) (p q : Pairs) → Walked d e p q → SeesLast e f q → SeesLast d f p
last_then d e f p q a b = record {
  added = a.added ++ b.added;
  seen = b.seen ∙ ap (λ (l : Pairs). l ++ b.added) a.seen ∙ append_assoc d.seen a.added b.added;
  once = λ i. omega (arith, both_times i a.added b.added, a.on i, b.once i);
}

-- nothing was added at last
pub last_none : (d : View) (p : Pairs) → ((v : ℕ) → times_in v (variables p) ≤ 1) → SeesLast d d p
last_none d p once =
    record { added = []; seen = sym (append-nil d.seen); once = λ i. omega (arith, words_once p once i) }

-- the entry of a variable that isn't on the path
pub last_one : (d e : View) (p : Pairs) (v w : ℕ) → ((v : ℕ) → times_in v (variables p) ≤ 1)
    → times_in v (variables p) ≡ 0 → e.seen ≡ d.seen ++ (1 + v, w) ∷ [] → SeesLast d e p
last_one d e p v w once fresh is = record {
  added = (1 + v, w) ∷ [];
  seen = is;
  once = λ i. elim (cases_eq (1 + v) i) [
    | inl same ↦
        let next : i - 1 ≡ v = omega (arith, same) in
        omega (
          arith,
          is_at-yes i (1 + v, w) same,
          words_le i (variables p),
          ap (λ (n : ℕ). times_in n (variables p)) next,
          fresh,
        )
    | inr differ ↦ omega (arith, is_at-no i (1 + v, w) differ, words_once p once i)
  ];
}

-- After n rounds: at most n entries for each word, or the entry of the start, on which the walk stands.
pub record Seen (d e : View) (n : ℕ) (path : Pairs) : Type 0 where
  pub added : Pairs
  pub seen : e.seen ≡ d.seen ++ added
  pub within : (i : ℕ) → (times i added ≤ n) ⊎ ((n ≡ 0) × (times i added ≤ times_in i (words_of path)))

-- one round more
pub seen_round : (d e f : View) (n : ℕ) (path : Pairs) → Seen d e n path → SeesLast e f path → SeesWithin (n + 1) d f
seen_round d e f n path a b = record {
  added = a.added ++ b.added;
  seen = b.seen ∙ ap (λ (l : Pairs). l ++ b.added) a.seen ∙ append_assoc d.seen a.added b.added;
  within = λ i. elim (a.within i) [
    | inl low ↦ omega (arith, both_times i a.added b.added, low, b.once i)
    | inr (zeroed, low) ↦ omega (arith, both_times i a.added b.added, low, b.once i)
  ];
}

-- after which the walk stands on any path
pub seen_on : (d e : View) (n : ℕ) (path : Pairs) → SeesWithin n d e → Seen d e n path
seen_on d e n path a = record { added = a.added; seen = a.seen; within = λ i. inl (a.within i) }

-- a higher bound
pub within_less : (d e : View) (n m : ℕ) → n ≤ m → SeesWithin n d e → SeesWithin m d e
within_less d e n m less a =
    record { added = a.added; seen = a.seen; within = λ i. omega (arith, a.within i, less) }
