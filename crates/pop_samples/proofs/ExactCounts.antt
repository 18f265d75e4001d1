-- The exchange of one sample for another matches the rows that finish with the one to those that finish with the other,
-- one to one, where rows finish at one place only: there the exchange goes back. So there are as many of them, and
-- their weights are as those of the samples. Logs finish at one place, where the family is extremal.
use Rattle.std.proofs.Common.{◌≡◌, ℕ, ◌*◌, List, refl, sym, ap, subst, ◌∙◌}
use Rattle.pop_model.specs.Instances.{Instance}
use Rattle.pop_model.specs.Extremal.{IsExtremal}
use Rattle.pop_model.specs.Runs.{start_of}
use Rattle.pop_model.proofs.UniqueEnd.{unique_run}
use Rattle.pop_samples.specs.Finishing.{FinishesAt}
use Rattle.pop_samples.specs.Frames.{Frame, IsFrame, IsSampleOf, Rows, over}
use Rattle.pop_samples.specs.Exchange.{Samples, SamplesAt, exchange}
use Rattle.pop_samples.specs.Weights.{sample_weight, weight_of}
use Rattle.pop_samples.specs.Lists.{AreAll}
use Rattle.pop_samples.specs.ExactLaws.{AreProportional}
use Rattle.pop_samples.proofs.Finishing.{finished_ends}
use Rattle.pop_samples.proofs.ExchangedSamples.{exchange_leaves}
use Rattle.pop_samples.proofs.Matching.{Alike, Matches, alike}
use Rattle.pop_samples.proofs.Conses.{same_kind}

-- rows of another kind that the exchange makes of rows, and it goes back
pub record Swaps (f : Frame) (Other : List ℕ → Rows → Type 0) (w x c : List ℕ) (rows : Rows) : Type 0 where
  pub there : Other c (exchange rows c x)
  pub back : exchange (exchange rows c x) c w ≡ rows
  pub weight : weight_of f.weights (exchange rows c x) * sample_weight f.weights w
      ≡ weight_of f.weights rows * sample_weight f.weights x

-- two kinds of rows at cursors, of which the exchange makes the one of the other; rows are such at one place at most
pub record AreSwapped (f : Frame) (w x : List ℕ) (P Q : List ℕ → Rows → Type 0) : Type 0 where
  pub to : (c : List ℕ) (rows : Rows) → P c rows → Swaps f Q w x c rows
  pub fro : (c : List ℕ) (rows : Rows) → Q c rows → Swaps f P x w c rows
  pub one : (c d : List ℕ) (rows : Rows) → P c rows → P d rows → c ≡ d
  pub other : (c d : List ℕ) (rows : Rows) → Q c rows → Q d rows → c ≡ d

-- rows of the one kind, and those of the other that the exchange makes of them
record Pair (f : Frame) (w x : List ℕ) (P Q : List ℕ → Rows → Type 0) (r s : Rows) : Type 0 where
  end : List ℕ
  first : P end r
  second : Q end s
  there : s ≡ exchange r end x
  back : r ≡ exchange s end w
  weight : weight_of f.weights r * sample_weight f.weights x ≡ weight_of f.weights s * sample_weight f.weights w

module _ (f : Frame) (w x : List ℕ) (P Q : List ℕ → Rows → Type 0) (swapped : AreSwapped f w x P Q) where
  -- each rows have one partner at most, by the one place at which they are such
  matches : Matches (Pair f w x P Q) (weight_of f.weights) (sample_weight f.weights w) (sample_weight f.weights x)
  matches = record {
    weight = λ r s p. p.weight;
    once = λ r s z p q.
        let same : p.end ≡ q.end = swapped.one p.end q.end r p.first q.first in
        p.there ∙ ap (λ (c : List ℕ). exchange r c x) same ∙ sym q.there;
    one = λ r q s p o.
        let same : p.end ≡ o.end = swapped.other p.end o.end s p.second o.second in
        p.back ∙ ap (λ (c : List ℕ). exchange s c w) same ∙ sym o.back;
  }

  -- so there are as many of the one kind as of the other, and they weigh as the samples
  pub counts : (all others : List Rows) → AreAll (λ (r : Rows). (c : List ℕ) × P c r) all
      → AreAll (λ (r : Rows). (c : List ℕ) × Q c r) others → AreProportional f w x all others
  counts all others mine theirs =
      let both : Alike (weight_of f.weights) (sample_weight f.weights w) (sample_weight f.weights x) all others =
      alike (Pair f w x P Q) (weight_of f.weights) (sample_weight f.weights w) (sample_weight f.weights x) matches
      all others mine.differ theirs.differ
      (λ r has.
      let at : (c : List ℕ) × P c r = (mine.exact r).0 has in
      let c : List ℕ = at.0 in
      let to : Swaps f Q w x c r = swapped.to c r at.1 in
      let s : Rows = exchange r c x in (
        s,
        (theirs.exact s).1 (c, to.there),
        record {
          end = c;
          first = at.1;
          second = to.there;
          there = refl;
          back = sym to.back;
          weight = sym to.weight;
        },
      ))
      (λ s has.
      let at : (c : List ℕ) × Q c s = (theirs.exact s).0 has in
      let c : List ℕ = at.0 in
      let to : Swaps f P x w c s = swapped.fro c s at.1 in
      let r : Rows = exchange s c w in (
        r,
        (mine.exact r).1 (c, to.there),
        record {
          end = c;
          first = to.there;
          second = at.1;
          there = sym to.back;
          back = refl;
          weight = to.weight;
        },
      )) in
      record { count = both.size; weight = both.total }

-- rows that are such at given cursors
abbrev pub Placed : List ℕ → (Rows → Type 0) → List ℕ → Rows → Type 0
Placed c P d rows = (d ≡ c) × P rows

-- the exchange at these cursors
placed : (f : Frame) (w x c : List ℕ) (P Q : Rows → Type 0)
    → ((rows : Rows) → P rows → Swaps f (λ d. Q) w x c rows)
    → (d : List ℕ) (rows : Rows) → Placed c P d rows → Swaps f (Placed c Q) w x d rows
placed f w x c P Q to d rows (same, is) =
    subst (λ (k : List ℕ). Swaps f (Placed c Q) w x k rows) (sym same)
    (let s : Swaps f (λ d. Q) w x c rows = to rows is in
    record { there = (refl, s.there); back = s.back; weight = s.weight })

-- the same of two kinds of rows of which the exchange at given cursors makes the one of the other
pub counts_at : (f : Frame) (w x c : List ℕ) (P Q : Rows → Type 0)
    → ((rows : Rows) → P rows → Swaps f (λ d. Q) w x c rows)
    → ((rows : Rows) → Q rows → Swaps f (λ d. P) x w c rows)
    → (all others : List Rows) → AreAll P all → AreAll Q others → AreProportional f w x all others
counts_at f w x c P Q to fro all others mine theirs =
    counts f w x (Placed c P) (Placed c Q)
    (record {
      to = placed f w x c P Q to;
      fro = placed f x w c Q P fro;
      one = λ a b rows p q. p.0 ∙ sym q.0;
      other = λ a b rows p q. p.0 ∙ sym q.0;
    })
    all others
    (same_kind P (λ (r : Rows). (d : List ℕ) × Placed c P d r) all mine (λ r p. (c, (refl, p))) (λ r p. p.1.1))
    (same_kind Q (λ (r : Rows). (d : List ℕ) × Placed c Q d r) others theirs (λ r q. (c, (refl, q))) (λ r q. q.1.1))

-- an extremal instance finishes at one place
pub one_place : (i : Instance) → IsExtremal i.family → (c d : List ℕ) → FinishesAt i c → FinishesAt i d → c ≡ d
one_place i extremal c d a b =
    sym a.1.leads
    ∙ (unique_run i extremal (start_of i) a.0 b.0 a.1.legal b.1.legal (finished_ends i a.0 c a.1)
    (finished_ends i b.0 d b.1)).end
    ∙ b.1.leads

-- the exchange makes rows that finish with the other sample
samples_swap : (f : Frame) → IsFrame f → (w x : List ℕ) → IsSampleOf f x → (c : List ℕ) (rows : Rows)
    → SamplesAt f w c rows → Swaps f (SamplesAt f x) w x c rows
samples_swap f frame w x is_x c rows s =
    let to = exchange_leaves f frame w x c rows s is_x in
    record { there = to.samples; back = to.back; weight = to.weight }

-- the law of all rows that finish with two samples
pub exact_counts : (f : Frame) → IsFrame f → IsExtremal f.family → (w x : List ℕ) → IsSampleOf f w → IsSampleOf f x
    → (all others : List Rows)
    → AreAll (Samples f w) all → AreAll (Samples f x) others → AreProportional f w x all others
exact_counts f frame extremal w x is_w is_x =
    counts f w x (SamplesAt f w) (SamplesAt f x) (record {
      to = samples_swap f frame w x is_x;
      fro = samples_swap f frame x w is_w;
      one = λ c d rows a b. one_place (over f rows) extremal c d a.finishes b.finishes;
      other = λ c d rows a b. one_place (over f rows) extremal c d a.finishes b.finishes;
    })

-- the law of those that finish at given cursors
pub exact_counts_at : (f : Frame) → IsFrame f → (w x c : List ℕ) → IsSampleOf f w → IsSampleOf f x
    → (all others : List Rows)
    → AreAll (SamplesAt f w c) all → AreAll (SamplesAt f x c) others → AreProportional f w x all others
exact_counts_at f frame w x c is_w is_x =
    counts_at f w x c (SamplesAt f w c) (SamplesAt f x c)
    (λ rows s. let to = samples_swap f frame w x is_x c rows s in
    record { there = to.there; back = to.back; weight = to.weight })
    (λ rows s. let to = samples_swap f frame x w is_w c rows s in
    record { there = to.there; back = to.back; weight = to.weight })
