-- What is drawn: each table ends with one sample, so of all that end those for a sample are to all as its share is to
-- the shares of all samples; for of any two samples they are as these.
use Rattle.std.proofs.Common.{◌≡◌, ℕ, zero, suc, ◌+◌, ◌-◌, ◌*◌, ◌^◌, ◌≤◌, List, [], ◌∷◌, length, All, None, refl, sym, ap, subst, ◌∙◌, arith, Contains}
use Rattle.std.specs.List.{sum_by}
use Rattle.std.proofs.lemmas.List.Sums.{sum_by-cons}
use Rattle.std.proofs.lemmas.List.Elements.{All-contains, Contains-get_or}
use Rattle.std.proofs.Math.Nat.{mul_assoc, mul_right_comm}
use Rattle.prs_rounds.proofs.OneRun.{one_rounds_end}
use Rattle.pop_samples.specs.Frames.{Frame, IsFrame, IsSampleOf, Rows, over}
use Rattle.pop_samples.specs.Exchange.{Samples, SamplesAt, entries_under}
use Rattle.pop_samples.specs.Lists.{AreAll}
use Rattle.pop_samples.specs.Weights.{sample_weight}
use Rattle.pop_samples.proofs.FrameRows.{suits_end}
use Rattle.pop_samples.proofs.ExactCounts.{one_place}
use Rattle.round_samples.specs.Sampled.{Sampled, SampledBy}
use Rattle.round_samples.proofs.ExchangedRounds.{rounds_suit}
use Rattle.key_samples.specs.Counts.{Count}
use Rattle.key_samples.specs.Numbers.{HaveWeights, Numbers, TableOf, rows_from}
use Rattle.key_samples.specs.Shares.{all_shares}
use Rattle.key_samples.specs.Exact.{AreExact}
use Rattle.key_samples.proofs.Counting.{one_count, same_count}
use Rattle.key_samples.proofs.Exact.{exact_numbers, exact_numbers_at, exact_round_numbers, exact_round_numbers_by}
use Rattle.drawn_samples.specs.Drawn.{AreDrawn, AreSome, DrawsEach, DrawsSome, IsNearly, TableAmong, TableEnds}
use Rattle.drawn_samples.specs.Laws.{DrawnRounds, DrawnRoundsBy, DrawnSamples, DrawnSamplesAt}
use Rattle.drawn_samples.proofs.Adding.{Added, added}
use Rattle.drawn_samples.proofs.Finished.{sample_there}
use Rattle.drawn_samples.proofs.SampleLists.{sample_list}

-- what is at most and at least is the same
pub same_number : {a b : ℕ} → a ≤ b → b ≤ a → a ≡ b
same_number le ge = omega (arith, le, ge)

-- what a factor 1 leaves
sum_of_ones : (weight : List ℕ → ℕ) (xs : List (List ℕ)) → ((x : List ℕ) → Contains xs x → weight x ≡ 1)
    → sum_by weight xs ≡ length xs
sum_of_ones weight [] ones = refl
sum_of_ones weight (x ∷ xs) ones =
    let here = ones x (0, omega arith, refl) in
    let rest = sum_of_ones weight xs (λ y has. ones y (suc has.0, (let low = has.1 in omega (arith, low)), has.2)) in
    let both = sum_by-cons weight x xs in
    omega (arith, here, rest, both)

module _ (f : Frame) (frame : IsFrame f) (Kind : List ℕ → Rows → Type 0) (exact : AreExact f Kind)
    (only : (w : List ℕ) (t : Numbers) → TableOf f (Kind w) t → IsSampleOf f w)
    (one : (w x : List ℕ) (t : Numbers) → TableOf f (Kind w) t → TableOf f (Kind x) t → w ≡ x) where
  -- samples are added up
  sums : (some : List (List ℕ)) → AreSome f some → Added f Kind some
  sums some are =
      added f Kind one some are.differ (λ w has. exact.counted w (All-contains (IsSampleOf f) some w are.samples has))

  -- all samples are some
  all_are : (samples : List (List ℕ)) → AreAll (IsSampleOf f) samples → AreSome f samples
  all_are samples all = record {
    differ = all.differ;
    samples = λ k d less. (all.exact _).0 (Contains-get_or samples k d less);
  }

  -- all tables that end do so with one of all samples
  ends_among : (samples : List (List ℕ)) → AreAll (IsSampleOf f) samples → (n : ℕ) → Count (TableAmong f Kind samples) n
      → Count (TableEnds f Kind) n
  ends_among samples all n count =
      same_count (TableAmong f Kind samples) (TableEnds f Kind) n count
      (λ t g. record { values = g.values; table = g.table })
      (λ t g. record { values = g.values; table = g.table; among = (all.exact g.values).1 (only g.values t g.table) })

  -- How many tables end with some samples, where any two samples are within factors: the counts times the weights.
  module _ (weight : List ℕ → ℕ) (low high : ℕ)
      (near : (w x : List ℕ) → IsSampleOf f w → IsSampleOf f x → (n m : ℕ) → Count (TableOf f (Kind w)) n
      → Count (TableOf f (Kind x)) m → n * weight x * low ≤ m * weight w * high) where
    -- a sample and all
    each_most : (w : List ℕ) → IsSampleOf f w → (samples : List (List ℕ)) → (all : AreAll (IsSampleOf f) samples)
        → (n : ℕ) → Count (TableOf f (Kind w)) n
        → n * low * sum_by weight samples ≤ (sums samples (all_are samples all)).total * (weight w * high)
    each_most w is samples all n count =
        (sums samples (all_are samples all)).at_least weight (n * low) (weight w * high) (λ x k has counted.
        let le = near w x is ((all.exact x).0 has) n k count counted in
        let a = mul_right_comm n low (weight x) in
        let b = mul_assoc k (weight w) high in
        omega (arith, le, a, b))

    each_least : (w : List ℕ) → IsSampleOf f w → (samples : List (List ℕ)) → (all : AreAll (IsSampleOf f) samples)
        → (n : ℕ) → Count (TableOf f (Kind w)) n
        → (sums samples (all_are samples all)).total * (weight w * low) ≤ n * high * sum_by weight samples
    each_least w is samples all n count =
        (sums samples (all_are samples all)).at_most weight (n * high) (weight w * low) (λ x k has counted.
        let le = near x w ((all.exact x).0 has) is k n counted count in
        let a = mul_right_comm n high (weight x) in
        let b = mul_assoc k (weight w) low in
        omega (arith, le, a, b))

    -- some samples and all
    nearly_some : (some samples : List (List ℕ)) → AreSome f some → AreAll (IsSampleOf f) samples → (n all : ℕ)
        → Count (TableAmong f Kind some) n → Count (TableEnds f Kind) all
        → IsNearly low high n all (sum_by weight some) (sum_by weight samples)
    nearly_some some samples are every n all part whole =
        let mine : Added f Kind some = sums some are in
        let total : Added f Kind samples = sums samples (all_are samples every) in
        let n_is : n ≡ mine.total = one_count (TableAmong f Kind some) n mine.total part mine.count in
        let all_is : all ≡ total.total =
        one_count (TableEnds f Kind) all total.total whole (ends_among samples every total.total total.count) in
        let Z : ℕ = sum_by weight samples in
        let S : ℕ = sum_by weight some in
        let sample : (x : List ℕ) → Contains some x → IsSampleOf f x =
        λ x has. All-contains (IsSampleOf f) some x are.samples has in
        let most : mine.total * (low * Z) ≤ total.total * high * S =
        mine.at_most weight (total.total * high) (low * Z) (λ x k has counted.
        let le = each_most x (sample x has) samples every k counted in
        let a = mul_assoc k low Z in
        let b = mul_right_comm total.total high (weight x) in
        let c = mul_assoc total.total (weight x) high in
        omega (arith, le, a, b, c)) in
        let least : total.total * low * S ≤ mine.total * (high * Z) =
        mine.at_least weight (total.total * low) (high * Z) (λ x k has counted.
        let le = each_least x (sample x has) samples every k counted in
        let a = mul_assoc k high Z in
        let b = mul_right_comm total.total low (weight x) in
        let c = mul_assoc total.total (weight x) low in
        omega (arith, le, a, b, c)) in
        let a = ap (λ (k : ℕ). k * Z * low) n_is in
        let b = ap (λ (k : ℕ). k * S * high) all_is in
        let c = ap (λ (k : ℕ). k * S * low) all_is in
        let d = ap (λ (k : ℕ). k * Z * high) n_is in
        let e = mul_right_comm mine.total Z low in
        let g = mul_right_comm total.total S high in
        let h = mul_right_comm total.total S low in
        let i = mul_right_comm mine.total Z high in
        let j = mul_assoc mine.total low Z in
        let k = mul_assoc mine.total high Z in
        record {
          most = omega (arith, most, a, b, e, g, j);
          least = omega (arith, least, c, d, h, i, k);
        }

  -- where any two samples are as their weights, so are some to all
  draws_some : (weight : List ℕ → ℕ)
      → ((w x : List ℕ) → IsSampleOf f w → IsSampleOf f x → (n m : ℕ) → Count (TableOf f (Kind w)) n
      → Count (TableOf f (Kind x)) m → n * weight x ≡ m * weight w) → DrawsSome f Kind weight
  draws_some weight same some samples are every n all part whole =
      let near = nearly_some weight 1 1
      (λ w x is_w is_x j k a b. let e = same w x is_w is_x j k a b in omega (arith, e))
      some samples are every n all part whole in
      let most = near.most in
      let least = near.least in
      omega (arith, most, least)

  -- one sample is some
  alone : (w : List ℕ) → IsSampleOf f w → AreSome f (w ∷ [])
  alone w is = record {
    differ = λ i j d less within. absurd (omega (arith, less, within));
    samples = only_here;
  }
    where
      only_here : All (IsSampleOf f) (w ∷ [])
      only_here zero d less = is
      only_here (suc k) d less = absurd (omega (arith, less))

  -- so it is of each
  draws_each : (weight : List ℕ → ℕ) → DrawsSome f Kind weight → DrawsEach f Kind weight
  draws_each weight draws w samples is every n all part whole =
      let among : Count (TableAmong f Kind (w ∷ [])) n =
      same_count (TableOf f (Kind w)) (TableAmong f Kind (w ∷ [])) n part
      (λ t g. record { values = w; table = g; among = (0, omega arith, refl) })
      (λ t g. back t g) in
      let e = draws (w ∷ []) samples (alone w is) every n all among whole in
      let s = sum_by-cons weight w [] in
      let whole_sum : sum_by weight (w ∷ []) ≡ weight w = omega (arith, s) in
      e ∙ ap (λ (k : ℕ). all * k) whole_sum
    where
      back : (t : Numbers) → TableAmong f Kind (w ∷ []) t → TableOf f (Kind w) t
      back t g = subst (λ (x : List ℕ). TableOf f (Kind x) t) (sym (here g.among)) g.table
        where
          here : {x : List ℕ} → Contains (w ∷ []) x → w ≡ x
          here (zero, low, is) = is
          here (suc k, low, is) = absurd (omega (arith, low))

  -- the law
  pub are_drawn : HaveWeights f.weights → AreDrawn f Kind
  are_drawn have =
      let shares : DrawsSome f Kind (sample_weight (all_shares f.weights)) =
      draws_some (sample_weight (all_shares f.weights)) exact.by_shares in
      let every = sample_list f frame in
      record {
        only = only;
        one = one;
        samples = every;
        ended =
            let all = sums every.1.list (all_are every.1.list every.1.all) in
            (all.total, ends_among every.1.list every.1.all all.total all.count);
        counted = λ some are. let all = sums some are in (all.total, all.count);
        each = draws_each (sample_weight (all_shares f.weights)) shares;
        by_shares = shares;
        each_by_weights = λ divide. draws_each (sample_weight f.weights)
            (draws_some (sample_weight f.weights) (exact.by_weights divide));
        by_weights = λ divide. draws_some (sample_weight f.weights) (exact.by_weights divide);
        nearly = λ bound up. nearly_some (sample_weight f.weights) ((2 ^ 64 - bound) ^ length f.weights)
            ((2 ^ 64 + bound) ^ length f.weights) (exact.nearly bound up);
        evenly = λ coins some samples are all_s n all part whole.
            let e = draws_some (λ w. 1)
            (λ w x is_w is_x j k a b. let s = exact.as_many coins w x is_w is_x j k a b in omega (arith, s))
            some samples are all_s n all part whole in
            let a = sum_of_ones (λ w. 1) samples (λ x has. refl) in
            let b = sum_of_ones (λ w. 1) some (λ x has. refl) in
            ap (λ (k : ℕ). n * k) (sym a) ∙ e ∙ ap (λ (k : ℕ). all * k) b;
      }

-- the law of the one-thread run
pub drawn_samples : DrawnSamples
drawn_samples f frame have extremal =
    are_drawn f frame (Samples f) (exact_numbers f frame have extremal)
    (λ w t g. let s = g.rows.1 in
    sample_there f frame w g.rows.0 (rows_from f.weights t) s.shape
    (suits_end f frame (rows_from f.weights t) s.shape g.rows.0 s.finishes) s.entries s.finishes.1.finished)
    (λ w x t g h.
    let place = one_place (over f (rows_from f.weights t)) extremal g.rows.0 h.rows.0 g.rows.1.finishes h.rows.1.finishes in
    sym g.rows.1.entries ∙ ap (entries_under (rows_from f.weights t)) place ∙ h.rows.1.entries)
    have

-- that of runs that end at given cursors
pub drawn_samples_at : DrawnSamplesAt
drawn_samples_at f frame have c =
    are_drawn f frame (λ w. SamplesAt f w c) (exact_numbers_at f frame have c)
    (λ w t g. let s = g.rows in
    sample_there f frame w c (rows_from f.weights t) s.shape
    (suits_end f frame (rows_from f.weights t) s.shape c s.finishes) s.entries s.finishes.1.finished)
    (λ w x t g h. sym g.rows.entries ∙ h.rows.entries)
    have

-- the law of rounds
pub drawn_rounds : DrawnRounds
drawn_rounds f frame have listed =
    are_drawn f frame (Sampled f) (exact_round_numbers f frame have listed)
    (λ w t g. let s = g.rows.1.1 in
    sample_there f frame w g.rows.0 (rows_from f.weights t) s.shape
    (rounds_suit f frame (rows_from f.weights t) s.shape g.rows.0 g.rows.1.0 s.end) s.entries s.end.end)
    (λ w x t g h.
    let place = (one_rounds_end (over f (rows_from f.weights t)) g.rows.0 h.rows.0 g.rows.1.0 h.rows.1.0 [] [] None None
    g.rows.1.1.end h.rows.1.1.end).cursors in
    sym g.rows.1.1.entries ∙ ap (entries_under (rows_from f.weights t)) place ∙ h.rows.1.1.entries)
    have

-- that of so many rounds to given cursors
pub drawn_rounds_by : DrawnRoundsBy
drawn_rounds_by f frame have listed c rounds =
    are_drawn f frame (λ w. SampledBy f w c rounds) (exact_round_numbers_by f frame have listed c rounds)
    (λ w t g. let s = g.rows in
    sample_there f frame w c (rows_from f.weights t) s.shape
    (rounds_suit f frame (rows_from f.weights t) s.shape c rounds s.end) s.entries s.end.end)
    (λ w x t g h. sym g.rows.entries ∙ h.rows.entries)
    have
