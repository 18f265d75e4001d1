-- By whatever log tables finish, those of each sample are as its shares, so the sample doesn't hang on the log.
use Rattle.std.proofs.Common.{◌≡◌, ℕ, ◌*◌, List, sym, ap, ◌∙◌, arith}
use Rattle.std.specs.List.{sum_by}
use Rattle.std.proofs.Math.Nat.{mul_assoc, mul_comm, mul_right_comm}
use Rattle.pop_model.specs.Logs.{LogRecord}
use Rattle.pop_samples.specs.Frames.{Frame, IsFrame, IsSampleOf, Rows}
use Rattle.pop_samples.specs.Lists.{AreAll}
use Rattle.pop_samples.specs.Weights.{sample_weight}
use Rattle.pop_samples.proofs.FrameRows.{suits_end}
use Rattle.key_samples.specs.Counts.{Count}
use Rattle.key_samples.specs.Numbers.{HaveWeights, Numbers, TableOf, rows_from}
use Rattle.key_samples.specs.Shares.{all_shares}
use Rattle.key_samples.proofs.Counting.{one_count, same_count}
use Rattle.drawn_samples.specs.Drawn.{TableAmong, TableEnds}
use Rattle.drawn_samples.specs.WholeRuns.{DrawnByLogs, IndependentOfLogs, IsLogOf, SamplesBy, end_of, log_weight, unread_numbers}
use Rattle.drawn_samples.proofs.Adding.{Added, added}
use Rattle.drawn_samples.proofs.Drawing.{drawn_samples}
use Rattle.drawn_samples.proofs.Finished.{sample_there}
use Rattle.drawn_samples.proofs.RunNumbers.{run_numbers}
use Rattle.drawn_samples.proofs.SampleLists.{sample_list}

module _ (f : Frame) (frame : IsFrame f) (have : HaveWeights f.weights) (log : List LogRecord) (of : IsLogOf f log) where
  -- the product of the shares of the log, and all numbers of what isn't read
  abbrev factor : ℕ
  factor = log_weight (all_shares f.weights) log * unread_numbers f log

  -- the tables of a sample
  by_log : (w : List ℕ) → IsSampleOf f w → (n : ℕ) → Count (TableOf f (SamplesBy f log w)) n
      → n ≡ factor * sample_weight (all_shares f.weights) w
  by_log w is n count =
      one_count (TableOf f (SamplesBy f log w)) n
      (log_weight (all_shares f.weights) log * sample_weight (all_shares f.weights) w * unread_numbers f log) count
      (run_numbers f frame have log of w is)
      ∙ mul_right_comm (log_weight (all_shares f.weights) log) (sample_weight (all_shares f.weights) w)
      (unread_numbers f log)

  -- what they end with is a sample
  only : (w : List ℕ) (t : Numbers) → TableOf f (SamplesBy f log w) t → IsSampleOf f w
  only w t g =
      let rows : Rows = rows_from f.weights t in
      sample_there f frame w (end_of f log) rows g.rows.shape
      (suits_end f frame rows g.rows.shape (end_of f log) (log, g.rows.finishes)) g.rows.entries g.rows.finishes.finished

  -- all tables that finish by the log
  ended : (samples : List (List ℕ)) → AreAll (IsSampleOf f) samples → (n : ℕ) → Count (TableEnds f (SamplesBy f log)) n
      → n ≡ factor * sum_by (sample_weight (all_shares f.weights)) samples
  ended samples all n count =
      let weight : List ℕ → ℕ = sample_weight (all_shares f.weights) in
      let sums : Added f (SamplesBy f log) samples =
      added f (SamplesBy f log) (λ w x t g h. sym g.rows.entries ∙ h.rows.entries) samples all.differ
      (λ w has. (_, run_numbers f frame have log of w ((all.exact w).0 has))) in
      let whole : Count (TableEnds f (SamplesBy f log)) sums.total =
      same_count (TableAmong f (SamplesBy f log) samples) (TableEnds f (SamplesBy f log)) sums.total sums.count
      (λ t g. record { values = g.values; table = g.table })
      (λ t g. record { values = g.values; table = g.table; among = (all.exact g.values).1 (only g.values t g.table) }) in
      let is : n ≡ sums.total = one_count (TableEnds f (SamplesBy f log)) n sums.total count whole in
      let low = sums.at_least weight factor 1 (λ x k has counted.
      let e = by_log x ((all.exact x).0 has) k counted in omega (arith, e)) in
      let high = sums.at_most weight factor 1 (λ x k has counted.
      let e = by_log x ((all.exact x).0 has) k counted in omega (arith, e)) in
      omega (arith, is, low, high)

-- the law of one log
pub drawn_by_logs : DrawnByLogs
drawn_by_logs f frame have log of w samples is all n ends count whole =
    let S : ℕ = sample_weight (all_shares f.weights) w in
    let Z : ℕ = sum_by (sample_weight (all_shares f.weights)) samples in
    let a = by_log f frame have log of w is n count in
    let b = ended f frame have log of samples all ends whole in
    ap (λ (k : ℕ). k * Z) a ∙ mul_right_comm (factor f frame have log of) S Z ∙ ap (λ (k : ℕ). k * S) (sym b)

-- the law of independence
pub independent_of_logs : IndependentOfLogs
independent_of_logs f frame have extremal log of w is both all with_log with_sample counted ends log_ends of_sample =
    let every = sample_list f frame in
    let samples : List (List ℕ) = every.1.list in
    let S : ℕ = sample_weight (all_shares f.weights) w in
    let Z : ℕ = sum_by (sample_weight (all_shares f.weights)) samples in
    let F : ℕ = factor f frame have log of in
    let a : both ≡ F * S = by_log f frame have log of w is both counted in
    let b : with_log ≡ F * Z = ended f frame have log of samples every.1.all with_log log_ends in
    let drawn : with_sample * Z ≡ all * S =
    (drawn_samples f frame have extremal).each w samples is every.1.all with_sample all of_sample ends in
    ap (λ (k : ℕ). k * all) a ∙ mul_assoc F S all
    ∙ ap (λ (k : ℕ). F * k) (mul_comm S all ∙ sym drawn ∙ mul_comm with_sample Z)
    ∙ sym (mul_assoc F Z with_sample) ∙ ap (λ (k : ℕ). k * with_sample) (sym b)
