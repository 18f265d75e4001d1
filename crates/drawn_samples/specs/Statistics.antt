-- Functions of samples, such as a sum over a tree, and the distribution of their values.
use Rattle.std.specs.Prelude.{◌≡◌, ℕ, ◌*◌, ◌==◌, ◌^◌, Bool, List, filter, sum, All}
use Rattle.std.specs.Int.{◌∣◌}
use Rattle.std.specs.List.{sum_by}
use Rattle.pop_model.specs.Extremal.{IsExtremal}
use Rattle.pop_model.specs.Logs.{LogRecord}
use Rattle.prs_rounds.specs.Units.{IsListed}
use Rattle.pop_samples.specs.Frames.{Frame, IsFrame, IsSampleOf, Rows}
use Rattle.pop_samples.specs.Lists.{AreAll}
use Rattle.pop_samples.specs.Weights.{sample_weight}
use Rattle.key_samples.specs.Counts.{Count}
use Rattle.key_samples.specs.Numbers.{HaveWeights, Numbers, TableOf}
use Rattle.key_samples.specs.Shares.{all_shares}
use Rattle.drawn_samples.specs.Drawn.{TableEnds}
use Rattle.drawn_samples.specs.Where.{SampledWhere, SamplesWhere}

-- a table with rows that end with values for which a function has this value
pub record TableWith (f : Frame) (Kind : List ℕ → Rows → Type 0) (statistic : List ℕ → ℕ)
    (value : ℕ) (t : Numbers) : Type 0 where
  pub values : List ℕ
  pub table : TableOf f (Kind values) t
  pub is : statistic values ≡ value

-- the samples for which the function has this value
abbrev pub with_value : (List ℕ → ℕ) → ℕ → List (List ℕ) → List (List ℕ)
with_value statistic value samples = filter (λ w. statistic w == value) samples

-- Of all tables that end with a sample, the fraction with a value of the function is the weight of
-- the samples with that value over that of all samples.
abbrev pub DrawsValues : (f : Frame) → (List ℕ → Rows → Type 0) → (List ℕ → ℕ) → (List ℕ → ℕ) → Type 0
DrawsValues f Kind statistic weight = (value : ℕ) (samples : List (List ℕ))
    → AreAll (IsSampleOf f) samples → (n all : ℕ) → Count (TableWith f Kind statistic value) n
    → Count (TableEnds f Kind) all
    → n * sum_by weight samples ≡ all * sum_by weight (with_value statistic value samples)

-- What is known of a function of samples.
pub record AreValuesDrawn (f : Frame) (Kind : List ℕ → Rows → Type 0) (statistic : List ℕ → ℕ)
    : Type 0 where
  -- The tables of each value are finitely many.
  pub counted : (value : ℕ) → (n : ℕ) × Count (TableWith f Kind statistic value) n
  -- Each value is drawn by the shares of the samples that have it.
  pub by_shares : DrawsValues f Kind statistic (sample_weight (all_shares f.weights))
  -- Each value is drawn by the weights of the samples that have it, if the weights of each
  -- variable sum to a number that divides 2 ^ 64.
  pub by_weights : All (λ ws. sum ws ∣ 2 ^ 64) f.weights
      → DrawsValues f Kind statistic (sample_weight f.weights)

-- This holds for the one-thread run of an extremal family, also for runs with an accepted log.
abbrev pub RunStatistics : Type 0
RunStatistics = (f : Frame) → IsFrame f → HaveWeights f.weights → IsExtremal f.family
    → (wanted : List LogRecord → Bool) (statistic : List ℕ → ℕ)
    → AreValuesDrawn f (SamplesWhere f wanted) statistic

-- This holds for rounds over any listed events.
abbrev pub RoundStatistics : Type 0
RoundStatistics = (f : Frame) → IsFrame f → HaveWeights f.weights → IsListed f.family
    → (wanted : List ℕ → ℕ → Bool) (statistic : List ℕ → ℕ)
    → AreValuesDrawn f (SampledWhere f wanted) statistic
