-- The distribution of samples: of all tables of numbers with rows that end with a sample, how many
-- end with a sample of some set.
use Rattle.std.specs.Prelude.{◌≡◌, ◌≢◌, ℕ, ◌+◌, ◌-◌, ◌*◌, ◌≤◌, ◌^◌, List, [], ◌∷◌, length, sum, All, AllPairs, Contains}
use Rattle.std.specs.Int.{◌∣◌}
use Rattle.std.specs.List.{sum_by}
use Rattle.pop_samples.specs.Frames.{Rows, Frame, IsSampleOf}
use Rattle.pop_samples.specs.Weights.{sample_weight}
use Rattle.pop_samples.specs.Lists.{AreAll}
use Rattle.key_samples.specs.Counts.{Count}
use Rattle.key_samples.specs.Numbers.{AreUpTo, Numbers, TableOf}
use Rattle.key_samples.specs.Shares.{all_shares}

-- samples, each once
pub record AreSome (f : Frame) (some : List (List ℕ)) : Type 0 where
  pub differ : AllPairs (λ w x. w ≢ x) some
  pub samples : All (IsSampleOf f) some

-- a table with rows that end with some values
pub record TableEnds (f : Frame) (Kind : List ℕ → Rows → Type 0) (t : Numbers) : Type 0 where
  pub values : List ℕ
  pub table : TableOf f (Kind values) t

-- a table with rows that end with some of these values
pub record TableAmong (f : Frame) (Kind : List ℕ → Rows → Type 0) (some : List (List ℕ))
    (t : Numbers) : Type 0 where
  pub values : List ℕ
  pub table : TableOf f (Kind values) t
  pub among : Contains some values

-- Of all tables that end, the fraction that ends with w is the weight of w over that of all
-- samples together.
abbrev pub DrawsEach : (f : Frame) → (List ℕ → Rows → Type 0) → (List ℕ → ℕ) → Type 0
DrawsEach f Kind weight = (w : List ℕ) (samples : List (List ℕ)) → IsSampleOf f w
    → AreAll (IsSampleOf f) samples → (n all : ℕ)
    → Count (TableOf f (Kind w)) n → Count (TableEnds f Kind) all
    → n * sum_by weight samples ≡ all * weight w

-- The fraction that ends with some of the samples is the weight of these samples over that of all.
abbrev pub DrawsSome : (f : Frame) → (List ℕ → Rows → Type 0) → (List ℕ → ℕ) → Type 0
DrawsSome f Kind weight = (some samples : List (List ℕ))
    → AreSome f some → AreAll (IsSampleOf f) samples → (n all : ℕ)
    → Count (TableAmong f Kind some) n → Count (TableEnds f Kind) all
    → n * sum_by weight samples ≡ all * sum_by weight some

-- This holds within these factors: n Z low <= all W high, and all W low <= n Z high.
pub record IsNearly (low high n all part whole : ℕ) : Type 0 where
  pub most : n * whole * low ≤ all * part * high
  pub least : all * part * low ≤ n * whole * high

-- What is known of the tables of numbers for a frame with rows that end with samples.
pub record AreDrawn (f : Frame) (Kind : List ℕ → Rows → Type 0) : Type 0 where
  -- A table ends only with samples.
  pub only : (w : List ℕ) (t : Numbers) → TableOf f (Kind w) t → IsSampleOf f w
  -- A table ends with at most one sample.
  pub one : (w x : List ℕ) (t : Numbers) → TableOf f (Kind w) t → TableOf f (Kind x) t → w ≡ x
  -- Samples are finitely many.
  pub samples : (z : ℕ) × Count (IsSampleOf f) z
  -- The tables that end are finitely many, and so are those that end with some of the samples.
  pub ended : (all : ℕ) × Count (TableEnds f Kind) all
  pub counted : (some : List (List ℕ)) → AreSome f some → (n : ℕ) × Count (TableAmong f Kind some) n
  -- Each sample is drawn by the share of its values among all samples.
  pub each : DrawsEach f Kind (sample_weight (all_shares f.weights))
  -- Each set of samples is drawn by the sum of its shares.
  pub by_shares : DrawsSome f Kind (sample_weight (all_shares f.weights))
  -- Samples are drawn by weights, if the weights of each variable sum to a number that divides
  -- 2 ^ 64.
  pub each_by_weights : All (λ ws. sum ws ∣ 2 ^ 64) f.weights
      → DrawsEach f Kind (sample_weight f.weights)
  pub by_weights : All (λ ws. sum ws ∣ 2 ^ 64) f.weights → DrawsSome f Kind (sample_weight f.weights)
  -- Otherwise this holds nearly. If weights are positive and sum to at most a bound, it holds
  -- within a factor of (2 ^ 64 + bound) / (2 ^ 64 - bound) for each variable, either way.
  pub nearly : (bound : ℕ) → All (AreUpTo bound) f.weights
      → (some samples : List (List ℕ)) → AreSome f some → AreAll (IsSampleOf f) samples
      → (n all : ℕ) → Count (TableAmong f Kind some) n → Count (TableEnds f Kind) all
      → IsNearly ((2 ^ 64 - bound) ^ length f.weights) ((2 ^ 64 + bound) ^ length f.weights)
      n all (sum_by (sample_weight f.weights) some) (sum_by (sample_weight f.weights) samples)
  -- If each variable has two values of weight 1, all samples are equally likely.
  pub evenly : All (λ ws. ws ≡ 1 ∷ 1 ∷ []) f.weights
      → (some samples : List (List ℕ)) → AreSome f some → AreAll (IsSampleOf f) samples
      → (n all : ℕ) → Count (TableAmong f Kind some) n → Count (TableEnds f Kind) all
      → n * length samples ≡ all * length some
