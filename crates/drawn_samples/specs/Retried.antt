-- Retrying: tries with their own tables, of which the first that ends with a sample is kept. Each
-- try may have other heights, and other conditions by which runs are given up.
use Rattle.std.specs.Prelude.{◌≡◌, ◌⊎◌, ℕ, ◌*◌, ◌^◌, Bool, List, [], ◌∷◌, sum, All, ⊤}
use Rattle.std.specs.Int.{◌∣◌}
use Rattle.std.specs.List.{sum_by}
use Rattle.pop_model.specs.Extremal.{IsExtremal}
use Rattle.pop_model.specs.Logs.{LogRecord}
use Rattle.prs_rounds.specs.Units.{IsListed}
use Rattle.pop_samples.specs.Frames.{Frame, IsFrame, IsSampleOf, Rows}
use Rattle.pop_samples.specs.Lists.{AreAll}
use Rattle.pop_samples.specs.Weights.{sample_weight}
use Rattle.key_samples.specs.Counts.{Count}
use Rattle.key_samples.specs.Numbers.{AreNumbers, HaveWeights, Numbers, TableOf}
use Rattle.key_samples.specs.Shares.{all_shares}
use Rattle.drawn_samples.specs.Drawn.{TableEnds}
use Rattle.drawn_samples.specs.Where.{SampledWhere, SamplesWhere}

-- the heights of the stacks of a try, and which of its runs are accepted; the others are given up
pub record Try (Wanted : Type 0) : Type 0 where
  pub heights : List ℕ
  pub wanted : Wanted

-- the frame of a try
abbrev pub frame_of : Frame → {Wanted : Type 0} → Try Wanted → Frame
frame_of f t = record { family = f.family; weights = f.weights; heights = t.heights }

-- a table for each try
abbrev pub AreTables : {Wanted : Type 0} → List (Try Wanted) → List Numbers → Type 0
AreTables [] [] = ⊤
AreTables [] (table ∷ tables) = ⊥
AreTables (t ∷ tries) [] = ⊥
AreTables (t ∷ tries) (table ∷ tables) = AreNumbers t.heights table × AreTables tries tables

module _ {Wanted : Type 0} (f : Frame) (Kind : Frame → Wanted → List ℕ → Rows → Type 0) where
  -- the table's rows end with these values, by a run that is accepted
  abbrev pub Gives : Try Wanted → List ℕ → Numbers → Type 0
  Gives t w table = TableOf (frame_of f t) (Kind (frame_of f t) t.wanted w) table

  -- the table's rows end with some values, by a run that is accepted
  abbrev pub GivesSome : Try Wanted → Numbers → Type 0
  GivesSome t table = TableEnds (frame_of f t) (Kind (frame_of f t) t.wanted) table

  -- the table's rows end with no values by a run that is accepted
  abbrev pub GivesNone : Try Wanted → Numbers → Type 0
  GivesNone t table = AreNumbers t.heights table × (GivesSome t table → ⊥)

  -- These values are kept: the first try gives them, or it gives none and the other tries keep
  -- them.
  abbrev pub Keeps : List (Try Wanted) → List ℕ → List Numbers → Type 0
  Keeps [] w tables = ⊥
  Keeps (t ∷ tries) w [] = ⊥
  Keeps (t ∷ tries) w (table ∷ tables) =
      (Gives t w table × AreTables tries tables) ⊎ (GivesNone t table × Keeps tries w tables)

  -- some values are kept
  abbrev pub KeepsSome : List (Try Wanted) → List Numbers → Type 0
  KeepsSome tries tables = (w : List ℕ) × Keeps tries w tables

  -- Of all tables for which a sample is kept, the fraction for which w is kept is the weight of w
  -- over that of all samples together.
  abbrev pub DrawsKept : List (Try Wanted) → (List ℕ → ℕ) → Type 0
  DrawsKept tries weight = (w : List ℕ) (samples : List (List ℕ)) → IsSampleOf f w
      → AreAll (IsSampleOf f) samples → (n all : ℕ) → Count (Keeps tries w) n
      → Count (KeepsSome tries) all → n * sum_by weight samples ≡ all * weight w

  -- What is known of the values that are kept.
  pub record AreKept (tries : List (Try Wanted)) : Type 0 where
    -- Only samples are kept.
    pub only : (w : List ℕ) (tables : List Numbers) → Keeps tries w tables → IsSampleOf f w
    -- At most one sample is kept.
    pub one : (w x : List ℕ) (tables : List Numbers) → Keeps tries w tables → Keeps tries x tables
        → w ≡ x
    -- The tables are finitely many.
    pub counted : (w : List ℕ) → IsSampleOf f w → (n : ℕ) × Count (Keeps tries w) n
    pub ended : (all : ℕ) × Count (KeepsSome tries) all
    -- Each sample is kept by the share of its values among all samples.
    pub by_shares : DrawsKept tries (sample_weight (all_shares f.weights))
    -- Each sample is kept by its weight, if the weights of each variable sum to a number that
    -- divides 2 ^ 64.
    pub by_weights : All (λ ws. sum ws ∣ 2 ^ 64) f.weights → DrawsKept tries (sample_weight f.weights)

-- Retrying is unbiased. For any number of tries, any heights, and any condition on the logs of
-- each, the kept sample has the distribution of that of one run.
abbrev pub RetriedRuns : Type 0
RetriedRuns = (f : Frame) → HaveWeights f.weights → IsExtremal f.family
    → (tries : List (Try (List LogRecord → Bool))) → All (λ t. IsFrame (frame_of f t)) tries
    → AreKept f SamplesWhere tries

-- The same holds for rounds, for any listed events.
abbrev pub RetriedRounds : Type 0
RetriedRounds = (f : Frame) → HaveWeights f.weights → IsListed f.family
    → (tries : List (Try (List ℕ → ℕ → Bool))) → All (λ t. IsFrame (frame_of f t)) tries
    → AreKept f SampledWhere tries
