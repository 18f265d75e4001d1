-- The exact distribution: how many rows finish with each sample, and their weights.
use Rattle.std.specs.Prelude.{◌≡◌, ℕ, ◌*◌, List, [], length, replicate}
use Rattle.std.specs.List.{sum_by}
use Rattle.pop_model.specs.Extremal.{IsExtremal}
use Rattle.pop_model.specs.Logs.{LogRecord}
use Rattle.pop_model.specs.Runs.{IsFirstEnd}
use Rattle.pop_samples.specs.Finishing.{FinishesBy}
use Rattle.pop_samples.specs.Frames.{Rows, Frame, IsFrame, AreRows, IsSampleOf, over}
use Rattle.pop_samples.specs.Exchange.{SamplesAt, Samples, entries_under, exchange}
use Rattle.pop_samples.specs.Weights.{weight_of, sample_weight}
use Rattle.pop_samples.specs.Lists.{AreAll}

-- The result of replacing w by x at the end c of these rows: rows that finish at c by the same
-- logs, with x there. If w is put back, the result is the first rows. The weights change as those
-- of the samples.
pub record Exchanges (f : Frame) (w x c : List ℕ) (rows : Rows) : Type 0 where
  pub samples : SamplesAt f x c (exchange rows c x)
  pub same_log : (log : List LogRecord) → FinishesBy (over f rows) log c
      → FinishesBy (over f (exchange rows c x)) log c
  pub back : exchange (exchange rows c x) c w ≡ rows
  pub weight : weight_of f.weights (exchange rows c x) * sample_weight f.weights w
      ≡ weight_of f.weights rows * sample_weight f.weights x

-- The sample at the end of rows can be replaced by any other sample.
abbrev pub ExchangedSamples : Type 0
ExchangedSamples = (f : Frame) → IsFrame f → (w x c : List ℕ) (rows : Rows) → SamplesAt f w c rows
    → IsSampleOf f x → Exchanges f w x c rows

-- the end of the one-thread run of these rows after x replaced the entries there: its end and its
-- pops, with x there
pub record KeepsEnd (f : Frame) (x c : List ℕ) (pops : ℕ) (rows : Rows) : Type 0 where
  pub end : IsFirstEnd (over f (exchange rows c x)) c pops []
  pub entries : entries_under (exchange rows c x) c ≡ x

-- If the one-thread run of rows ends with no event stuck, the entries there can be replaced by any
-- sample. The run of the new rows ends at the same cursors, after as many pops, with that sample.
abbrev pub ExchangedEnds : Type 0
ExchangedEnds = (f : Frame) → IsFrame f → IsExtremal f.family → (x c : List ℕ) (pops : ℕ)
    (rows : Rows) → AreRows f.weights f.heights rows → IsFirstEnd (over f rows) c pops []
    → IsSampleOf f x → KeepsEnd f x c pops rows

-- there are as many of these rows as of the others, and their total weights are in the ratio of
-- the weights of w and x
pub record AreProportional (f : Frame) (w x : List ℕ) (all others : List Rows) : Type 0 where
  pub count : length all ≡ length others
  pub weight : sum_by (weight_of f.weights) all * sample_weight f.weights x
      ≡ sum_by (weight_of f.weights) others * sample_weight f.weights w

-- The rows of a frame that finish with one sample are in proportion to those that finish with
-- another, if the family is extremal.
abbrev pub ExactSamples : Type 0
ExactSamples = (f : Frame) → IsFrame f → IsExtremal f.family → (w x : List ℕ)
    → IsSampleOf f w → IsSampleOf f x → (all others : List Rows)
    → AreAll (Samples f w) all → AreAll (Samples f x) others → AreProportional f w x all others

-- The same holds for the rows that some log finishes at given cursors, for every family, even if
-- events clash: the sample does not depend on the pops.
abbrev pub ExactSamplesAt : Type 0
ExactSamplesAt = (f : Frame) → IsFrame f → (w x c : List ℕ)
    → IsSampleOf f w → IsSampleOf f x → (all others : List Rows)
    → AreAll (SamplesAt f w c) all → AreAll (SamplesAt f x c) others
    → AreProportional f w x all others

-- The rows of a frame that finish with a given sample are a finite list.
abbrev pub ListedSamples : Type 0
ListedSamples = (f : Frame) → IsFrame f → IsExtremal f.family → (w : List ℕ) → IsSampleOf f w
    → (all : List Rows) × AreAll (Samples f w) all

-- The rows of a frame that finish with a given sample at given cursors are a finite list, for
-- every family.
abbrev pub ListedSamplesAt : Type 0
ListedSamplesAt = (f : Frame) → IsFrame f → (w c : List ℕ) → IsSampleOf f w
    → (all : List Rows) × AreAll (SamplesAt f w c) all

-- For each sample there are rows of the frame that finish with it before any pop.
abbrev pub ReachedSamples : Type 0
ReachedSamples = (f : Frame) → IsFrame f → (w : List ℕ) → IsSampleOf f w
    → (rows : Rows) × SamplesAt f w (replicate (length f.weights) 0) rows
