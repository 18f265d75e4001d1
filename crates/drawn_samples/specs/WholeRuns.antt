-- The distribution of whole runs: how many tables of numbers end by the records of a log, and with
-- which sample.
use Rattle.std.specs.Prelude.{◌≡◌, ℕ, ◌+◌, ◌-◌, ◌*◌, ◌^◌, List, [], ◌∷◌, length, replicate, slice_index, sum}
use Rattle.pop_model.specs.Stacks.{row_of}
use Rattle.pop_model.specs.Popping.{Cube}
use Rattle.pop_model.specs.Extremal.{IsExtremal}
use Rattle.pop_model.specs.Logs.{LogRecord, IsLegal, replay}
use Rattle.pop_model.specs.Runs.{start_of}
use Rattle.pop_samples.specs.Finishing.{FinishesBy}
use Rattle.pop_samples.specs.Frames.{Rows, Frame, IsFrame, AreRows, IsSampleOf, over}
use Rattle.pop_samples.specs.Exchange.{Samples, entries_under}
use Rattle.pop_samples.specs.Weights.{sample_weight}
use Rattle.key_samples.specs.Counts.{Count}
use Rattle.key_samples.specs.Numbers.{HaveWeights, TableOf}
use Rattle.key_samples.specs.Shares.{all_shares}
use Rattle.drawn_samples.specs.Drawn.{DrawsEach, TableEnds}

-- the cursors that a log leads to from zeros
abbrev pub end_of : Frame → List LogRecord → List ℕ
end_of f log = replay (replicate (length f.weights) 0) log

-- the rows finish by this log, with these entries at its end
pub record SamplesBy (f : Frame) (log : List LogRecord) (w : List ℕ) (rows : Rows) : Type 0 where
  pub shape : AreRows f.weights f.heights rows
  pub finishes : FinishesBy (over f rows) log (end_of f log)
  pub entries : entries_under rows (end_of f log) ≡ w

-- the product of the weights of the values that a cube demands
abbrev pub cube_weight : List (List ℕ) → Cube → ℕ
cube_weight weights [] = 1
cube_weight weights (p ∷ e) = slice_index (row_of weights p.0) p.1 * cube_weight weights e

-- the product of the weights of the values that all records of a log demand
abbrev pub log_weight : List (List ℕ) → List LogRecord → ℕ
log_weight weights [] = 1
log_weight weights (r ∷ log) = cube_weight weights r.event.cube * log_weight weights log

-- the number of entries that the records of a log use
abbrev pub used_by : List LogRecord → ℕ
used_by [] = 0
used_by (r ∷ log) = length r.event.cube + used_by log

-- a log that is legal on some rows of the frame
abbrev pub IsLogOf : Frame → List LogRecord → Type 0
IsLogOf f log = (rows : Rows) × AreRows f.weights f.heights rows
    × IsLegal (over f rows) (start_of (over f rows)) log

-- the number of tables of the entries that a run by this log does not read: all except those that
-- its records use and one of each variable
abbrev pub unread_numbers : Frame → List LogRecord → ℕ
unread_numbers f log = (2 ^ 64) ^ (sum f.heights - used_by log - length f.weights)

-- The number of tables that finish by the records of a log with a sample is a product: of the
-- shares of the values that the records demand, of the shares of the sample's values, and of
-- 2 ^ 64 for each entry that is not read. Events may clash.
abbrev pub RunNumbers : Type 0
RunNumbers = (f : Frame) → IsFrame f → HaveWeights f.weights → (log : List LogRecord) → IsLogOf f log
    → (w : List ℕ) → IsSampleOf f w
    → Count (TableOf f (SamplesBy f log w))
    (log_weight (all_shares f.weights) log * sample_weight (all_shares f.weights) w
    * unread_numbers f log)

-- So for every log the tables that finish by it draw from all samples by their shares.
abbrev pub DrawnByLogs : Type 0
DrawnByLogs = (f : Frame) → IsFrame f → HaveWeights f.weights → (log : List LogRecord) → IsLogOf f log
    → DrawsEach f (SamplesBy f log) (sample_weight (all_shares f.weights))

-- If the family is extremal, the sample and the log are independent: the number of tables with
-- both, times that of all that finish, is the number with the log times the number with the
-- sample.
abbrev pub IndependentOfLogs : Type 0
IndependentOfLogs = (f : Frame) → IsFrame f → HaveWeights f.weights → IsExtremal f.family
    → (log : List LogRecord) → IsLogOf f log → (w : List ℕ) → IsSampleOf f w
    → (both all with_log with_sample : ℕ)
    → Count (TableOf f (SamplesBy f log w)) both → Count (TableEnds f (Samples f)) all
    → Count (TableEnds f (SamplesBy f log)) with_log → Count (TableOf f (Samples f w)) with_sample
    → both * all ≡ with_log * with_sample
