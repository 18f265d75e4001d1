-- Runs that end with a sample and satisfy a condition on their log, or on their cursors and
-- rounds. An example is that runs are given up after a number of pops or rounds.
use Rattle.std.specs.Prelude.{◌≡◌, ℕ, Bool, true, List, [], None}
use Rattle.pop_model.specs.Popping.{values_at}
use Rattle.pop_model.specs.Instances.{Instance}
use Rattle.pop_model.specs.Logs.{LogRecord, replay}
use Rattle.pop_model.specs.Runs.{IsFinished, IsFirstRun, start_of}
use Rattle.prs_rounds.specs.Rounds.{IsRoundsEnd}
use Rattle.pop_samples.specs.Frames.{Rows, Frame, AreRows, over}
use Rattle.pop_samples.specs.Exchange.{entries_under}
use Rattle.round_samples.specs.Sampled.{SampledBy}

-- The one-thread run ends with these values, no event occurs, and its log is accepted.
pub record EndsWhere (i : Instance) (wanted : List LogRecord → Bool) (w : List ℕ) : Type 0 where
  pub log : List LogRecord
  pub run : IsFirstRun i (start_of i) log
  pub finished : IsFinished i (replay (start_of i) log)
  pub values : values_at i.stacks (replay (start_of i) log) ≡ w
  pub wanted_log : wanted log ≡ true

-- the one-thread run of these rows ends with these values, and its log is accepted
pub record SamplesWhere (f : Frame) (wanted : List LogRecord → Bool) (w : List ℕ) (rows : Rows)
    : Type 0 where
  pub shape : AreRows f.weights f.heights rows
  pub log : List LogRecord
  pub run : IsFirstRun (over f rows) (start_of (over f rows)) log
  pub finished : IsFinished (over f rows) (replay (start_of (over f rows)) log)
  pub entries : entries_under rows (replay (start_of (over f rows)) log) ≡ w
  pub wanted_log : wanted log ≡ true

-- The run by rounds ends with these values, no event occurs, and its cursors and number of rounds
-- are accepted.
pub record RoundsEndWhere (i : Instance) (wanted : List ℕ → ℕ → Bool) (w : List ℕ) : Type 0 where
  pub cursors : List ℕ
  pub rounds : ℕ
  pub end : IsRoundsEnd i cursors rounds [] None
  pub values : values_at i.stacks cursors ≡ w
  pub wanted_end : wanted cursors rounds ≡ true

-- the run by rounds of these rows ends with these values, and is accepted
pub record SampledWhere (f : Frame) (wanted : List ℕ → ℕ → Bool) (w : List ℕ) (rows : Rows)
    : Type 0 where
  pub cursors : List ℕ
  pub rounds : ℕ
  pub by : SampledBy f w cursors rounds rows
  pub wanted_end : wanted cursors rounds ≡ true
