-- Theorems about runs that may be given up: for any condition on the log, the runs that satisfy it
-- have the distribution of all runs.
use Rattle.std.specs.Prelude.{◌≡◌, ◌↔◌, ℕ, Bool, List, [], None, length, replicate}
use Rattle.pop_model.specs.Stacks.{StackTable, Extends}
use Rattle.pop_model.specs.Popping.{values_at}
use Rattle.pop_model.specs.Extremal.{IsExtremal}
use Rattle.pop_model.specs.Instances.{Instance, IsInstance}
use Rattle.pop_model.specs.Logs.{LogRecord, replay}
use Rattle.pop_model.specs.Runs.{IsFinished, IsFirstRun, start_of}
use Rattle.prs_rounds.specs.Rounds.{IsRoundsEnd}
use Rattle.prs_rounds.specs.Units.{IsListed}
use Rattle.pop_samples.specs.Finishing.{with_stacks}
use Rattle.pop_samples.specs.Frames.{IsFrame, Frame, Rows}
use Rattle.key_samples.specs.Exact.{AreExact}
use Rattle.key_samples.specs.Keys.{numbers_of, under_key}
use Rattle.key_samples.specs.Numbers.{HaveWeights, TableOf}
use Rattle.drawn_samples.specs.Drawn.{AreDrawn}
use Rattle.drawn_samples.specs.Where.{EndsWhere, SamplesWhere, RoundsEndWhere, SampledWhere}

-- the numbers of tables for samples are as their shares, and the tables draw from all samples
pub record AreExactlyDrawn (f : Frame) (Kind : List ℕ → Rows → Type 0) : Type 0 where
  pub exact : AreExact f Kind
  pub drawn : AreDrawn f Kind

-- For an extremal family, one-thread runs with an accepted log draw from all samples, for any
-- condition on the log. Examples are a largest number of pops or of used entries.
abbrev pub WantedRuns : Type 0
WantedRuns = (f : Frame) → IsFrame f → HaveWeights f.weights → IsExtremal f.family
    → (wanted : List LogRecord → Bool) → AreExactlyDrawn f (SamplesWhere f wanted)

-- For listed events, runs by rounds draw from all samples if their cursors and number of rounds
-- are accepted, for any condition on these.
abbrev pub WantedRounds : Type 0
WantedRounds = (f : Frame) → IsFrame f → HaveWeights f.weights → IsListed f.family
    → (wanted : List ℕ → ℕ → Bool) → AreExactlyDrawn f (SampledWhere f wanted)

-- The one-thread run under a key ends with a sample, by an accepted log, exactly if the key's
-- table of numbers is counted for this sample.
abbrev pub KeyedWantedRuns : Type 0
KeyedWantedRuns = (f : Frame) → IsFrame f → HaveWeights f.weights → IsExtremal f.family
    → (key : List ℕ) (sample height : ℕ) → f.heights ≡ replicate (length f.weights) height
    → (wanted : List LogRecord → Bool) (w : List ℕ)
    → EndsWhere (under_key f key sample height) wanted w
    ↔ TableOf f (SamplesWhere f wanted w) (numbers_of key sample height (length f.weights))

-- The run by rounds under a key ends with a sample and is accepted exactly if the key's table of
-- numbers is counted for this sample.
abbrev pub KeyedWantedRounds : Type 0
KeyedWantedRounds = (f : Frame) → IsFrame f → HaveWeights f.weights → IsListed f.family
    → (key : List ℕ) (sample height : ℕ) → f.heights ≡ replicate (length f.weights) height
    → (wanted : List ℕ → ℕ → Bool) (w : List ℕ)
    → RoundsEndWhere (under_key f key sample height) wanted w
    ↔ TableOf f (SampledWhere f wanted w) (numbers_of key sample height (length f.weights))

-- The one-thread run ends by this log, and no event occurs.
pub record FirstFinishes (i : Instance) (log : List LogRecord) : Type 0 where
  pub run : IsFirstRun i (start_of i) log
  pub finished : IsFinished i (replay (start_of i) log)

-- the other instance ends by this log too, at the same cursors and with the same values
pub record EndsAlike (i other : Instance) (log : List LogRecord) : Type 0 where
  pub finishes : FirstFinishes other log
  pub cursors : replay (start_of other) log ≡ replay (start_of i) log
  pub values : values_at other.stacks (replay (start_of i) log)
      ≡ values_at i.stacks (replay (start_of i) log)

-- A run that ends with a sample ends with it on all taller stacks too, by the same log. So a retry
-- with a greater height does not change a sample.
abbrev pub TallerRuns : Type 0
TallerRuns = (i : Instance) → IsInstance i → IsExtremal i.family → (taller : StackTable)
    → Extends i.stacks taller → (log : List LogRecord) → FirstFinishes i log
    → EndsAlike i (with_stacks i taller) log

-- rounds finish the other instance too, at these cursors with the same values
pub record RoundsEndAlike (i other : Instance) (c : List ℕ) (rounds : ℕ) : Type 0 where
  pub end : IsRoundsEnd other c rounds [] None
  pub values : values_at other.stacks c ≡ values_at i.stacks c

-- The same holds for rounds, for any listed events.
abbrev pub TallerRounds : Type 0
TallerRounds = (i : Instance) → IsInstance i → IsListed i.family → (taller : StackTable)
    → Extends i.stacks taller → (c : List ℕ) (rounds : ℕ) → IsRoundsEnd i c rounds [] None
    → RoundsEndAlike i (with_stacks i taller) c rounds
