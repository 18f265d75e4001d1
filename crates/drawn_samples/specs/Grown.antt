-- Trying again over the same numbers, with other heights: what a try has of them are the first
-- entries.
use Rattle.std.specs.Prelude.{◌≡◌, ◌⊎◌, ℕ, ◌<◌, ◌≤◌, Bool, List, [], ◌∷◌, length, slice_index, take, All}
use Rattle.pop_model.specs.Extremal.{IsExtremal}
use Rattle.pop_model.specs.Logs.{LogRecord}
use Rattle.pop_samples.specs.Exchange.{Samples}
use Rattle.pop_samples.specs.Frames.{AreRows, Frame, IsFrame, IsSampleOf, Rows}
use Rattle.key_samples.specs.Numbers.{HaveWeights}
use Rattle.drawn_samples.specs.Retried.{Try, frame_of}
use Rattle.drawn_samples.specs.Where.{SamplesWhere}
use Rattle.drawn_samples.specs.WhereLaws.{AreExactlyDrawn}

-- the first entries of each row
abbrev pub cut : List ℕ → Rows → Rows
cut [] rows = []
cut (h ∷ heights) [] = []
cut (h ∷ heights) (row ∷ rows) = take h row ∷ cut heights rows

-- heights of 1 at least, each at most the other
pub record AreLower (lower heights : List ℕ) : Type 0 where
  pub size : length lower ≡ length heights
  pub some : All (λ h. 0 < h) lower
  pub low : (v : ℕ) → slice_index lower v ≤ slice_index heights v

-- a try of the one-thread run: how high its stacks are, and which logs are wanted
abbrev pub RunTry : Type 0
RunTry = Try (List LogRecord → Bool)

-- the run of the first entries ends with these values, and its log is wanted
abbrev pub TryGives : Frame → RunTry → List ℕ → Rows → Type 0
TryGives f t w rows = SamplesWhere (frame_of f t) t.wanted w (cut t.heights rows)

-- the first try that gives a sample gives this one
abbrev pub FirstGives : Frame → List RunTry → List ℕ → Rows → Type 0
FirstGives f [] w rows = ⊥
FirstGives f (t ∷ tries) w rows =
    TryGives f t w rows ⊎ (((x : List ℕ) → TryGives f t x rows → ⊥) × FirstGives f tries w rows)

-- so it is with rows of the frame
pub record GrowsTo (f : Frame) (tries : List RunTry) (w : List ℕ) (rows : Rows) : Type 0 where
  pub shape : AreRows f.weights f.heights rows
  pub first : FirstGives f tries w rows

-- What is known of tries over the same rows.
pub record AreGrown (f : Frame) (tries : List RunTry) : Type 0 where
  -- What is kept draws from all samples.
  pub drawn : AreExactlyDrawn f (GrowsTo f tries)
  -- No try gives another sample than another.
  pub alike : (t u : RunTry) → AreLower t.heights f.heights → AreLower u.heights f.heights
      → (w x : List ℕ) (rows : Rows) → AreRows f.weights f.heights rows
      → TryGives f t w rows → TryGives f u x rows → w ≡ x
  -- What a try gives, a try with greater heights gives too, where it wants the same logs.
  pub stays : (t u : RunTry) → AreLower t.heights u.heights → AreLower u.heights f.heights
      → u.wanted ≡ t.wanted → (w : List ℕ) (rows : Rows) → AreRows f.weights f.heights rows
      → TryGives f t w rows → TryGives f u w rows

-- Trying again over the same numbers is unbiased: with greater heights, or with other logs that are
-- wanted, as those of more pops, in any order.
abbrev pub GrownRuns : Type 0
GrownRuns = (f : Frame) → IsFrame f → HaveWeights f.weights → IsExtremal f.family
    → (tries : List RunTry) → All (λ t. AreLower t.heights f.heights) tries → AreGrown f tries

-- rows of greater heights that begin with these, and of which a run ends with a sample
pub record EndTaller (f : Frame) (rows : Rows) : Type 0 where
  pub heights : List ℕ
  pub lower : AreLower f.heights heights
  pub taller : Rows
  pub shape : AreRows f.weights heights taller
  pub begins : cut f.heights taller ≡ rows
  pub values : List ℕ
  pub ends : Samples (record { family = f.family; weights = f.weights; heights = heights }) values taller

-- If there is a sample, rows are the first entries of taller ones of which a run ends with a
-- sample; over an extremal family the one-thread run does. So an exhausted run may end with a
-- sample at a greater height, whatever its entries are.
abbrev pub MayEnd : Type 0
MayEnd = (f : Frame) → IsFrame f → (x : List ℕ) → IsSampleOf f x
    → (rows : Rows) → AreRows f.weights f.heights rows → EndTaller f rows
