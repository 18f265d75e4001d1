-- Rows that finish with a sample, and the exchange of that sample for another. Propp and Wilson
-- (1998) exchange the arrows on top of the stacks, and Guo, Jerrum and Liu (2019) entries of a
-- resampling table.
use Rattle.std.specs.Prelude.{◌≡◌, ℕ, List, [], ◌∷◌, slice_index, slice_set}
use Rattle.pop_samples.specs.Finishing.{FinishesAt}
use Rattle.pop_samples.specs.Frames.{Rows, Frame, AreRows, over}

-- the entries at the cursors
abbrev pub entries_under : Rows → List ℕ → List ℕ
entries_under [] c = []
entries_under (row ∷ rows) [] = []
entries_under (row ∷ rows) (k ∷ c) = slice_index row k ∷ entries_under rows c

-- the rows with the entries at the cursors replaced by these values
abbrev pub exchange : Rows → List ℕ → List ℕ → Rows
exchange [] c w = []
exchange (row ∷ rows) [] w = row ∷ rows
exchange (row ∷ rows) (k ∷ c) [] = row ∷ rows
exchange (row ∷ rows) (k ∷ c) (x ∷ w) = slice_set row k x ∷ exchange rows c w

-- the rows finish at these cursors, with these entries there
pub record SamplesAt (f : Frame) (w c : List ℕ) (rows : Rows) : Type 0 where
  pub shape : AreRows f.weights f.heights rows
  pub finishes : FinishesAt (over f rows) c
  pub entries : entries_under rows c ≡ w

-- the rows finish with these values, at some cursors
abbrev pub Samples : Frame → List ℕ → Rows → Type 0
Samples f w rows = (c : List ℕ) × SamplesAt f w c rows
