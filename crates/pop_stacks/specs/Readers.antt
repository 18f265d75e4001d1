-- Readers of stacks: which stacks they were made for, and which they may read.
use Rattle.std.specs.Prelude.{◌≡◌, ℕ, List, Bool, true, false, ⊤}
use Rattle.pop_model.specs.Stacks.{Origin, StackTable}
use Rattle.pop_model.specs.Stacks.Origin.{Given, Keyed}

-- the stacks that a reader was made for, and whether it has a cache
pub record ReaderOf : Type 0 where
  pub stacks : StackTable
  pub keeping : Bool

-- a reader that was made for these stacks and has no cache
abbrev pub plain_reader : StackTable → ReaderOf
plain_reader s = record { stacks = s; keeping = false }

-- a stream of this key gives the entries of this source; given rows have no stream
abbrev pub Streams : Origin → List ℕ → Type 0
Streams (Given rows) stream = ⊤
Streams (Keyed key sample height) stream = stream ≡ key

-- the entries come from the same rows, or from the same key for the same sample
abbrev pub HasSource : Origin → Origin → Type 0
HasSource (Given rows) (Given other) = rows ≡ other
HasSource (Keyed key sample height) (Keyed other number tall) = (key ≡ other) × (sample ≡ number)
HasSource origin other = ⊥

-- The reader may read these stacks. It was made for stacks of the same source and, if it has a
-- cache, of the same weights.
pub record Belongs (s : StackTable) (reader : ReaderOf) : Type 0 where
  pub source : HasSource s.origin reader.stacks.origin
  pub weights : reader.keeping ≡ true → s.weights ≡ reader.stacks.weights

-- given rows are not cached, since they are at hand
abbrev pub KeepsOfKeys : Origin → Bool → Type 0
KeepsOfKeys (Given rows) keeping = keeping ≡ true → ⊥
KeepsOfKeys (Keyed key sample height) keeping = ⊤
