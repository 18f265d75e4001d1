-- Samples of variables with two values in arrays: a row has a number for each variable.
use Rattle.std.specs.Prelude.{◌≡◌, ℕ, ◌+◌, ◌-◌, ◌*◌, ◌<◌, List, [], ◌∷◌, length, replicate, slice_index, Option, MatchOption}
use Rattle.rand_chacha.specs.ChaCha.{key_of}
use Rattle.pop_model.specs.Stacks.{StackTable, IsKeyed}
use Rattle.pop_model.specs.Stacks.Origin.{Keyed}
use Rattle.pop_model.specs.Popping.{Cube}
use Rattle.pop_model.specs.Families.Family.{Listed}
use Rattle.pop_model.specs.Instances.{Instance}
use Rattle.graph_read.specs.Graphs.{GraphOf}
use Rattle.sink_popping.specs.Sinks.{AreSinksOf, IsIsolated}
use Rattle.confluence_core.specs.declared.end.End.{End}
use Rattle.pop_batch.specs.Parts.{IsPartEnd, IsPartStop}
use Rattle.array_calls.specs.Rows.{HasRow, HasWanted, StaysFrom}
use Rattle.array_calls.specs.Draws.{AreWithinBudget, given, pops_of, unlimited}

-- the number of each variable: variable v is at place v + 1 of a row
abbrev pub number_at : List ℕ → ℕ → ℕ
number_at numbers k = slice_index numbers (k - 1)

-- The three arrays of a call for values.
pub record ValueArrays : Type 0 where
  pub values : List ℕ
  pub useds : List ℕ
  pub counts : List ℕ

abbrev pub value_arrays : List ℕ → List ℕ → List ℕ → ValueArrays
value_arrays values useds counts = record { values = values; useds = useds; counts = counts }

-- What is the end of a sample from given cursors, or from none, or where it stopped: a call for values goes by popping or
-- by rounds.
abbrev pub Ends : Type 1
Ends = ℕ → Option (List ℕ) → End → Type 0

-- Row j of the arrays has the values and the cursors at the end of the sample under the number first + j, with the number
-- of its pops or rounds and that of the events that still occur, which is 0 of a sample. Where cursors are given, row 0
-- goes on from these.
pub record IsRow (IsItsEnd : Ends) (n first : ℕ) (from : List ℕ) (j : ℕ) (values useds counts : List ℕ)
    : Type 0 where
  pub end : End
  pub of_sample : IsItsEnd (first + j) (given from j) end
  pub has_values : HasRow (j * n) n (number_at end.values) values
  pub has_used : HasWanted (j * n) n (number_at end.cursors) useds
  pub pops : slice_index counts (2 * j) ≡ end.pops
  pub stuck : slice_index counts (2 * j + 1) ≡ length end.stuck

-- each row has such an end, of so many
abbrev pub AreRows : Ends → ℕ → ℕ → List ℕ → ℕ → List ℕ → List ℕ → List ℕ → Type 0
AreRows IsItsEnd n first from count values useds counts =
    (j : ℕ) → j < count → IsRow IsItsEnd n first from j values useds counts

-- Row j of the arrays has where the sample under the number first + j was stopped: its cursors, the number of its pops or
-- rounds and that of the events that occur there.
pub record IsStop (IsItsStop : Ends) (n first : ℕ) (from : List ℕ) (j : ℕ) (useds counts : List ℕ)
    : Type 0 where
  pub stop : End
  pub of_sample : IsItsStop (first + j) (given from j) stop
  pub has_used : HasRow (j * n) n (number_at stop.cursors) useds
  pub pops : slice_index counts (2 * j) ≡ stop.pops
  pub stuck : slice_index counts (2 * j + 1) ≡ length stop.stuck

-- The call stopped at row j, where its budget was spent. Rows before it are at their ends. Its own has its cursors and
-- counts, and all that lies behind stays.
pub record StopsAtRow (IsItsEnd IsItsStop : Ends) (n first : ℕ) (from : List ℕ) (budget count : ℕ)
    (old new : ValueArrays) (j : ℕ) : Type 0 where
  pub below : j < count
  pub rows : AreRows IsItsEnd n first from j new.values new.useds new.counts
  pub stop : IsStop IsItsStop n first from j new.useds new.counts
  pub limited : budget < unlimited
  pub spent : pops_of (j + 1) new.counts ≡ budget
  pub values_stay : StaysFrom (j * n) old.values new.values
  pub useds_stay : StaysFrom ((j + 1) * n) old.useds new.useds
  pub counts_stay : StaysFrom (2 * (j + 1)) old.counts new.counts

-- each row, of so many, is at its end, within the budget
pub record EndsRows (IsItsEnd : Ends) (n first : ℕ) (from : List ℕ) (budget count : ℕ) (new : ValueArrays)
    : Type 0 where
  pub rows : AreRows IsItsEnd n first from count new.values new.useds new.counts
  pub within : AreWithinBudget budget count new.counts

-- what a call leaves in the arrays that stopped at a row, or at none
abbrev pub LeavesRows : Ends → Ends → ℕ → ℕ → List ℕ → ℕ → ℕ → ValueArrays → ValueArrays → Option ℕ → Type 0
LeavesRows IsItsEnd IsItsStop n first from budget count old new stopped =
    MatchOption stopped (EndsRows IsItsEnd n first from budget count new)
    (StopsAtRow IsItsEnd IsItsStop n first from budget count old new)

-- rows by popping
abbrev pub IsValueRow : Instance → ℕ → ℕ → List ℕ → ℕ → List ℕ → List ℕ → List ℕ → Type 0
IsValueRow i n first from j values useds counts = IsRow (IsPartEnd i) n first from j values useds counts

abbrev pub IsValueStop : Instance → ℕ → ℕ → List ℕ → ℕ → List ℕ → List ℕ → Type 0
IsValueStop i n first from j useds counts = IsStop (IsPartStop i) n first from j useds counts

abbrev pub LeavesValues : Instance → ℕ → ℕ → List ℕ → ℕ → ℕ → ValueArrays → ValueArrays → Option ℕ → Type 0
LeavesValues i n first from budget count old new stopped =
    LeavesRows (IsPartEnd i) (IsPartStop i) n first from budget count old new stopped

-- listed events over n variables of two values, under a key and a height
abbrev pub pairs_under : List ℕ → ℕ → ℕ → List (ℕ × Cube) → Instance
pairs_under key height n events = record {
  stacks = record { origin = Keyed (key_of key) 0 height; weights = replicate n (1 ∷ 1 ∷ []) };
  family = Listed events;
}

-- the sinks of a graph without isolated vertices, under a key and a height
pub record AreSinksUnder (key : List ℕ) (height : ℕ) (g : GraphOf) (i : Instance) : Type 0 where
  pub touched : (w : ℕ) → IsIsolated g w → ⊥
  pub events : List (ℕ × Cube)
  pub of_graph : AreSinksOf g events
  pub is : i ≡ pairs_under key height (length g.edges) events

-- n variables of two values
pub record AreOfPairs (n : ℕ) (s : StackTable) : Type 0 where
  pub keyed : IsKeyed s.origin
  pub is : s.weights ≡ replicate n (1 ∷ 1 ∷ [])

-- what a call for orientations of the graph leaves, if it stopped at a row, or at none
pub record LeavesOrientations (key : List ℕ) (height : ℕ) (g : GraphOf) (first : ℕ) (from : List ℕ) (budget count : ℕ)
    (old new : ValueArrays) (stopped : Option ℕ) : Type 0 where
  pub instance : Instance
  pub sinks : AreSinksUnder key height g instance
  pub rows : LeavesValues instance (length g.edges) first from budget count old new stopped
