-- Calls with arrays.
use Rattle.std.specs.Prelude.{◌≡◌, ◌⊎◌, ℕ, ◌+◌, ◌*◌, ◌/◌, ◌<◌, ◌≤◌, ◌^◌, List, [], length, slice_index, Some, None}
use Rattle.graph_read.specs.Ends.{graph_in}
use Rattle.graph_read.specs.declared.ends.EndsFault.TheVariants.{TooManyVertices, OddEnds, TooManyEdges, WeightCount, NoVertex, NoWeight, OutOfMemory as GraphMemory}
use Rattle.array_calls.specs.declared.refusal.ArrayRefusal.{ArrayRefusal}
use Rattle.array_calls.specs.declared.refusal.ArrayRefusal.TheVariants.{NoGraph, NoRoot, CutOff, TooHeavy, Isolated, OutOfMemory}
use Rattle.array_calls.specs.Trees.{EndsTrees, FitFrom, FitRows, FitsWanted, StopsAtTree, TreeArrays, WantsStops, trees_under, without_root}
use Rattle.array_calls.specs.Values.{LeavesOrientations, ValueArrays}
use Rattle.array_calls.specs.Refused.{RefusesOrientedArrays, RefusesTreeArrays}

-- the key has 32 bytes, the height is within its range, and the numbers of the samples have 32
-- bits
pub record IsDrawn (key : List ℕ) (height first count : ℕ) : Type 0 where
  pub key_fits : length key ≡ 32
  pub some : 0 < height
  pub short : height < 2 ^ 31
  pub last : first + count ≤ 2 ^ 32

-- a call for trees with arrays that have rows for this many samples
pub record IsCall (vertices root : ℕ) (key : List ℕ) (height first : ℕ) (from : List ℕ) (budget : ℕ)
    (parents edges useds counts : List ℕ) : Type 0 where
  pub drawn : IsDrawn key height first (length counts / 2)
  pub rows : FitRows vertices (length counts / 2) parents edges useds
  pub from_fits : FitFrom vertices height from
  pub at_root : slice_index from root ≡ 0
  pub stops : WantsStops budget vertices (length counts / 2) useds

-- the status, the kind and the place of each error
abbrev pub told_as : ArrayRefusal → ℕ × ℕ × ℕ
told_as (NoGraph TooManyVertices) = (4, 1, 0)
told_as (NoGraph OddEnds) = (3, 2, 0)
told_as (NoGraph TooManyEdges) = (4, 3, 0)
told_as (NoGraph WeightCount) = (3, 4, 0)
told_as (NoGraph (NoVertex place)) = (3, 5, place)
told_as (NoGraph (NoWeight place)) = (3, 6, place)
told_as (NoGraph GraphMemory) = (9, 0, 0)
told_as NoRoot = (6, 7, 0)
told_as (CutOff vertex) = (6, 8, vertex)
told_as (TooHeavy vertex) = (4, 9, vertex)
told_as (Isolated vertex) = (6, 10, vertex)
told_as OutOfMemory = (9, 0, 0)

-- the arrays have an error with this status, kind and place
pub record AreRefused (n : ℕ) (ends weights : List ℕ) (root status kind place : ℕ) : Type 0 where
  pub refusal : ArrayRefusal
  pub refused : RefusesTreeArrays n ends weights root refusal
  pub told : told_as refusal ≡ (status, kind, place)

-- each row of the arrays is at its end; there are as many rows as pairs of counts
abbrev pub EndTrees : ℕ → List ℕ → List ℕ → ℕ → List ℕ → ℕ → ℕ → List ℕ → ℕ → ℕ → TreeArrays → Type 0
EndTrees n ends weights root key height first from budget count new =
    EndsTrees (trees_under key height (graph_in n ends weights) (root + 1)) (graph_in n ends weights) (root + 1) first
    (without_root (root + 1) from) budget count new

-- the call stopped at this row
abbrev pub StopTrees : ℕ → List ℕ → List ℕ → ℕ → List ℕ → ℕ → ℕ → List ℕ → ℕ → ℕ → TreeArrays → TreeArrays → ℕ → Type 0
StopTrees n ends weights root key height first from budget count old new row =
    StopsAtTree (trees_under key height (graph_in n ends weights) (root + 1)) (graph_in n ends weights) (root + 1)
    first (without_root (root + 1) from) budget count old new row

-- the statuses of a call with arrays
abbrev pub IsArrayStatus : ℕ → Type 0
IsArrayStatus status = (status ≤ 4) ⊎ ((status ≡ 6) ⊎ ((status ≡ 9) ⊎ (status ≡ 10)))

-- the arrays have this many rows, with a number for each of the edges of these ends
pub record FitEdges (ends : List ℕ) (count : ℕ) (directions useds : List ℕ) : Type 0 where
  pub few : length ends / 2 < 2 ^ 31
  pub directions_fit : length directions ≡ count * (length ends / 2)
  pub useds_fit : FitsWanted (length ends / 2) count useds

-- a call for orientations with arrays that have rows for this many samples
pub record IsOrientCall (ends key : List ℕ) (height first : ℕ) (from : List ℕ) (budget : ℕ)
    (directions useds counts : List ℕ) : Type 0 where
  pub drawn : IsDrawn key height first (length counts / 2)
  pub rows : FitEdges ends (length counts / 2) directions useds
  pub from_fits : FitFrom (length ends / 2) height from
  pub stops : WantsStops budget (length ends / 2) (length counts / 2) useds

-- each row of the arrays is at its end
abbrev pub EndOrientations : ℕ → List ℕ → List ℕ → ℕ → ℕ → List ℕ → ℕ → ℕ → ValueArrays → ValueArrays → Type 0
EndOrientations n ends key height first from budget count old new =
    LeavesOrientations key height (graph_in n ends []) first from budget count old new None

-- the call stopped at this row
abbrev pub StopOrientations : ℕ → List ℕ → List ℕ → ℕ → ℕ → List ℕ → ℕ → ℕ → ValueArrays → ValueArrays → ℕ → Type 0
StopOrientations n ends key height first from budget count old new row =
    LeavesOrientations key height (graph_in n ends []) first from budget count old new (Some row)

-- the arrays have an error with this status, kind and place
pub record AreUnoriented (n : ℕ) (ends : List ℕ) (status kind place : ℕ) : Type 0 where
  pub refusal : ArrayRefusal
  pub refused : RefusesOrientedArrays n ends refusal
  pub told : told_as refusal ≡ (status, kind, place)
