-- Which arrays are errors, and which error each has.
use Rattle.std.specs.Prelude.{◌≡◌, ◌⊎◌, ℕ, ◌+◌, ◌-◌, ◌<◌, ◌≤◌, List, []}
use Rattle.pop_model.specs.Places.{IsLeast}
use Rattle.pop_model.specs.Names.{vertex_of}
use Rattle.pop_rows.specs.PrefixSums.{IsTooHeavy}
use Rattle.graph_read.specs.declared.ends.EndsFault.{EndsFault}
use Rattle.graph_read.specs.declared.ends.EndsFault.TheVariants.{OutOfMemory as GraphMemory}
use Rattle.graph_read.specs.Graphs.{GraphOf}
use Rattle.graph_read.specs.Ends.{IsEndsFault, graph_in}
use Rattle.graph_read.specs.Paths.{IsConnected, IsCutOff}
use Rattle.sink_popping.specs.Sinks.{IsIsolated}
use Rattle.cycle_popping.specs.Trees.{weights_of_tree}
use Rattle.array_calls.specs.declared.refusal.ArrayRefusal.{ArrayRefusal}
use Rattle.array_calls.specs.declared.refusal.ArrayRefusal.TheVariants.{NoGraph, NoRoot, CutOff, TooHeavy, Isolated, OutOfMemory}

-- a fault of arrays as an error
abbrev pub ungraphed : EndsFault → ArrayRefusal
ungraphed GraphMemory = OutOfMemory
ungraphed fault = NoGraph fault

-- memory ran out, or the error is one of these
abbrev pub IsRefusal : (ArrayRefusal → Type 0) → ArrayRefusal → Type 0
IsRefusal Refuses refusal = (refusal ≡ OutOfMemory) ⊎ Refuses refusal

-- this is the lowest vertex that no path connects to the root
pub record HasCutOff (g : GraphOf) (root : ℕ) (refusal : ArrayRefusal) : Type 0 where
  pub vertex : ℕ
  pub least : IsLeast (IsCutOff g root) vertex
  pub is : refusal ≡ CutOff (vertex - 1)

-- the sum of these weights of a vertex is above 2^32 - 1, and the vertex is the lowest with such a
-- sum
pub record HasHeavyRow (weights : List (List ℕ)) (root : ℕ) (refusal : ArrayRefusal) : Type 0 where
  pub variable : ℕ
  pub least : IsLeast (IsTooHeavy weights) variable
  pub is : refusal ≡ TooHeavy (vertex_of root variable - 1)

-- the error of a graph if trees are asked for: by a vertex that is cut off from the root, or else
-- by its weights
abbrev pub RefusesTrees : GraphOf → ℕ → ArrayRefusal → Type 0
RefusesTrees g root refusal =
    HasCutOff g root refusal ⊎ (IsConnected g root × HasHeavyRow (weights_of_tree g root) root refusal)

-- the error of arrays if trees to a root are asked for, which counts from 0 there: by their form,
-- by a root that is no vertex, or else by their graph
abbrev pub RefusesTreeArrays : ℕ → List ℕ → List ℕ → ℕ → ArrayRefusal → Type 0
RefusesTreeArrays n ends weights root refusal =
    ((fault : EndsFault) × IsEndsFault n ends weights fault × (refusal ≡ ungraphed fault))
    ⊎ (((n ≤ root) × (refusal ≡ NoRoot))
    ⊎ ((root < n) × RefusesTrees (graph_in n ends weights) (root + 1) refusal))

-- this is the lowest isolated vertex
pub record HasIsolated (g : GraphOf) (refusal : ArrayRefusal) : Type 0 where
  pub vertex : ℕ
  pub least : IsLeast (IsIsolated g) vertex
  pub is : refusal ≡ Isolated (vertex - 1)

-- the error of arrays if orientations are asked for: by their form, or else by an isolated vertex
abbrev pub RefusesOrientedArrays : ℕ → List ℕ → ArrayRefusal → Type 0
RefusesOrientedArrays n ends refusal =
    ((fault : EndsFault) × IsEndsFault n ends [] fault × (refusal ≡ ungraphed fault))
    ⊎ HasIsolated (graph_in n ends []) refusal
