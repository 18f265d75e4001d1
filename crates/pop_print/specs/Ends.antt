-- The ends that can be printed.
use Rattle.std.specs.Prelude.{◌≡◌, ℕ, ◌+◌, ◌<◌, List, Option, length, slice_index, ⊤, All}
use Rattle.pop_model.specs.Stacks.{variables_of, domain_of}
use Rattle.pop_model.specs.Popping.{Cube, AreWithin, AreValuesAt}
use Rattle.pop_model.specs.Families.{Event}
use Rattle.pop_model.specs.Families.Family.{Listed, Cycles}
use Rattle.pop_model.specs.Instances.{Instance}
use Rattle.pop_model.specs.Names.{vertex_of}
use Rattle.pop_model.specs.Runs.{IsStuckList}
use Rattle.graph_read.specs.Graphs.{GraphOf, IsVertex}
use Rattle.graph_read.specs.Grids.{IsSide, grid_of}
use Rattle.graph_read.specs.Incidence.{edges_at}
use Rattle.pop_print.specs.Stuck.{HasNames}
use Rattle.pop_print.specs.declared.facts.Facts.{Facts}
use Rattle.pop_print.specs.declared.facts.Facts.TheVariants.{Formula, Orient, Tree, Made}

-- the instance has a listed family over this many variables with two values
pub record IsOfPairs (n : ℕ) (i : Instance) : Type 0 where
  pub listed : (rows : List (ℕ × Cube)) × (i.family ≡ Listed rows)
  pub count : variables_of i.stacks ≡ n
  pub values : (v : ℕ) → v < n → domain_of i.stacks v ≡ 2

-- the instance has a cycle family over the vertices without the root, each with a slot for each of
-- its edges that is not a self-loop
pub record IsOfTree (g : GraphOf) (root : ℕ) (i : Instance) : Type 0 where
  pub root_is : IsVertex g.vertices root
  pub cycles : (heads : List (List (Option ℕ))) × (i.family ≡ Cycles heads)
  pub count : variables_of i.stacks + 1 ≡ g.vertices
  pub slots : (v : ℕ) → v < variables_of i.stacks
      → domain_of i.stacks v ≡ length (edges_at g (vertex_of root v))

-- the instance is that of the trees to vertex 1 of the grid of this side
pub record IsOfGrid (side : ℕ) (i : Instance) : Type 0 where
  pub side_is : IsSide side
  pub tree : IsOfTree (grid_of side) 1 i

-- the instance is that of the facts
abbrev pub AreFactsOf : Facts → Instance → Type 0
AreFactsOf (Formula n) i = IsOfPairs n i
AreFactsOf (Orient g) i = IsOfPairs (length g.edges) i
AreFactsOf (Tree g root) i = IsOfTree g root i
AreFactsOf (Made side) i = IsOfGrid side i

-- no grid was made, so ends are printed in full
abbrev pub IsToldInFull : Facts → Type 0
IsToldInFull (Made side) = ⊥
IsToldInFull facts = ⊤

-- one cursor for each variable, below its height, the events that occur there, and the values
pub record IsAtEnd (i : Instance) (cursors : List ℕ) (stuck : List Event) (shown : List ℕ)
    : Type 0 where
  pub count : length cursors ≡ variables_of i.stacks
  pub within : AreWithin i.stacks cursors
  pub stuck_list : IsStuckList i cursors stuck
  pub values : AreValuesAt i.stacks cursors shown

-- one cursor for each variable, one of its values, and events that can be printed
pub record IsPrintable (i : Instance) (cursors : List ℕ) (stuck : List Event) (shown : List ℕ)
    : Type 0 where
  pub count : length cursors ≡ variables_of i.stacks
  pub values : length shown ≡ variables_of i.stacks
  pub within : (v : ℕ) → v < variables_of i.stacks → slice_index shown v < domain_of i.stacks v
  pub named : All (HasNames i.family) stuck
