-- Theorems about witness trees.
use Rattle.std.specs.Prelude.{◌≡◌, ◌≢◌, ◌<◌, ◌+◌, ◌==◌, if◌then◌else◌, ℕ, List, ◌∷◌, ◌++◌, length, slice_get, Some, All, AllPairs}
use Rattle.pop_model.specs.Extremal.{IsExtremal, Share}
use Rattle.pop_model.specs.Instances.{Instance, IsInstance}
use Rattle.pop_model.specs.Logs.{LogRecord, IsLegal}
use Rattle.pop_model.specs.Runs.{start_of}
use Rattle.confluence_core.specs.Laws.{RunsToEnd}
use Rattle.witness_trees.specs.Pops.{Uses, HasTree}
use Rattle.witness_trees.specs.Vertices.{Vertex, AreVertices}
use Rattle.witness_trees.specs.Trees.{IsParent, IsTree}

-- vertices of the same depth share no variable
abbrev pub LevelsApart : Type 0
LevelsApart = (log : List LogRecord) (vs : List Vertex) → AreVertices log vs
    → AllPairs (λ v w. v.depth ≡ w.depth → Share v.label.cube w.label.cube → ⊥) vs

-- no two children of a vertex have the same label
abbrev pub SiblingsDiffer : Type 0
SiblingsDiffer = (log : List LogRecord) (vs : List Vertex) → All (λ r. 0 < length r.event.cube) log
    → AreVertices log vs
    → AllPairs (λ v w. (parent : Vertex) → IsParent vs parent v → IsParent vs parent w
    → v.label.cube ≢ w.label.cube) vs

-- a record has at most one tree
abbrev pub OneTree : Type 0
OneTree = (log : List LogRecord) (t : ℕ) (tree other : List Vertex) → IsTree log t tree
    → IsTree log t other → tree ≡ other

-- the place of a record after the neighbours at places n and n + 1 are swapped
abbrev pub exchanged_place : ℕ → ℕ → ℕ
exchanged_place n t = if t == n then n + 1 else if t == n + 1 then n else t

-- if two neighbours that share no variable are swapped, no record changes its tree
abbrev pub SwapKeepsTree : Type 0
SwapKeepsTree = (front back : List LogRecord) (r q : LogRecord)
    → (Share r.event.cube q.event.cube → ⊥) → (t : ℕ) (tree : List Vertex)
    → IsTree (front ++ r ∷ q ∷ back) t tree
    → IsTree (front ++ q ∷ r ∷ back) (exchanged_place (length front) t) tree

-- at most one pop of a legal log uses a given entry of a variable
abbrev pub OnePop : Type 0
OnePop = (i : Instance) (start : List ℕ) (log : List LogRecord) (v : ℕ) → v < length start
    → IsLegal i start log → (t u : ℕ) (r s : LogRecord) (k : ℕ) → slice_get log t ≡ Some r
    → slice_get log u ≡ Some s → Uses r v k → Uses s v k → t ≡ u

-- on an extremal instance the pop of an entry of a variable has the same tree in every run to an
-- end
abbrev pub SameTree : Type 0
SameTree = (i : Instance) → IsInstance i → IsExtremal i.family → (log other : List LogRecord)
    → RunsToEnd i (start_of i) log → RunsToEnd i (start_of i) other
    → (v k : ℕ) (tree another : List Vertex) → HasTree log v k tree → HasTree other v k another
    → tree ≡ another
