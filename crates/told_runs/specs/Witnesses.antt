-- The witness of a requested pop, which is given by the printed name of a variable and an entry.
use Rattle.std.specs.Prelude.{◌≡◌, ◌⊎◌, ℕ, ◌<◌, ◌≤◌, Bool, true, false, List, [], length, Option, None, Some, slice_get, ⊤}
use Rattle.pop_model.specs.Popping.{cursor}
use Rattle.pop_model.specs.Families.{Family}
use Rattle.pop_model.specs.Logs.{LogRecord}
use Rattle.pop_log.specs.declared.names.Names.{Names}
use Rattle.pop_log.specs.Printed.{name_of}
use Rattle.witness_trees.specs.Pops.{Uses}
use Rattle.witness_trees.specs.Vertices.{Vertex}
use Rattle.witness_trees.specs.Trees.{IsTree}
use Rattle.witness_trees.specs.TreeTexts.{tree_text, no_witness_text}

-- what is printed of a witness
pub data Witness : Type 0 where
  -- none is requested
  Unasked : Witness
  -- no pop used the entry: the requested name and entry, and the variable's cursor
  Missing : (name entry cursor : ℕ) → Witness
  -- the tree of the pop that used it, in preorder
  Shown : (tree : List Vertex) → Witness

-- a variable has this printed name, and this cursor
abbrev pub HasCursor : Names → List ℕ → ℕ → ℕ → Type 0
HasCursor names cursors name c =
    (v : ℕ) × (v < length cursors) × (name_of names v ≡ name) × (c ≡ cursor cursors v)

-- no variable has this printed name
abbrev pub IsNoName : Names → List ℕ → ℕ → Type 0
IsNoName names cursors name = (v : ℕ) → v < length cursors → name_of names v ≡ name → ⊥

-- the cursor of the variable with a printed name, or 0 if no variable has the name
abbrev pub IsCursorNamed : Names → List ℕ → ℕ → ℕ → Type 0
IsCursorNamed names cursors name c =
    HasCursor names cursors name c ⊎ (IsNoName names cursors name × (c ≡ 0))

-- the tree of the pop that used this entry of the variable with this name
pub record IsWitnessTree (names : Names) (cursors : List ℕ) (log : List LogRecord) (name entry : ℕ)
    (tree : List Vertex) : Type 0 where
  pub v : ℕ
  pub below : v < length cursors
  pub named : name_of names v ≡ name
  pub t : ℕ
  pub r : LogRecord
  pub record_is : slice_get log t ≡ Some r
  pub used : Uses r v entry
  pub tree_is : IsTree log t tree

-- If a name and an entry are requested: the tree of the pop that used the entry; or that there is
-- none, since the variable's cursor at the end of the log is not above the entry.
abbrev pub IsWitness : Names → Option (ℕ × ℕ) → List ℕ → List LogRecord → Witness → Type 0
IsWitness names None cursors log Unasked = ⊤
IsWitness names (Some asked) cursors log (Missing name entry c) =
    (name ≡ asked.0) × (entry ≡ asked.1) × IsCursorNamed names cursors name c × (c ≤ entry)
IsWitness names (Some asked) cursors log (Shown tree) =
    IsWitnessTree names cursors log asked.0 asked.1 tree
IsWitness names asked cursors log w = ⊥

-- the text of a witness
abbrev pub witness_text : Names → Family → Witness → List ℕ
witness_text names family Unasked = []
witness_text names family (Missing name entry c) = no_witness_text name entry c
witness_text names family (Shown tree) = tree_text names family tree

-- the requested pop does not exist
abbrev pub is_missing : Witness → Bool
is_missing Unasked = false
is_missing (Missing name entry c) = true
is_missing (Shown tree) = false

-- a printed witness: whether the requested pop is missing, and the text
pub record TellsWitness (names : Names) (family : Family) (asked : Option (ℕ × ℕ))
    (cursors : List ℕ) (log : List LogRecord) (missing : Bool) (text : List ℕ) : Type 0 where
  pub witness : Witness
  pub is : IsWitness names asked cursors log witness
  pub missing_is : missing ≡ is_missing witness
  pub text_is : text ≡ witness_text names family witness
