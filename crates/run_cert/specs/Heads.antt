-- The head of a certificate: the lines with the command, the stacks and the size of the input.
use Rattle.std.specs.Prelude.{◌≡◌, ◌≢◌, ℕ, ◌<◌, ◌^◌, Bool, true, false, List, [], ◌∷◌, ◌++◌, length, map, Contains, decimal, codes}
use Rattle.std.specs.List.{AllByRecursion, join_with_byte}
use Rattle.hex.specs.Hex.{encode_lower}
use Rattle.pop_model.specs.Text.{line}
use Rattle.pop_stacks.specs.declared.stack_spec.StackSpec.{StackSpec}
use Rattle.pop_stacks.specs.declared.stack_spec.StackSpec.TheVariants.{Key, Given}
use Rattle.pop_words.specs.declared.command.Command.{Command}
use Rattle.pop_words.specs.declared.command.Command.TheVariants.{Tree}
use Rattle.pop_words.specs.Options.{command_word, paused}
use Rattle.pop_words.specs.Values.{are_within}

-- the contents of a head
pub record Head : Type 0 where
  pub command : Command
  pub stacks : StackSpec
  -- the height of keyed stacks; 2 ^ 20 if rows are given
  pub height : ℕ
  -- the root of a tree; 1 for any other command
  pub root : ℕ
  -- the number of bytes of input
  pub size : ℕ

-- whether the head of a command has a root
abbrev pub has_root : Command → Bool
has_root Tree = true
has_root command = false

-- `cert 1 COMMAND`
abbrev pub command_line : Command → List ℕ
command_line command = line (codes "cert 1 " ++ command_word command)

-- the numbers of a row, joined by `,`
abbrev pub row_text : List ℕ → List ℕ
row_text row = join_with_byte 44 (map decimal row)

-- rows joined by `;`, after a space; nothing if there are no rows
abbrev pub rows_text : List (List ℕ) → List ℕ
rows_text [] = []
rows_text (row ∷ rows) = 32 ∷ join_with_byte 59 (map row_text (row ∷ rows))

-- `key DIGITS`, or `stacks ROWS`
abbrev pub stacks_line : StackSpec → List ℕ
stacks_line (Key key) = line (codes "key " ++ encode_lower key)
stacks_line (Given rows) = line (codes "stacks" ++ rows_text rows)

-- `height H`
abbrev pub height_line : ℕ → List ℕ
height_line height = line (codes "height " ++ decimal height)

-- the lines of stacks after their first: keyed stacks have a height
abbrev pub height_lines : StackSpec → ℕ → List (List ℕ)
height_lines (Key key) height = height_line height ∷ []
height_lines (Given rows) height = []

-- `root R`
abbrev pub root_line : ℕ → List ℕ
root_line root = line (codes "root " ++ decimal root)

-- `input N`
abbrev pub input_line : ℕ → List ℕ
input_line size = line (codes "input " ++ decimal size)

-- the line of the root, if there is one
abbrev pub root_lines : Bool → ℕ → List (List ℕ)
root_lines true root = root_line root ∷ []
root_lines false root = []

-- the lines of a head, each with its line end
abbrev pub head_lines : Head → List (List ℕ)
head_lines h =
    command_line h.command
    ∷ stacks_line h.stacks
    ∷ height_lines h.stacks h.height
    ++ (root_lines (has_root h.command) h.root ++ input_line h.size ∷ [])

-- Keys have 32 bytes. Rows are within the limits of arguments, and their numbers have 32 bits.
-- Exactly one empty row cannot be written, since an empty argument has no row.
abbrev pub MayBeStacks : StackSpec → Type 0
MayBeStacks (Key key) = (length key ≡ 32) × AllByRecursion (λ b. b < 256) key
MayBeStacks (Given rows) =
    (rows ≢ [] ∷ []) × (are_within rows ≡ true)
    × AllByRecursion (AllByRecursion (λ n. n < 2 ^ 32)) rows

-- a height of keyed stacks
abbrev pub IsHeight : ℕ → Type 0
IsHeight height = (0 < height) × (height < 2 ^ 31)

-- keyed stacks have a height of at least 1, and given rows have the default of `--height`
abbrev pub MayBeHeight : StackSpec → ℕ → Type 0
MayBeHeight (Key key) height = IsHeight height
MayBeHeight (Given rows) height = height ≡ 2 ^ 20

-- a root is at least 1; it is 1 if the head has none
abbrev pub MayBeRoot : Bool → ℕ → Type 0
MayBeRoot true root = (0 < root) × (root < 2 ^ 32)
MayBeRoot false root = root ≡ 1

-- the input has fewer than 2 ^ 32 bytes
abbrev pub MayBeSize : ℕ → Type 0
MayBeSize size = size < 2 ^ 32

-- a valid head
pub record IsHead (h : Head) : Type 0 where
  pub command : Contains paused h.command
  pub stacks : MayBeStacks h.stacks
  pub height : MayBeHeight h.stacks h.height
  pub root : MayBeRoot (has_root h.command) h.root
  pub size : MayBeSize h.size
