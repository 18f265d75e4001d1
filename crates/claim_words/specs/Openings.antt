-- What a board belongs to: an instance, and the cursors at its start.
use Rattle.std.specs.Prelude.{◌≡◌, ℕ, Bool, true, false, length, Option, Some, None}
use Rattle.pop_model.specs.Stacks.{StackTable, value_at, height_of, variables_of}
use Rattle.pop_model.specs.Popping.{cursor}
use Rattle.pop_model.specs.Cycles.{head_of}
use Rattle.pop_model.specs.Families.{Family}
use Rattle.pop_model.specs.Families.Family.{Listed, Cycles}
use Rattle.claim_words.specs.declared.opening.Opening.{Opening}

-- the number of variables of the instance
abbrev pub count : Opening → ℕ
count k = variables_of k.instance.value.stacks

-- the number of entries of a variable
abbrev pub height : Opening → ℕ → ℕ
height k v = height_of k.instance.value.stacks v

-- entry n of a variable has this value
abbrev pub Has : Opening → ℕ → ℕ → ℕ → Type 0
Has k v n x = value_at k.instance.value.stacks v n ≡ x

-- the cursor of a variable at the start
abbrev pub begun : Opening → ℕ → ℕ
begun k v = cursor k.start.value v

-- whether a family is listed
abbrev pub is_listed : Family → Bool
is_listed (Listed rows) = true
is_listed (Cycles heads) = false

-- the number of marks: one for each unit of a listed family
abbrev pub marks_in : Family → ℕ
marks_in (Listed rows) = length rows
marks_in (Cycles heads) = 0

-- the number of marks of a board
abbrev pub marks : Opening → ℕ
marks k = marks_in k.instance.value.family

-- the head of the slot that is entry n of v; None is the root
abbrev pub head_in : Family → StackTable → ℕ → ℕ → Option ℕ
head_in (Listed rows) s v n = None
head_in (Cycles heads) s v n = head_of heads v (value_at s v n)

-- the head of the slot that is entry n of v, for the instance of a board
abbrev pub head_at : Opening → ℕ → ℕ → Option ℕ
head_at k v n = head_in k.instance.value.family k.instance.value.stacks v n

-- the number of variables of the board of a view
abbrev pub count_in : Option Opening → ℕ
count_in None = 0
count_in (Some k) = count k
