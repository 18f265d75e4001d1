-- Cursors, and what popping an event does to them.
use Rattle.std.specs.Prelude.{◌≡◌, ℕ, ◌+◌, ◌<◌, Bool, ◌==◌, if◌then◌else◌, List, length, map, slice_index, All}
use Rattle.std.specs.List.{enumerate_from, list_any}
use Rattle.std.specs.List.Sorted.{IsStrictlyIncreasing}
use Rattle.pop_model.specs.Stacks.{StackTable, variables_of, domain_of, value_at, height_of}

-- pairs of a variable and the value that it must have
abbrev pub Cube : Type 0
Cube = List (ℕ × ℕ)

-- the variables of a cube, in its order
abbrev pub variables : Cube → List ℕ
variables e = map (λ p. p.0) e

-- a cube is not empty, and its variables rise
pub record IsCube (e : Cube) : Type 0 where
  pub some : 0 < length e
  pub rising : IsStrictlyIncreasing (variables e)

-- the number of the current entry of a variable
abbrev pub cursor : List ℕ → ℕ → ℕ
cursor c v = slice_index c v

-- the current value of a variable
abbrev pub current : StackTable → List ℕ → ℕ → ℕ
current s c v = value_at s v (cursor c v)

-- the value of each variable at its cursor
abbrev pub values_at : StackTable → List ℕ → List ℕ
values_at s c = map (λ p. value_at s p.0 p.1) (enumerate_from 0 c)

-- these are the values at the cursors, and each is a value of its variable
pub record AreValuesAt (s : StackTable) (c values : List ℕ) : Type 0 where
  pub are : values ≡ values_at s c
  pub within : (v : ℕ) → v < variables_of s → slice_index values v < domain_of s v

-- the variables of the cube are below this number
abbrev pub NamesBelow : Cube → ℕ → Type 0
NamesBelow e n = All (λ p. p.0 < n) e

-- each cursor is below its variable's height
abbrev pub AreWithin : StackTable → List ℕ → Type 0
AreWithin s c = (v : ℕ) → v < variables_of s → cursor c v < height_of s v

-- each variable of the cube has, at its cursor, the value of the cube
abbrev pub Occurs : StackTable → List ℕ → Cube → Type 0
Occurs s c e = All (λ p. value_at s p.0 (cursor c p.0) ≡ p.1) e

-- each variable of the cube has an entry after its cursor
abbrev pub HasNext : StackTable → List ℕ → Cube → Type 0
HasNext s c e = All (λ p. cursor c p.0 + 1 < height_of s p.0) e

-- the cube occurs, and each of its variables has a next entry
pub record IsPoppable (s : StackTable) (c : List ℕ) (e : Cube) : Type 0 where
  pub occurs : Occurs s c e
  pub next : HasNext s c e

-- the cube has this variable
abbrev pub names : Cube → ℕ → Bool
names e v = list_any (λ p. p.0 == v) e

-- the cursors with 1 added at each variable of the cube
abbrev pub pop : List ℕ → Cube → List ℕ
pop c e = map (λ p. if names e p.0 then p.1 + 1 else p.1) (enumerate_from 0 c)
