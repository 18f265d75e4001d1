-- The cache of values of entries: those of a group of 32 entries of a variable, up to the last
-- block of eight that was read.
use Rattle.std.specs.Prelude.{◌≡◌, ◌⊎◌, ℕ, ◌+◌, ◌*◌, ◌/◌, ◌%◌, ◌^◌, ◌-◌, ◌<◌, ◌≤◌, ltb, ◌==◌, if◌then◌else◌, Option, Some, None, List, length, slice_index, slice_get, Bool, true, false, IsTrue}
use Rattle.std.specs.Option.{option_and_then, option_map}
use Rattle.std.specs.Int.{bit_at}
use Rattle.pop_model.specs.Stacks.{StackTable, value_at, domain_of}
use Rattle.pop_stacks.specs.declared.kept_values.KeptValues.{KeptValues}
use Rattle.pop_stacks.specs.declared.kept_values.KeptValues.TheVariants.{Nothing, Bits, Quads, Bytes}

-- The place of entry k in a line with this mark, if it is kept there. The mark says how many
-- blocks of eight entries were read; those in the group of the last one are kept.
abbrev pub place_in : ℕ → ℕ → Option ℕ
place_in mark k =
    if ltb (k / 8) mark then (if (mark - 1) / 4 == k / 32 then Some (k % 32) else None) else None

-- what a line keeps of entry k: the value at its place
abbrev pub kept_in : ℕ → (ℕ → ℕ) → ℕ → Option ℕ
kept_in mark value k = option_map value (place_in mark k)

-- the number of two bits at a place of a word
abbrev pub two_bits_at : ℕ → ℕ → ℕ
two_bits_at word i = word / 2 ^ (2 * i) % 4

-- the number of two bits at a place of four blocks of eight
abbrev pub quad_in : List ℕ → ℕ → ℕ
quad_in blocks i = two_bits_at (slice_index blocks (i / 8 % 4)) (i % 8)

-- what is kept of entry k of variable v
abbrev pub kept_at : KeptValues → ℕ → ℕ → Option ℕ
kept_at Nothing v k = None
kept_at (Bits lines) v k =
    option_and_then (λ l. kept_in l.mark (bit_at l.bits) k) (slice_get lines.items v)
kept_at (Quads lines) v k =
    option_and_then (λ l. kept_in l.mark (quad_in l.blocks) k) (slice_get lines.items v)
kept_at (Bytes lines) v k =
    option_and_then (λ l. kept_in l.mark (slice_index l.values) k) (slice_get lines.items v)

-- the number of blocks of variable v that were read, which is the number of its next block, if it
-- has a line
abbrev pub mark_at : KeptValues → ℕ → Option ℕ
mark_at Nothing v = None
mark_at (Bits lines) v = option_map (λ l. l.mark) (slice_get lines.items v)
mark_at (Quads lines) v = option_map (λ l. l.mark) (slice_get lines.items v)
mark_at (Bytes lines) v = option_map (λ l. l.mark) (slice_get lines.items v)

-- there are lines to keep values in
abbrev pub keeps : KeptValues → Bool
keeps Nothing = false
keeps kept = true

-- the variable has a line, and a line has room for values below this number
abbrev pub CanKeep : KeptValues → ℕ → ℕ → Type 0
CanKeep Nothing v domain = ⊥
CanKeep (Bits lines) v domain = (v < length lines.items) × (domain ≤ 2)
CanKeep (Quads lines) v domain = (v < length lines.items) × (domain ≤ 4)
CanKeep (Bytes lines) v domain = (v < length lines.items) × (domain ≤ 256)

-- The block is the next one of a variable that has room for it. If it begins a group and was not
-- asked for, it is the first of all, so that it drops no values.
pub record Awaits (kept : KeptValues) (v domain block : ℕ) (asked : Bool) : Type 0 where
  pub room : CanKeep kept v domain
  pub spares : IsTrue asked ⊎ (block ≡ 0) ⊎ (0 < block % 4)
  pub next : mark_at kept v ≡ Some block

-- the first n of the values are below this number
abbrev pub AreBelow : ℕ → ℕ → List ℕ → Type 0
AreBelow domain n values = (i : ℕ) → i < n → slice_index values i < domain

-- the entries that a line with this mark keeps have the first n places
abbrev pub HasPlaces : ℕ → ℕ → Type 0
HasPlaces mark n = (k i : ℕ) → place_in mark k ≡ Some i → i < n

-- the values that a mark says of variable v replaced what was kept of it
abbrev pub Replaces : KeptValues → KeptValues → ℕ → ℕ → List ℕ → Type 0
Replaces old new v mark values = (u k : ℕ) → kept_at new u k
    ≡ (if u == v then kept_in mark (slice_index values) k else kept_at old u k)

-- the places of a block have these values, and those before them the ones that they had
pub record IsBehind (block : ℕ) (old : ℕ → ℕ) (values : List ℕ) (new : ℕ → ℕ) : Type 0 where
  pub first : (i : ℕ) → i < 8 * (block % 4) → new i ≡ old i
  pub more : (i : ℕ) → i < 8 → new (8 * (block % 4) + i) ≡ slice_index values i

-- What is kept of entry k after the values of a block are appended: its value if it is in the
-- block, and what was kept if it is in another block of the group.
abbrev pub appended : ℕ → List ℕ → ℕ → Option ℕ → Option ℕ
appended block values k kept =
    if k / 8 == block then Some (slice_index values (k % 8)) else (if k / 32 == block / 4 then kept else None)

-- the values of a block of variable v were appended, and the other variables keep the same
abbrev pub Appends : KeptValues → KeptValues → ℕ → ℕ → List ℕ → Type 0
Appends old new v block values = (u k : ℕ) → kept_at new u k
    ≡ (if u == v then appended block values k (kept_at old u k) else kept_at old u k)

-- values of the entries of variable v that a mark says
abbrev pub AreValuesOf : StackTable → ℕ → ℕ → List ℕ → Type 0
AreValuesOf s v mark values = (k i : ℕ) → place_in mark k ≡ Some i
    → (slice_index values i ≡ value_at s v k) × (slice_index values i < domain_of s v)

-- what is kept of an entry is its value
abbrev pub KeepsValues : StackTable → KeptValues → Type 0
KeepsValues s kept = (v k x : ℕ) → kept_at kept v k ≡ Some x
    → (x ≡ value_at s v k) × (x < domain_of s v)
