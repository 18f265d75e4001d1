-- The heads of the slots of variables, as lists.
use Rattle.std.specs.Prelude.{ℕ, ◌<◌, ◌≤◌, nat_lt, if◌then◌else◌, List, length, map, All, Option, None, Some, Vec, IfSome}

-- for each variable the heads of its slots; None is the root
abbrev pub heads_of : {A : Type 0} → List (Vec (Option ℕ) A) → List (List (Option ℕ))
heads_of rows = map (λ row. row.items) rows

-- a row has a slot, and each of its heads is the root or below the count of variables
pub record IsRow (count : ℕ) (row : List (Option ℕ)) : Type 0 where
  pub some : 0 < length row
  pub below : All (λ head. IfSome head (λ w. w < count)) row

-- the head that a number denotes: a number below the count of variables is a variable, and any
-- other one is the root
abbrev pub head_of_number : ℕ → ℕ → Option ℕ
head_of_number count x = if nat_lt x count then Some x else None

-- for each variable the heads of its slots, from their numbers
abbrev pub heads_of_numbers : List (List ℕ) → List (List (Option ℕ))
heads_of_numbers rows = map (map (head_of_number (length rows))) rows

-- a row has a slot, and each number of it is a variable or the count of variables, which is the
-- root
pub record IsNumberRow (count : ℕ) (row : List ℕ) : Type 0 where
  pub some : 0 < length row
  pub below : All (λ x. x ≤ count) row

-- each row is valid for as many variables as there are rows
abbrev pub AreHeadNumbers : List (List ℕ) → Type 0
AreHeadNumbers rows = All (IsNumberRow (length rows)) rows
