-- The summary of an end if a grid is made: a few numbers instead of each arrow.
use Rattle.std.specs.Prelude.{ℕ, ◌+◌, ◌*◌, ◌≤◌, List, [], ◌∷◌, ◌++◌, map, sum, sum_by, All, Contains, max, decimal, codes}
use Rattle.std.specs.List.{enumerate_from}
use Rattle.pop_model.specs.Names.{vertex_of}
use Rattle.pop_model.specs.Text.{line, spaced}

-- the largest of some numbers, or 0 if there are none
abbrev pub greatest : List ℕ → ℕ
greatest [] = 0
greatest (n ∷ numbers) = max n (greatest numbers)

-- the number is one of these or 0, and none of them is larger
pub record IsGreatest (numbers : List ℕ) (m : ℕ) : Type 0 where
  pub reached : Contains (0 ∷ numbers) m
  pub greatest : All (λ n. n ≤ m) numbers

-- the vertex of a variable times its slot, from 1, by the variable and its value; the root is
-- vertex 1
abbrev pub slot_term : ℕ × ℕ → ℕ
slot_term p = vertex_of 1 p.0 * (p.1 + 1)

-- the sum of these terms over each vertex except the root (this project's choice)
abbrev pub slot_sum : List ℕ → ℕ
slot_sum values = sum_by slot_term (enumerate_from 0 values)

-- the line of the side of a grid
abbrev pub grid_line : ℕ → List ℕ
grid_line side = line (codes "grid " ++ decimal side)

-- the line of the number of events that occur
abbrev pub count_line : ℕ → List ℕ
count_line count = line (codes "stuck " ++ decimal count)

-- the line of the sum of the cursors and the largest of them
abbrev pub totals_line : List ℕ → List ℕ
totals_line cursors =
    line (codes "used" ++ spaced (map decimal (sum cursors ∷ greatest cursors ∷ [])))

-- the line of the sum over the vertices
abbrev pub sum_line : ℕ → List ℕ
sum_line total = line (codes "sum " ++ decimal total)
