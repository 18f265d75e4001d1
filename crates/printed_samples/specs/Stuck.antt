-- The events that still occur, in terms of the printed numbers. The values of an exhausted end are
-- not printed. But the cursors are, as the numbers of used entries, and they determine the values.
use Rattle.std.specs.Prelude.{◌≡◌, ◌↔◌, ℕ, ◌<◌, ℤ, suc, List, [], ◌∷◌, ◌++◌, length, map, flat_map, slice_index, slice_get, Some, decimal, codes, All, Contains}
use Rattle.std.specs.List.Sorted.{IsStrictlyIncreasing}
use Rattle.pop_model.specs.Stacks.{StackTable}
use Rattle.pop_model.specs.Popping.{values_at}
use Rattle.pop_model.specs.Text.{line, spaced}
use Rattle.dimacs_read.specs.Cnf.{Cnf}
use Rattle.dimacs_read.specs.Falsifying.{falsifier}
use Rattle.graph_read.specs.Graphs.{GraphOf, IsVertex}
use Rattle.pop_print.specs.Output.{used_line}
use Rattle.printed_samples.specs.Arrows.{Arrow}
use Rattle.printed_samples.specs.Orientations.{arrows_by, IsLeft}

-- a line for each event, with its numbers
abbrev pub stuck_text : List (List ℕ) → List ℕ
stuck_text events =
    flat_map (λ numbers. line (codes "stuck" ++ spaced (map decimal numbers))) events

-- these events, once each and by rising first number, are exactly those with numbers that have
-- this property
pub record AreStuck (Is : List ℕ → Type 0) (events : List (List ℕ)) : Type 0 where
  pub some : 0 < length events
  pub rising : IsStrictlyIncreasing (map (λ numbers. slice_index numbers 0) events)
  pub exact : (numbers : List ℕ) → Contains events numbers ↔ Is numbers

-- the text begins with the events with numbers that have this property at the printed cursors
pub record ShowsStuck (Is : List ℕ → List ℕ → Type 0) (out : List ℕ) : Type 0 where
  pub events : List (List ℕ)
  pub used : List ℕ
  pub rest : List ℕ
  pub out_is : out ≡ (line (codes "s EXHAUSTED") ++ stuck_text events ++ used_line used) ++ rest
  pub stuck : AreStuck (Is used) events

-- each literal of the clause is false for these values
abbrev pub IsFalseAt : List ℕ → List ℤ → Type 0
IsFalseAt values clause = All (λ l. slice_index values (falsifier l).0 ≡ (falsifier l).1) clause

-- clauses with the same literals
abbrev pub AreAlike : List ℤ → List ℤ → Type 0
AreAlike clause other = (l : ℤ) → Contains clause l ↔ Contains other l

-- The only number is that of a clause, from 1, that is false for these values. Of clauses with the
-- same literals it is the first.
pub record IsFalseClause (f : Cnf) (values numbers : List ℕ) : Type 0 where
  pub place : ℕ
  pub clause : List ℤ
  pub clause_is : slice_get f.clauses place ≡ Some clause
  pub numbers_are : numbers ≡ suc place ∷ []
  pub false : IsFalseAt values clause
  pub first : (k : ℕ) (other : List ℤ) → k < place → slice_get f.clauses k ≡ Some other
      → AreAlike other clause → ⊥

-- the only number is that of a vertex that no arrow leaves
pub record IsUnleft (g : GraphOf) (arrows : List Arrow) (numbers : List ℕ) : Type 0 where
  pub vertex : ℕ
  pub vertex_is : IsVertex g.vertices vertex
  pub numbers_are : numbers ≡ vertex ∷ []
  pub unleft : IsLeft arrows vertex → ⊥

-- the text begins with the clauses that are false for the values of the stacks at the printed
-- cursors
abbrev pub ShowsFalse : Cnf → StackTable → List ℕ → Type 0
ShowsFalse f s out = ShowsStuck (λ used numbers. IsFalseClause f (values_at s used) numbers) out

-- the text begins with the vertices that no arrow leaves, if the edges have the values at the
-- printed cursors
abbrev pub ShowsSinks : GraphOf → StackTable → List ℕ → Type 0
ShowsSinks g s out =
    ShowsStuck (λ used numbers. IsUnleft g (arrows_by g (values_at s used)) numbers) out
