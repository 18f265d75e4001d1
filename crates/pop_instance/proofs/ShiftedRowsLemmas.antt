-- Shifted rows, row by row: where each row has its kind, they are the rows that were read.
use Rattle.std.proofs.Common.{inl, inr, ◌≡◌, ℕ, ◌+◌, ◌-◌, ◌%◌, ◌<◌, ◌^◌, List, [], ◌∷◌, ◌++◌, length, get_or, sym, ap, subst, ◌∙◌, arith, zero-add}
use Rattle.std.specs.List.{enumerate_from}
use Rattle.std.proofs.lemmas.Bool.{cases_lt}
use Rattle.std.proofs.lemmas.List.{length-map, get_or-map, length_push, get_or_append_left, get_or_push, ext_get_or}
use Rattle.std.proofs.lemmas.List.Elements.{All-from_get_or}
use Rattle.std.proofs.lemmas.List.FromFn.{length-enumerate_from, get_or-enumerate_from}
use Rattle.pop_rows.specs.FlatRows.{row_at}
use Rattle.pop_instance.specs.ShiftedRows.{shifted, shifted_rows, AreKinds, IsKind, StaysIn}

-- ---- numbers

-- a number from which another was taken comes back
pub shifted_back : (v x : ℕ) → v < 2 ^ 32 → x < 2 ^ 32 → (v + (x + (2 ^ 32 - v)) % 2 ^ 32) % 2 ^ 32 ≡ x
shifted_back v x few small = omega arith

-- ---- patterns

-- ---- rows

-- row v is the pattern of its kind, shifted
pub row_shifted : (kinds : List ℕ) (patterns : List (List ℕ)) (v : ℕ) → v < length kinds
    → row_at (shifted_rows kinds patterns) v ≡ shifted v (row_at patterns (get_or kinds v 0))
row_shifted kinds patterns v within =
    let row : ℕ × ℕ → List ℕ = λ p. shifted p.0 (row_at patterns p.1) in
    get_or-map row (enumerate_from 0 kinds) v (0, 0) [] (omega (arith, length-enumerate_from 0 kinds, within))
    ∙ ap row (get_or-enumerate_from 0 kinds v (0, 0) within)
    ∙ ap (λ k. shifted k (row_at patterns (get_or kinds v 0))) (zero-add v)

-- there are as many rows as kinds
pub count_shifted : (kinds : List ℕ) (patterns : List (List ℕ)) → length (shifted_rows kinds patterns) ≡ length kinds
count_shifted kinds patterns =
    length-map (enumerate_from 0 kinds) (λ p. shifted p.0 (row_at patterns p.1)) ∙ length-enumerate_from 0 kinds

-- each of the first rows has its kind
pub record HaveKinds (rows : List (List ℕ)) (kinds : List ℕ) (patterns : List (List ℕ)) : Type 0 where
  pub each : (v : ℕ) → v < length kinds → IsKind v (row_at rows v) patterns (get_or kinds v 0)

-- and so has the next
pub kinds_more : (rows : List (List ℕ)) (kinds : List ℕ) (old new : List (List ℕ)) (v kind : ℕ) → HaveKinds rows kinds old
    → StaysIn old new → length kinds ≡ v → IsKind v (row_at rows v) new kind → HaveKinds rows (kinds ++ kind ∷ []) new
kinds_more rows kinds old new v kind have stays size here = record {
  each = λ k within. elim (cases_lt k (length kinds)) [
    | inl before ↦
        subst (IsKind k (row_at rows k) new) (sym (get_or_append_left kinds (kind ∷ []) 0 k before))
        (stays k (row_at rows k) (get_or kinds k 0) (have.each k before))
    | inr past ↦
        let last : k ≡ v = omega (arith, within, past, size, length_push kinds kind) in
        subst (λ j. IsKind j (row_at rows j) new (get_or (kinds ++ kind ∷ []) j 0)) (sym last)
        (subst (IsKind v (row_at rows v) new) (sym (get_or_push kinds kind 0 v size)) here)
  ];
}

-- where all have, they are the rows
pub rows_by_kinds : (rows : List (List ℕ)) (kinds : List ℕ) (patterns : List (List ℕ)) → length kinds ≡ length rows
    → HaveKinds rows kinds patterns → shifted_rows kinds patterns ≡ rows
rows_by_kinds rows kinds patterns size have =
    ext_get_or [] (shifted_rows kinds patterns) rows (count_shifted kinds patterns ∙ size) (λ v inside.
    let within : v < length kinds = omega (arith, inside, count_shifted kinds patterns) in
    row_shifted kinds patterns v within ∙ (have.each v within).is)

-- and each kind has a pattern
pub kinds_known : (rows : List (List ℕ)) (kinds : List ℕ) (patterns : List (List ℕ)) → length kinds < 2 ^ 32
    → HaveKinds rows kinds patterns → AreKinds kinds patterns
kinds_known rows kinds patterns few have = record {
  few = few;
  known = All-from_get_or (λ kind. kind < length patterns) kinds 0 (λ v within. (have.each v within).known);
}
