-- Putting a place at the end of the rows of a cube's variables, pair by pair.
use Rattle.std.proofs.Common.{inl, inr, ◌≡◌, ℕ, ◌+◌, ◌<◌, true, cond, ◌||◌, List, [], ◌∷◌, ◌++◌, length, take, Some, slice_get, sym, ap, ◌∙◌, arith, ne_eqb, eq-eqb}
use Rattle.std.specs.List.Sorted.{IsStrictlyIncreasing}
use Rattle.std.proofs.lemmas.Bool.{cases_eq}
use Rattle.std.proofs.lemmas.List.{length-set, get_or-set_same, get_or-set_other}
use Rattle.std.proofs.Math.Bool.{or-false}
use Rattle.pop_model.specs.Popping.{Cube, names, variables}
use Rattle.pop_model.proofs.Members.{names_more}
use Rattle.pop_rows.specs.FlatRows.{row_at, push_at}
use Rattle.pop_instance.specs.Index.{IsPut}
use Rattle.pop_instance.proofs.Raising.{unnamed_before}

-- the row of a variable before its pair
pub row_before : (e : Cube) (i : ℕ) (p : ℕ × ℕ) (place : ℕ) (old rows : List (List ℕ))
    → IsStrictlyIncreasing (variables e) → slice_get e i ≡ Some p → p.0 < length old → IsPut (take i e) place old rows
    → row_at rows p.0 ≡ row_at old p.0
row_before e i p place old rows rising at below put =
    put.each p.0 below
    ∙ ap (λ b. cond b (row_at old p.0 ++ place ∷ []) (row_at old p.0)) (unnamed_before e i p rising at)

-- one pair more
pub put_more : (e : Cube) (i : ℕ) (p : ℕ × ℕ) (place : ℕ) (old rows : List (List ℕ))
    → IsStrictlyIncreasing (variables e) → slice_get e i ≡ Some p → p.0 < length old → IsPut (take i e) place old rows
    → IsPut (take (i + 1) e) place old (push_at rows p.0 place)
put_more e i p place old rows rising at below put =
    let row = row_at rows p.0 ++ place ∷ [] in
    let inside : p.0 < length rows = let size = put.count_is in omega (arith, size, below) in
    record {
      count_is = length-set rows p.0 row ∙ put.count_is;
      each = λ v within.
          let Row : List ℕ → List ℕ = λ r. r ++ place ∷ [] in
          elim (cases_eq v p.0) [
            | inl same ↦
                let new : row_at (push_at rows p.0 place) v ≡ Row (row_at old v) =
                ap (row_at (push_at rows p.0 place)) same ∙ get_or-set_same rows p.0 row [] inside
                ∙ ap Row (row_before e i p place old rows rising at below put ∙ ap (row_at old) (sym same)) in
                let named : names (take (i + 1) e) v ≡ true =
                names_more e i v p at ∙ ap (λ b. names (take i e) v || b) (eq-eqb p.0 v (sym same))
                ∙ ap (λ b. b || true) (ap (names (take i e)) same ∙ unnamed_before e i p rising at) in
                new ∙ sym (ap (λ b. cond b (Row (row_at old v)) (row_at old v)) named)
            | inr other ↦
                let named : names (take (i + 1) e) v ≡ names (take i e) v =
                names_more e i v p at
                ∙ ap (λ b. names (take i e) v || b) (ne_eqb p.0 v (λ is. other (sym is)))
                ∙ or-false (names (take i e) v) in
                get_or-set_other rows p.0 v row [] other ∙ put.each v within
                ∙ ap (λ b. cond b (Row (row_at old v)) (row_at old v)) (sym named)
          ];
    }
