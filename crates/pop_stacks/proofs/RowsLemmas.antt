-- Rows that are kept in vectors, as lists.
use Rattle.std.proofs.Common.{◌≡◌, ℕ, ◌<◌, List, length, get_or, All, Vec, arith, ap, subst, sym, ◌∙◌}
use Rattle.std.proofs.lemmas.List.{get_or-map, length-map}
use Rattle.pop_stacks.specs.Rows.{lists_of}

-- there are as many lists as vectors
pub length-lists_of : {A : Type 0} (rows : List (Vec ℕ A)) → length (lists_of rows) ≡ length rows
length-lists_of rows = length-map rows (λ v. v.items)

-- a vector that was read has the list at its place
pub list_at : {A : Type 0} (rows : List (Vec ℕ A)) (v : ℕ) (x : Vec ℕ A) (d : List ℕ) → v < length rows
    → x ≡ get_or rows v x → get_or (lists_of rows) v d ≡ x.items
list_at rows v x d below read =
    get_or-map (λ v. v.items) rows v x d below ∙ ap (λ v. v.items) (sym read)

-- what holds of each row holds of a vector that was read
pub row_has : {A : Type 0} (P : List ℕ → Type 0) (rows : List (Vec ℕ A)) (v : ℕ) (x : Vec ℕ A) → v < length rows
    → x ≡ get_or rows v x → All P (lists_of rows) → P x.items
row_has P rows v x below read all =
    let size : length (lists_of rows) ≡ length rows = length-lists_of rows in
    subst P (list_at rows v x x.items below read) (all v x.items (omega arith))
