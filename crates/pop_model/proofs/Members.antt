-- What holds of the members of a list up to a place, and of those of a cube and of a range.
use Rattle.std.proofs.Common.{◌≡◌, ◌||◌, ◌==◌, ℕ, ◌+◌, ◌<◌, ◌≤◌, zero, suc, List, [], ◌∷◌, length, take, All, Contains, Some, refl, slice_get, get_or, take_all, slice_index, zero-add, ap, ◌∙◌, arith, AllPairs}
use Rattle.std.proofs.lemmas.List.Elements.{All-more}
use Rattle.std.proofs.lemmas.List.{get_or-map}
use Rattle.std.proofs.lemmas.Option.{get_or_from_slice_get, slice_get_within}
use Rattle.std.proofs.lemmas.List.FromFn.{length-range_with_len, get_or-range_with_len}
use Rattle.std.proofs.lemmas.List.Folds.{list_any_more}
use Rattle.std.specs.List.{range_with_len}
use Rattle.pop_model.specs.Popping.{Cube, variables, names}
use Rattle.pop_model.specs.Cycles.{first_of}

-- what holds of the members before a place, and of the one there, holds of all up to it
pub all_more : {X : Type 0} (P : X → Type 0) (xs : List X) (i : ℕ) (x : X) → slice_get xs i ≡ Some x → All P (take i xs)
    → P x → All P (take (i + 1) xs)
all_more P xs i x at all here =
    All-more P xs i x (slice_get_within xs i x at) all (rw (get_or_from_slice_get xs i x x at) here)

-- what holds of the members before a place that is past the end holds of all
pub all_whole : {X : Type 0} (P : X → Type 0) (xs : List X) (i : ℕ) → length xs ≤ i → All P (take i xs) → All P xs
all_whole P xs i far all = rw (take_all i xs far) at all

-- what holds of all members holds of the one at a place
pub all_at : {X : Type 0} (P : X → Type 0) (xs : List X) (i : ℕ) (x : X) → slice_get xs i ≡ Some x → All P xs → P x
all_at P xs i x at all = rw (get_or_from_slice_get xs i x x at) at (all i x (slice_get_within xs i x at))

-- a member at a place
pub read_at : {X : Type 0} (xs : List X) (i : ℕ) → i < length xs → (x : X) × (slice_get xs i ≡ Some x)
read_at [] i within = absurd (omega (arith, within))
read_at (x ∷ xs) zero within = (x, refl)
read_at (x ∷ xs) (suc i) within = read_at xs i (omega (arith, within))

-- what holds of any two members holds of any two of the tail
pub pairs_tail : {X : Type 0} (R : X → X → Type 0) (x : X) (xs : List X) → AllPairs R (x ∷ xs) → AllPairs R xs
pairs_tail R x xs all i j d before within = all (suc i) (suc j) d (omega arith) (omega arith)

-- a cube's variables by place
pub variable_at : (e : Cube) (k : ℕ) → k < length e → slice_index (variables e) k ≡ (get_or e k (0, 0)).0
variable_at e k h = get_or-map (λ (p : ℕ × ℕ). p.0) e k (0, 0) 0 h

-- one pair more names its variable
pub names_more : (e : Cube) (i v : ℕ) (x : ℕ × ℕ) → slice_get e i ≡ Some x
    → names (take (i + 1) e) v ≡ (names (take i e) v || (x.0 == v))
names_more e i v x at =
    list_any_more (λ (p : ℕ × ℕ). p.0 == v) e i x (slice_get_within e i x at)
    ∙ ap (λ (p : ℕ × ℕ). names (take i e) v || (p.0 == v)) (get_or_from_slice_get e i x x at)

-- the first pair of a cube has its first variable
pub first_read : (e : Cube) (p : ℕ × ℕ) → slice_get e 0 ≡ Some p → first_of e ≡ p.0
first_read e p at =
    variable_at e 0 (slice_get_within e 0 p at)
    ∙ ap (λ (q : ℕ × ℕ). q.0) (get_or_from_slice_get e 0 p (0, 0) at)

-- a number below n is among the n numbers from 0 on
pub in_range : (n v : ℕ) → v < n → Contains (range_with_len 0 n) v
in_range n v below =
    (v, omega (arith, length-range_with_len 0 n, below), get_or-range_with_len 0 n v v below ∙ zero-add v)
