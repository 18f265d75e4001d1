-- The members of a list that pass a test, each under its number: what they are, that none is missing, and that their
-- numbers rise.
use Rattle.std.proofs.Common.{inl, inr, ◌≡◌, ℕ, ◌<◌, ◌≤◌, Bool, true, false, cond, List, [], ◌∷◌, length, map, filter, get_or, Some, slice_get, sym, ap, ap₂, subst, ◌∙◌, arith, zero-add, All, AllPairs, Contains}
use Rattle.std.specs.List.{enumerate_from}
use Rattle.std.proofs.lemmas.List.{length-map, get_or-map}
use Rattle.std.proofs.lemmas.List.Elements.{All-filter, filter_passes, Contains-get_or}
use Rattle.std.proofs.lemmas.List.FromFn.{length-enumerate_from, get_or-enumerate_from}
use Rattle.std.proofs.lemmas.List.Kept.{AllPairs-filter}
use Rattle.std.proofs.lemmas.List.Sums.{length-filter, count_by-le-length}
use Rattle.std.proofs.lemmas.Option.{slice_get-get_or, slice_get_within, get_or_from_slice_get}
use Rattle.pop_model.proofs.Rising.{member_cases, head_member, tail_member}

-- the members that pass, each under its number
abbrev pub numbered : {X : Type 0} → (X → Bool) → List X → List (ℕ × X)
numbered test xs = filter (λ p. test p.1) (enumerate_from 0 xs)

-- a member that passes a filter
pub contains_filter : {X : Type 0} (test : X → Bool) (xs : List X) (x : X) → Contains xs x → test x ≡ true
    → Contains (filter test xs) x
contains_filter test [] x has passes = absurd (omega (arith, has.1))
contains_filter test (y ∷ xs) x has passes = elim (member_cases y xs x has) [
  | inl same ↦
      subst (λ b. Contains (cond b (y ∷ filter test xs) (filter test xs)) x) (sym (ap test same ∙ passes))
      (subst (Contains (y ∷ filter test xs)) same (head_member y (filter test xs)))
  | inr behind ↦
      let rest = contains_filter test xs x behind passes in
      elim (test y) as (λ b. Contains (cond b (y ∷ filter test xs) (filter test xs)) x) [
        | true ↦ tail_member y (filter test xs) x rest
        | false ↦ rest
      ]
]

-- what a map makes of a member
pub contains_map : {X Y : Type 0} (f : X → Y) (xs : List X) (x : X) → Contains xs x → Contains (map f xs) (f x)
contains_map f xs x (k, within, at) =
    let size = length-map xs f in
    (k, omega (arith, size, within), get_or-map f xs k x (f x) within ∙ ap f at)

-- what a map made is made of a member
pub contains_map_from : {X Y : Type 0} (f : X → Y) (xs : List X) (d : X) (y : Y) → Contains (map f xs) y
    → (x : X) × Contains xs x × (f x ≡ y)
contains_map_from f xs d y (k, within, at) =
    let size = length-map xs f in
    let inside : k < length xs = omega (arith, size, within) in
    (get_or xs k d, Contains-get_or xs k d inside, sym (get_or-map f xs k d y inside) ∙ at)

-- each stands in the list under its number, and passes
pub numbered_are : {X : Type 0} (test : X → Bool) (xs : List X)
    → All (λ p. (slice_get xs p.0 ≡ Some p.1) × (test p.1 ≡ true)) (numbered test xs)
numbered_are {X} test xs k d within = (
  All-filter (λ (p : ℕ × X). test p.1) (λ p. slice_get xs p.0 ≡ Some p.1) (enumerate_from 0 xs) places k d within,
  filter_passes (λ (p : ℕ × X). test p.1) (enumerate_from 0 xs) k d within,
)
  where
    places : All (λ (p : ℕ × X). slice_get xs p.0 ≡ Some p.1) (enumerate_from 0 xs)
    places i e inside =
        let below : i < length xs = omega (arith, length-enumerate_from 0 xs, inside) in
        subst (λ (p : ℕ × X). slice_get xs p.0 ≡ Some p.1) (sym (get_or-enumerate_from 0 xs i e below))
        (ap (slice_get xs) (zero-add i) ∙ slice_get-get_or xs i e.1 below)

-- none that passes is missing
pub has_numbered : {X : Type 0} (test : X → Bool) (xs : List X) (i : ℕ) (x : X) → slice_get xs i ≡ Some x
    → test x ≡ true → Contains (numbered test xs) (i, x)
has_numbered {X} test xs i x at passes =
    let below = slice_get_within xs i x at in
    let there : get_or (enumerate_from 0 xs) i (i, x) ≡ (i, x) =
    get_or-enumerate_from 0 xs i (i, x) below
    ∙ ap₂ (λ (n : ℕ) (y : X). (n, y)) (zero-add i) (get_or_from_slice_get xs i x x at) in
    contains_filter (λ (p : ℕ × X). test p.1) (enumerate_from 0 xs) (i, x)
    (i, omega (arith, length-enumerate_from 0 xs, below), there) passes

-- the numbers rise
pub numbered_rise : {X : Type 0} (test : X → Bool) (xs : List X) → AllPairs (λ p q. p.0 < q.0) (numbered test xs)
numbered_rise {X} test xs =
    AllPairs-filter (λ (p q : ℕ × X). p.0 < q.0) (λ p. test p.1) (enumerate_from 0 xs) (λ i j d less within.
    let size = length-enumerate_from 0 xs in
    let here = ap (λ (p : ℕ × X). p.0) (get_or-enumerate_from 0 xs i d (omega (arith, size, less, within))) in
    let there = ap (λ (p : ℕ × X). p.0) (get_or-enumerate_from 0 xs j d (omega (arith, size, within))) in
    omega (arith, here, there, less))

-- there are no more than members
pub length-numbered : {X : Type 0} (test : X → Bool) (xs : List X) → length (numbered test xs) ≤ length xs
length-numbered {X} test xs =
    omega (
      arith,
      length-filter (λ (p : ℕ × X). test p.1) (enumerate_from 0 xs),
      count_by-le-length (λ (p : ℕ × X). test p.1) (enumerate_from 0 xs),
      length-enumerate_from 0 xs,
    )
