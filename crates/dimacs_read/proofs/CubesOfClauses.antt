-- The cube of a clause, from the pairs that falsify its literals, sorted and without repeats.
-- These pairs rise from each to the next, first by variable and then by value, and have the same members as before. A
-- cube that falsifies the clause has these members too, and so it has one value for each variable. Then no two of the
-- pairs share their variable, so that the variables rise: where there is such a cube, the pairs are one.
use Rattle.std.proofs.Common.{inl, inr, ◌≡◌, ◌⊎◌, ℕ, ◌+◌, ◌<◌, Bool, true, ◌&&◌, ◌==◌, ℤ, List, [], length, map, get_or, slice_index, Contains, refl, sym, ap, ap₂, subst, ◌∙◌, arith, eqb-true}
use Rattle.std.specs.Cmp.{IsTotalOrder, IsEquivalence, both_tied, unsigned_ties}
use Rattle.std.specs.Ordering.{MatchOrdering, eq_by_cmp, nat_cmp, ordering_then}
use Rattle.std.specs.declared.cmp.Ordering.{Ordering}
use Rattle.std.specs.declared.cmp.Ordering.TheVariants.{Less, Equal, Greater}
use Rattle.std.specs.List.{dedup}
use Rattle.std.specs.List.Retain.{IsFiltered, DiffersFromLast}
use Rattle.std.specs.List.Sorted.{IsPermutation, IsSorted, IsStrictlySortedBy}
use Rattle.std.proofs.lemmas.Bool.{and_parts, cases_lt}
use Rattle.std.proofs.lemmas.Cmp.{and_equiv, nat_cmp_total, nat_eq_equiv, on_equiv, on_total, ranked, then_total}
use Rattle.std.proofs.lemmas.List.{get_or_default, length-map}
use Rattle.std.proofs.lemmas.List.Elements.{Contains-get_or}
use Rattle.std.proofs.lemmas.List.Filters.{dedup_is}
use Rattle.std.proofs.lemmas.List.Kept.{AllPairs-from_increasing, Contains-dedup, Contains-from_dedup, IsStrictlySortedBy-dedup}
use Rattle.std.proofs.lemmas.List.Sorted.{Contains-permutation, IsPermutation-sym}
use Rattle.std.proofs.lemmas.Map.Keys.{Less-from_sorted}
use Rattle.pop_model.specs.Popping.{Cube, IsCube, variables}
use Rattle.pop_model.proofs.Members.{variable_at}
use Rattle.dimacs_read.specs.Falsifying.{Falsifies, falsifier}

-- the order of pairs, and whether two are the same
abbrev pub pair_cmp : ℕ × ℕ → ℕ × ℕ → Ordering
pair_cmp x y = ordering_then (nat_cmp x.0 y.0) (nat_cmp x.1 y.1)

-- the variables are the same, and so are the values
abbrev pub same_pair : ℕ × ℕ → ℕ × ℕ → Bool
same_pair x y = (x.0 == y.0) && (x.1 == y.1)

-- any two pairs can be compared, and the comparisons fit together
pair_order : IsTotalOrder pair_cmp
pair_order = then_total (on_total (λ (p : ℕ × ℕ). p.0) nat_cmp_total) (on_total (λ (p : ℕ × ℕ). p.1) nat_cmp_total)

-- each pair is the same as itself, and pairs that are the same as one are the same
pair_equiv : IsEquivalence same_pair
pair_equiv = and_equiv (on_equiv (λ (p : ℕ × ℕ). p.0) nat_eq_equiv) (on_equiv (λ (p : ℕ × ℕ). p.1) nat_eq_equiv)

-- two pairs are the same exactly where neither is less
pair_ties : (x y : ℕ × ℕ) → same_pair x y ≡ eq_by_cmp pair_cmp x y
pair_ties x y =
    both_tied (x.0 == y.0) (x.1 == y.1) (nat_cmp x.0 y.0) (nat_cmp x.1 y.1) (unsigned_ties x.0 y.0)
    (unsigned_ties x.1 y.1)

-- pairs that the test calls the same are equal
same_is : (x y : ℕ × ℕ) → same_pair x y ≡ true → x ≡ y
same_is x y h =
    let both = and_parts (x.0 == y.0) (x.1 == y.1) h in
    ap₂ (λ (m n : ℕ). (m, n)) (eqb-true x.0 y.0 both.0) (eqb-true x.1 y.1 both.1)

-- a lesser pair has a lesser variable, or the same variable and a lesser value
pair_less : (x y : ℕ × ℕ) → pair_cmp x y ≡ Less → (x.0 < y.0) ⊎ ((x.0 ≡ y.0) × (x.1 < y.1))
pair_less x y less =
    by (nat_cmp x.0 y.0) (nat_cmp x.1 y.1) (ranked x.0 y.0 (nat_cmp x.0 y.0) refl)
    (ranked x.1 y.1 (nat_cmp x.1 y.1) refl) less
  where
    by : (o p : Ordering) → MatchOrdering o (x.0 < y.0) (x.0 ≡ y.0) (y.0 < x.0)
        → MatchOrdering p (x.1 < y.1) (x.1 ≡ y.1) (y.1 < x.1)
        → ordering_then o p ≡ Less → (x.0 < y.0) ⊎ ((x.0 ≡ y.0) × (x.1 < y.1))
    by Less p here there h = inl here
    by Equal Less here there h = inr (here, there)
    by Equal Equal here there h = absurd (cc)
    by Equal Greater here there h = absurd (cc)
    by Greater p here there h = absurd (cc)

-- a cube has one value for a variable
one_value : (e : Cube) (v x y : ℕ) → IsCube e → Contains e (v, x) → Contains e (v, y) → x ≡ y
one_value e v x y cube (i, i_in, x_is) (j, j_in, y_is) =
    let at_i : get_or e i (0, 0) ≡ (v, x) = get_or_default e i (0, 0) (v, x) i_in ∙ x_is in
    let at_j : get_or e j (0, 0) ≡ (v, y) = get_or_default e j (0, 0) (v, y) j_in ∙ y_is in
    let key_i : slice_index (variables e) i ≡ v = variable_at e i i_in ∙ ap (λ (p : ℕ × ℕ). p.0) at_i in
    let key_j : slice_index (variables e) j ≡ v = variable_at e j j_in ∙ ap (λ (p : ℕ × ℕ). p.0) at_j in
    let size : length (variables e) ≡ length e = length-map e (λ (p : ℕ × ℕ). p.0) in
    elim (cases_lt i j) [
      | inl less ↦
          let up : slice_index (variables e) i < slice_index (variables e) j =
          AllPairs-from_increasing (variables e) cube.rising i j 0 less (omega arith) in
          absurd (omega arith)
      | inr no_less ↦ elim (cases_lt j i) [
        | inl more ↦
            let down : slice_index (variables e) j < slice_index (variables e) i =
            AllPairs-from_increasing (variables e) cube.rising j i 0 more (omega arith) in
            absurd (omega arith)
        | inr no_more ↦
            let same : i ≡ j = omega arith in
            ap (λ (p : ℕ × ℕ). p.1) (sym at_i ∙ ap (λ k. get_or e k (0, 0)) same ∙ at_j)
      ]
    ]

-- pairs that rise and have the members of a cube are a cube
rising_cube : (pairs e : Cube) → IsStrictlySortedBy pair_cmp pairs → IsCube e
    → ((p : ℕ × ℕ) → Contains pairs p → Contains e p) → ((p : ℕ × ℕ) → Contains e p → Contains pairs p)
    → IsCube pairs
rising_cube pairs e sorted cube there back =
    record {
      some = let first = back (get_or e 0 (0, 0)) (Contains-get_or e 0 (0, 0) cube.some) in omega (arith, first.1);
      rising = λ k within.
          let size : length (variables pairs) ≡ length pairs = length-map pairs (λ (p : ℕ × ℕ). p.0) in
          let x : ℕ × ℕ = get_or pairs k (0, 0) in
          let y : ℕ × ℕ = get_or pairs (k + 1) (0, 0) in
          let at_k : slice_index (variables pairs) k ≡ x.0 = variable_at pairs k (omega arith) in
          let at_next : slice_index (variables pairs) (k + 1) ≡ y.0 = variable_at pairs (k + 1) (omega arith) in
          let less : pair_cmp x y ≡ Less =
          Less-from_sorted pair_cmp pairs k (k + 1) (0, 0) sorted (omega arith) (omega arith) in
          elim (pair_less x y less) [
            | inl up ↦ omega (arith, at_k, at_next, up)
            | inr clash ↦
                let x_in : Contains e (x.0, x.1) = there x (Contains-get_or pairs k (0, 0) (omega arith)) in
                let y_in : Contains e (x.0, y.1) =
                subst (λ v. Contains e (v, y.1)) (sym clash.0)
                (there y (Contains-get_or pairs (k + 1) (0, 0) (omega arith))) in
                let one : x.1 ≡ y.1 = one_value e x.0 x.1 y.1 cube x_in y_in in
                absurd (omega (arith, clash.1, one))
          ];
    }

-- pairs, sorted, and kept without repeats
pub record AreKept (pairs sorted kept : Cube) : Type 0 where
  pub moved : IsPermutation pairs sorted
  pub order : IsSorted pair_cmp sorted
  pub filtered : IsFiltered (DiffersFromLast same_pair) [] sorted kept

-- the kept pairs rise
kept_rise : (pairs sorted kept : Cube) → AreKept pairs sorted kept → IsStrictlySortedBy pair_cmp kept
kept_rise pairs sorted kept k =
    subst (IsStrictlySortedBy pair_cmp) (sym (dedup_is same_pair sorted kept k.filtered))
    (IsStrictlySortedBy-dedup pair_order pair_ties sorted k.order)

-- each pair is kept
kept_all : (pairs sorted kept : Cube) → AreKept pairs sorted kept → (p : ℕ × ℕ) → Contains pairs p → Contains kept p
kept_all pairs sorted kept k p h =
    subst (λ xs. Contains xs p) (sym (dedup_is same_pair sorted kept k.filtered))
    (Contains-dedup pair_equiv same_is sorted p (Contains-permutation pairs sorted p k.moved h))

-- and no other
kept_only : (pairs sorted kept : Cube) → AreKept pairs sorted kept → (p : ℕ × ℕ) → Contains kept p → Contains pairs p
kept_only pairs sorted kept k p h =
    let before : Contains (dedup same_pair sorted) p =
    subst (λ xs. Contains xs p) (dedup_is same_pair sorted kept k.filtered) h in
    Contains-permutation sorted pairs p (IsPermutation-sym pairs sorted k.moved)
    (Contains-from_dedup same_pair sorted p before)

-- where the kept pairs are a cube, it is the clause's
pub cube_found : (clause : List ℤ) (pairs sorted kept e : Cube) → pairs ≡ map falsifier clause
    → AreKept pairs sorted kept → e ≡ kept → IsCube e → Falsifies clause e
cube_found clause pairs sorted kept e are k is cube =
    record {
      cube = cube;
      same = λ p. (
        λ h. subst (λ xs. Contains xs p) are (kept_only pairs sorted kept k p (subst (λ xs. Contains xs p) is h)),
        λ h. subst (λ xs. Contains xs p) (sym is)
            (kept_all pairs sorted kept k p (subst (λ xs. Contains xs p) (sym are) h)),
      );
    }

-- where they are none, the clause has no cube
pub no_cube : (clause : List ℤ) (pairs sorted kept : Cube) → pairs ≡ map falsifier clause → AreKept pairs sorted kept
    → (IsCube kept → ⊥) → (e : Cube) → Falsifies clause e → ⊥
no_cube clause pairs sorted kept are k none e f =
    none (rising_cube kept e (kept_rise pairs sorted kept k) f.cube
    (λ p h. (f.same p).1 (subst (λ xs. Contains xs p) are (kept_only pairs sorted kept k p h)))
    (λ p h. kept_all pairs sorted kept k p (subst (λ xs. Contains xs p) (sym are) ((f.same p).0 h))))
