-- The cube of a loop has just its variables, each with its current slot: so popping it moves on the cursors of these
-- variables, and it has next entries where they have.
use Rattle.std.proofs.Common.{inl, inr, ◌≡◌, ◌≢◌, ◌↔◌, ℕ, ◌+◌, ◌<◌, true, cond, List, length, map, get_or, refl, sym, ap, subst, ◌∙◌, arith, All, Contains, ext_get_or}
use Rattle.std.specs.List.{AllPairs}
use Rattle.std.specs.List.Sorted.{IsPermutation, IsNonDecreasingBy}
use Rattle.std.proofs.lemmas.Bool.{cases_Bool, false≢true}
use Rattle.std.proofs.lemmas.List.{length-map, get_or-map, get_or_default}
use Rattle.std.proofs.lemmas.List.Elements.{All-contains, Contains-get_or}
use Rattle.std.proofs.lemmas.List.Sorted.{length_permutation, Contains-permutation, IsPermutation-sym}
use Rattle.pop_model.specs.Popping.{Cube, Occurs, names, cursor, pop}
use Rattle.pop_model.proofs.PopLemmas.{length-pop, cursor-pop, cursor-pop_other}
use Rattle.pop_model.proofs.Diamond.{named, names_it}
use Rattle.pop_model.proofs.Rising.{same_rising}
use Rattle.confluence_core.specs.CycleTables.{CycleTable, current_slot}
use Rattle.confluence_core.specs.Loops.{AreMembers, IsCubeOf, Raises}
use Rattle.confluence_core.proofs.SortedKeys.{rises_sorted}

-- a variable with its current slot
abbrev pub pair_of : CycleTable → List ℕ → ℕ → ℕ × ℕ
pair_of t c v = (v, current_slot t c v)

-- what stands at a place is a member
pub member_at : (xs : List ℕ) (k : ℕ) → k < length xs → Contains xs (get_or xs k 0)
member_at xs k below = Contains-get_or xs k 0 below

-- a member stands at a place
pub place_of : (xs : List ℕ) (v : ℕ) → Contains xs v → (k : ℕ) × (k < length xs) × (get_or xs k 0 ≡ v)
place_of xs v (k, below, is) = (k, below, get_or_default xs k 0 v below ∙ is)

-- the pairs of the variables, sorted by variable, are their cube
pub cube_sorted : (t : CycleTable) (c members : List ℕ) (e : Cube) → AreMembers t members
    → IsPermutation (map (pair_of t c) members) e → IsNonDecreasingBy (λ (p : ℕ × ℕ). p.0) e → IsCubeOf t c members e
cube_sorted t c members e are moved sorted = record {
  cube = record {
    some = omega (arith, length_permutation pairs e moved, size, are.some);
    rising = rises_sorted (λ (p : ℕ × ℕ). p.0) pairs e moved sorted differ;
  };
  exact = λ v x. (to v x, from v x);
}
  where
    pairs : List (ℕ × ℕ)
    pairs = map (pair_of t c) members

    size : length pairs ≡ length members
    size = length-map members (pair_of t c)

    differ : AllPairs (λ (p q : ℕ × ℕ). p.0 ≢ q.0) pairs
    differ i j d less below same =
        let first = get_or-map (pair_of t c) members i 0 d (omega (arith, size)) in
        let last = get_or-map (pair_of t c) members j 0 d (omega (arith, size)) in
        are.differ i j 0 less (omega (arith, size))
        (sym (ap (λ (p : ℕ × ℕ). p.0) first) ∙ same ∙ ap (λ (p : ℕ × ℕ). p.0) last)

    to : (v x : ℕ) → Contains e (v, x) → Contains members v × (current_slot t c v ≡ x)
    to v x has =
        let there = Contains-permutation e pairs (v, x) (IsPermutation-sym pairs e moved) has in
        let below : there.0 < length members = omega (arith, size, there.1) in
        let is : ◌≡◌ {A = ℕ × ℕ} (pair_of t c (get_or members there.0 v)) (v, x) =
        sym (get_or-map (pair_of t c) members there.0 v (v, x) below) ∙ there.2 in
        let variable : get_or members there.0 v ≡ v = ap (λ (p : ℕ × ℕ). p.0) is in (
          (there.0, below, variable),
          sym (ap (current_slot t c) variable) ∙ ap (λ (p : ℕ × ℕ). p.1) is,
        )

    from : (v x : ℕ) → Contains members v × (current_slot t c v ≡ x) → Contains e (v, x)
    from v x (has, is) =
        let at : get_or pairs has.0 (v, x) ≡ pair_of t c (get_or members has.0 v) =
        get_or-map (pair_of t c) members has.0 v (v, x) has.1 in
        let same : ◌≡◌ {A = ℕ × ℕ} (pair_of t c (get_or members has.0 v)) (v, x) =
        ap (pair_of t c) has.2 ∙ ap (λ y. (v, y)) is in
        Contains-permutation pairs e (v, x) moved (has.0, omega (arith, size, has.1), at ∙ same)

module _ (t : CycleTable) (c members : List ℕ) (e : Cube) (is : IsCubeOf t c members e) where
  -- the cube names just the variables of the loop
  pub cube_names : (v : ℕ) → (names e v ≡ true) ↔ Contains members v
  cube_names v = (
    λ at. let pair = named e v at in ((is.exact v pair.0).0 pair.1).0,
    λ has. names_it e (v, current_slot t c v) ((is.exact v (current_slot t c v)).1 (has, refl)),
  )

  -- it has the current slots
  pub cube_occurs : Occurs t.stacks c e
  cube_occurs k d below =
      let pair : ℕ × ℕ = get_or e k d in ((is.exact pair.0 pair.1).0 (Contains-get_or e k d below)).1

  -- what holds of each variable of the loop holds of each of the cube
  pub cube_all : (P : ℕ → Type 0) → All P members → All (λ (p : ℕ × ℕ). P p.0) e
  cube_all P all k d below =
      let pair : ℕ × ℕ = get_or e k d in
      All-contains P members pair.0 all ((is.exact pair.0 pair.1).0 (Contains-get_or e k d below)).0

  -- and the other way round
  pub loop_all : (P : ℕ → Type 0) → All (λ (p : ℕ × ℕ). P p.0) e → All P members
  loop_all P all k d below =
      let v = get_or members k d in
      All-contains (λ (p : ℕ × ℕ). P p.0) e (v, current_slot t c v) all
      ((is.exact v (current_slot t c v)).1 (Contains-get_or members k d below, refl))

  -- to move on the cursors of the loop is to pop its cube
  pub raises_pop : (new : List ℕ) → Raises members (length members) c new → new ≡ pop c e
  raises_pop new r = ext_get_or 0 new (pop c e) (r.count ∙ sym (length-pop c e)) (λ v below.
      elim (cases_Bool (names e v)) [
        | inl there ↦
            let at = place_of members v ((cube_names v).0 there) in
            let up : get_or new v 0 ≡ cursor c v + 1 =
            subst (λ u. get_or new u 0 ≡ cursor c u + 1) at.2 (r.raised at.0 at.1) in
            let within : v < length c = omega (arith, r.count) in
            up ∙ sym (cursor-pop c e v within ∙ ap (λ b. cond b (cursor c v + 1) (cursor c v)) there)
        | inr other ↦
            r.kept v (λ k lt same. false≢true (sym other
            ∙ (cube_names v).1 (subst (Contains members) same (member_at members k lt))))
            ∙ sym (cursor-pop_other c e v other)
      ])

-- there is one such cube
pub one_cube : (t : CycleTable) (c members : List ℕ) (e f : Cube) → IsCubeOf t c members e → IsCubeOf t c members f
    → e ≡ f
one_cube t c members e f is other =
    same_rising (λ (p : ℕ × ℕ). p.0) e f is.cube.rising other.cube.rising
    (λ p has. (other.exact p.0 p.1).1 ((is.exact p.0 p.1).0 has))
    (λ p has. (is.exact p.0 p.1).1 ((other.exact p.0 p.1).0 has))
