-- A ticket keeps each poppable event covered, since the units that share a variable with the popped event are owed.
use Rattle.std.proofs.Common.{◌≡◌, ◌≢◌, ◌⊎◌, ℕ, zero, suc, ◌+◌, ◌<◌, ◌≤◌, true, false, cond, List, [], ◌∷◌, length, slice_get, Some, All, Contains, sym, refl, ap, ◌∙◌, subst, inl, inr, ⊎_elim, arith}
use Rattle.std.proofs.lemmas.Bool.{cases_Bool}
use mathlib.Core.Logic.{dite}
use native.Mathlib.Decide.{ℕ_discrete, dec_le}
use Rattle.std.proofs.lemmas.Option.{none-some, same_Some, slice_get_within, get_or_from_slice_get}
use Rattle.std.proofs.lemmas.List.Elements.{All-contains, All-get_or}
use Rattle.pop_model.specs.Stacks.{variables_of, domain_of, value_at, height_of}
use Rattle.pop_model.specs.Popping.{Cube, IsPoppable, cursor}
use Rattle.pop_model.specs.Families.{Event, Family, IsEvent}
use Rattle.pop_model.specs.Families.Family.{Listed, Cycles}
use Rattle.pop_model.specs.Instances.{FamilyFits, FitsStacks}
use Rattle.pop_model.proofs.Sharing.{share, share_to, share_from}
use Rattle.pop_model.specs.Extremal.{Share}
use Rattle.claim_words.specs.declared.opening.Opening.{Opening}
use Rattle.claim_words.specs.Maps.{In, Pairs, times}
use Rattle.claim_words.specs.Openings.{count, Has, marks_in, marks}
use Rattle.claim_words.specs.Steps.{sharing_from, sharing}
use Rattle.claim_words.specs.Machine.{IsPoppableAt}
use Rattle.claim_words.proofs.Totals.{is_at-yes, is_at-no}

-- the event of a unit that has a mark is one
pub one_cube : (f : Family) (u : ℕ) (a b : Cube) → u < marks_in f → IsEvent f (record { unit = u; cube = a })
    → IsEvent f (record { unit = u; cube = b }) → a ≡ b
one_cube (Listed rows) u a b h x y = let same : (x.0, a) ≡ (y.0, b) = same_Some (x.0, a) (y.0, b) (sym x.1 ∙ y.1) in
    ap (λ (r : ℕ × Cube). r.1) same
one_cube (Cycles heads) u a b h x y = absurd (omega (arith, h))

-- a member is contained
pub in_contains : {A : Type 0} (a : A) (l : List A) → In a l → Contains l a
in_contains a [] i = absurd i
in_contains a (x ∷ xs) i = ⊎_elim (λ (e : x ≡ a). (0, omega arith, e))
    (λ (m : In a xs). let t = in_contains a xs m in (suc t.0, omega (arith, t.1), t.2)) i

-- what holds of all holds of a member
pub all_in : {A : Type 0} (P : A → Type 0) (l : List A) → All P l → (a : A) → In a l → P a
all_in P l h a i = All-contains P l a h (in_contains a l i)

-- a variable of a map stands in a pair of it
pub find_in : (v : ℕ) (l : Pairs) → 1 ≤ times v l → (x : ℕ) × In (v, x) l
find_in v [] h = absurd (omega arith)
find_in v (p ∷ ps) h = dite (ℕ_discrete p.0 v)
    (λ e. (p.1, inl (ap (λ (y : ℕ). (y, p.1)) e)))
    (λ ne. let t = find_in v ps (omega (arith, is_at-no v p ne)) in (t.0, inr t.1))

-- the other cube has a variable of the cube
abbrev pub Meets : Cube → Cube → Type 0
Meets cube other = (p : ℕ × ℕ) × In p other × (1 ≤ times p.0 cube)

-- then they share a variable
meets_share : (cube other : Cube) → Meets cube other → share cube other ≡ true
meets_share cube other t = let x = find_in t.0.0 cube t.2 in
    share_to cube other (t.0.0, x.0, t.0.1, in_contains (t.0.0, x.0) cube x.1, in_contains t.0 other t.1)

-- the place of a cube that shares a variable is among those from n on
sharing_in : (cube : Cube) (n i : ℕ) (rows : List (ℕ × Cube)) (row : ℕ × Cube) → slice_get rows i ≡ Some row
    → share cube row.1 ≡ true → In (n + i) (sharing_from cube n rows)
sharing_in cube n i [] row e met = absurd (none-some row e)
sharing_in cube n zero (x ∷ xs) row e met =
    rw (ap (λ (z : ℕ × Cube). share cube z.1) (same_Some x row e) ∙ met) (inl (omega arith))
sharing_in cube n (suc i) (x ∷ xs) row e met = let later : In (suc n + i)
    (sharing_from cube (suc n) xs) = sharing_in cube (suc n) i xs row e met in
    let moved : In (n + suc i) (sharing_from cube (suc n) xs) = subst
    (λ (z : ℕ). In z (sharing_from cube (suc n) xs)) (omega arith) later in
    elim (share cube x.1) as
    (λ b. In (n + suc i)
    (cond b (n ∷ sharing_from cube (suc n) xs)
    (sharing_from cube (suc n) xs))) [ true ↦ inr moved | false ↦ moved ]

-- the unit of an event that shares a variable is among those that share one
pub shared_in : (f : Family) (cube other : Cube) (w : ℕ) → w < marks_in f
    → IsEvent f (record { unit = w; cube = other }) → Meets cube other → In w (sharing f cube)
shared_in (Listed rows) cube other w h event meets = subst (λ (z : ℕ). In z (sharing_from cube 0 rows))
    (omega arith) (sharing_in cube 0 w rows (event.0, other) event.1 (meets_share cube other meets))
shared_in (Cycles heads) cube other w h event meets = absurd (omega (arith, h))

-- a cube has a variable of another, or it hasn't
apart : (cube other : Cube) → Meets cube other ⊎ ((p : ℕ × ℕ) → In p other → times p.0 cube ≡ 0)
apart cube [] = inr (λ p i. absurd i)
apart cube (q ∷ qs) = dite (dec_le 1 (times q.0 cube))
    (λ has. inl (q, inl refl, has))
    (λ none. ⊎_elim (λ (t : Meets cube qs). inl (t.0, inr t.1, t.2))
    (λ (h : (p : ℕ × ℕ) → In p qs → times p.0 cube ≡ 0). inr
    (λ p i. ⊎_elim (λ (e : q ≡ p). subst (λ (x : ℕ × ℕ). times x.0 cube ≡ 0) e (omega arith))
    (λ (m : In p qs). h p m) i)) (apart cube qs))

-- what was poppable at the cursors a was P; at b, which is 1 more where the cube has a variable, what is poppable is
-- Q
pub covers : (k : Opening) (a b : ℕ → ℕ) (u : ℕ) (cube : Cube) (P Q : ℕ → Type 0)
    → IsEvent k.instance.value.family (record { unit = u; cube = cube }) → 1 ≤ length cube
    → ((v : ℕ) → v < count k → b v ≡ a v + times v cube)
    → ((w : ℕ) → w ≢ u → P w → Q w)
    → ((w : ℕ) (other : Cube) → w < marks k
    → IsEvent k.instance.value.family (record { unit = w; cube = other }) → Meets cube other → Q w)
    → ((w : ℕ) → IsPoppableAt k a w → P w) → (w : ℕ) → w < marks k → IsPoppableAt k b w → Q w
covers k a b u [] P Q at some_pair moved stays owed before w near r = absurd (omega arith)
covers k a b u (c ∷ cs) P Q at some_pair moved stays owed before w near r = let cube : Cube = c ∷ cs in
    let other : Cube = r.cube in ⊎_elim
    (λ (t : Meets cube other). owed w other near r.event t)
    (λ (none : (p : ℕ × ℕ) → In p other → times p.0 cube ≡ 0). stays w
    (λ is. let same : other ≡ cube = one_cube k.instance.value.family u other cube
    (subst (λ (x : ℕ). x < marks k) is near)
    (subst (λ (x : ℕ). IsEvent k.instance.value.family (record { unit = x; cube = other })) is r.event) at in
    absurd (omega (arith, none c (subst (λ (l : Pairs). In c l) (sym same) (inl refl)), is_at-yes c.0 c refl)))
    (before w (record {
      cube = other;
      event = r.event;
      ready = λ p i. let t = r.ready p i in let still : b p.0 ≡ a p.0 = omega (arith, moved p.0 t.0, none p i) in
          (t.0, subst (λ (x : ℕ). Has k p.0 x p.1) still t.1, omega (arith, t.2, still));
    })))
    (apart cube other)

-- an event that is poppable at a list of cursors is so at these numbers
pub poppable_at : (k : Opening) (c : List ℕ) (a : ℕ → ℕ) (e : Event)
    → FamilyFits k.instance.value.stacks k.instance.value.family → e.unit < marks k
    → ((v : ℕ) → v < count k → a v ≡ cursor c v)
    → IsEvent k.instance.value.family e → IsPoppable k.instance.value.stacks c e.cube → IsPoppableAt k a e.unit
poppable_at k c a e fits near same event r = record {
  cube = e.cube;
  event = event;
  ready = λ p i. let s = k.instance.value.stacks in
      let inside = below k.instance.value.family fits near event p i in let is = same p.0 inside in (
        inside,
        ap (value_at s p.0) is ∙ all_in (λ (q : ℕ × ℕ). value_at s q.0 (cursor c q.0) ≡ q.1) e.cube r.occurs p i,
        omega (arith, is, all_in (λ (q : ℕ × ℕ). cursor c q.0 + 1 < height_of s q.0) e.cube r.next p i),
      );
}
  where
    -- its variables are below the count
    below : (f : Family) → FamilyFits k.instance.value.stacks f → e.unit < marks_in f → IsEvent f e → (p : ℕ × ℕ)
        → In p e.cube → p.0 < count k
    below (Listed rows) fits near event p i =
        (all_in (λ (q : ℕ × ℕ). (q.0 < variables_of k.instance.value.stacks)
        × (q.1 < domain_of k.instance.value.stacks q.0)) e.cube
        (subst (λ (r : ℕ × Cube). FitsStacks k.instance.value.stacks r.1)
        (get_or_from_slice_get rows e.unit (event.0, e.cube) (event.0, e.cube) event.1)
        (All-get_or (λ (r : ℕ × Cube). FitsStacks k.instance.value.stacks r.1) rows e.unit (event.0, e.cube) near
        fits)) p i).0
    below (Cycles heads) fits near event p i = absurd (omega (arith, near))

-- a unit that shares a variable is the place of a cube that does
from_in : (cube : Cube) (n w : ℕ) (rows : List (ℕ × Cube)) → In w (sharing_from cube n rows) → (i : ℕ)
    × (row : ℕ × Cube) × (w ≡ n + i) × (slice_get rows i ≡ Some row) × (share cube row.1 ≡ true)
from_in cube n w [] i = absurd i
from_in cube n w (x ∷ xs) i =
    let later : In w (sharing_from cube (suc n) xs) → (j : ℕ) × (row : ℕ × Cube) × (w ≡ n + j)
    × (slice_get (x ∷ xs) j ≡ Some row) × (share cube row.1 ≡ true) =
    λ m. let t = from_in cube (suc n) w xs m in (suc t.0, t.1, omega (arith, t.2), t.3, t.4) in
    ⊎_elim
    (λ (met : share cube x.1 ≡ true). ⊎_elim (λ (here : n ≡ w). (0, x, omega (arith, here), refl, met)) later
    (rw met at i))
    (λ (not : share cube x.1 ≡ false). later (rw not at i)) (cases_Bool (share cube x.1))

-- only units of events that share a variable are among those that share one
pub sharing_only : (f : Family) (cube : Cube) (w : ℕ) → In w (sharing f cube) → (other : Cube) × (w < marks_in f)
    × IsEvent f (record { unit = w; cube = other }) × Share cube other
sharing_only (Listed rows) cube w i = let t = from_in cube 0 w rows i in
    let at : slice_get rows w ≡ Some (t.1.0, t.1.1) = let is : w ≡ t.0 = omega (arith, t.2) in
    ap (slice_get rows) is ∙ t.3 in
    (t.1.1, slice_get_within rows w (t.1.0, t.1.1) at, (t.1.0, at), share_from cube t.1.1 t.4)
sharing_only (Cycles heads) cube w i = absurd i
