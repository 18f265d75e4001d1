-- A pass that holds all variables: it holds the list of their cursors, numbered.
use Rattle.std.proofs.Common.{◌≡◌, ℕ, zero, suc, ◌+◌, ◌<◌, ◌≤◌, List, [], ◌∷◌, length, get_or, refl, sym, ap, ◌∙◌, arith, eq-eqb, ne_eqb}
use Rattle.claim_words.proofs.Memberships.{each_from}
use Rattle.std.proofs.lemmas.Bool.Decides.{nat_tests}
use Rattle.std.specs.List.{enumerate_from, range_with_len}
use mathlib.Core.Logic.{dite}
use native.Mathlib.Decide.{ℕ_discrete}
use Rattle.pop_model.specs.Stacks.{value_at, height_of}
use Rattle.pop_model.specs.Popping.{Cube, IsPoppable, NamesBelow, variables, cursor}
use Rattle.pop_model.specs.Families.{Family}
use Rattle.pop_model.specs.Instances.{Instance}
use Rattle.claim_words.specs.Maps.{Pairs, Each, times, look, times_in, taken_out}
use Rattle.claim_words.specs.Openings.{marks_in}
use Rattle.claim_words.specs.Steps.{sharing}
use Rattle.claim_words.specs.Conditions.{IsReady}
use Rattle.claim_words.proofs.Totals.{each-map}
use Rattle.claim_words.proofs.HeldLemmas.{one-hit, taken-hit, taken-none}
use Rattle.claim_words.proofs.SharersAreOwed.{sharing_only, all_in}

-- the variables of numbered cursors are the numbers
pub variables-enumerate : (m : ℕ) (l : List ℕ) → variables (enumerate_from m l) ≡ range_with_len m (length l)
variables-enumerate m [] = refl
variables-enumerate m (x ∷ xs) = ap (λ (l : List ℕ). m ∷ l) (variables-enumerate (m + 1) xs)

-- a number below a range isn't in it
range-below : (v m n : ℕ) → v < m → times_in v (range_with_len m n) ≡ 0
range-below v m zero h = refl
range-below v m (suc n) h = grind (arith, nat_tests, range-below v (m + 1) n)

-- the first number of a range is there once
pub range-first : (v n : ℕ) → times_in v (range_with_len v (suc n)) ≡ 1
range-first v n = omega (arith, one-hit v v refl, range-below v (v + 1) n (omega arith))

-- a range without its first number
pub range-without : (v n : ℕ) → taken_out v (range_with_len v (suc n)) ≡ range_with_len (v + 1) n
range-without v n = taken-hit v v (range_with_len (v + 1) n) refl
    ∙ taken-none v (range_with_len (v + 1) n) (range-below v (v + 1) n (omega arith))

-- a map with no variable is empty
pub variables-none : (l : Pairs) → variables l ≡ [] → l ≡ []
variables-none [] e = refl
variables-none (p ∷ ps) e = absurd (omega (arith, ap length e))

-- a number below the first isn't numbered
enumerate-below : (v m : ℕ) (c : List ℕ) → v < m → times v (enumerate_from m c) ≡ 0
enumerate-below v m [] h = refl
enumerate-below v m (x ∷ xs) h = grind (arith, nat_tests, enumerate-below v (m + 1) xs)

-- each number of a cursor is there once
enumerate-once : (m j : ℕ) (c : List ℕ) → j < length c → times (m + j) (enumerate_from m c) ≡ 1
enumerate-once m j [] h = absurd (omega arith)
enumerate-once m zero (x ∷ xs) h = grind (arith, nat_tests, enumerate-below (m + 0) (m + 1) xs)
enumerate-once m (suc j) (x ∷ xs) h =
    let next : m + 1 + j ≡ m + suc j = omega arith in
    let rest = enumerate-once (m + 1) j xs (omega arith) in grind (arith, nat_tests, next, rest)

-- it has that cursor
enumerate-look : (m j : ℕ) (c : List ℕ) → j < length c → look (m + j) (enumerate_from m c) ≡ get_or c j 0
enumerate-look m j [] h = absurd (omega arith)
enumerate-look m zero (x ∷ xs) h = grind (arith, nat_tests)
enumerate-look m (suc j) (x ∷ xs) h =
    let next : m + 1 + j ≡ m + suc j = omega arith in
    let rest = enumerate-look (m + 1) j xs (omega arith) in grind (arith, nat_tests, next, rest)

-- an event that is poppable at the cursors may be popped
pub ready_all : (i : Instance) (c : List ℕ) (held : Pairs) (e : Cube) → held ≡ enumerate_from 0 c
    → NamesBelow e (length c) → IsPoppable i.stacks c e → Each (IsReady i held) e
ready_all i c held e is known poppable = each_from (IsReady i held) e (λ p there.
    let near = all_in (λ (q : ℕ × ℕ). q.0 < length c) e known p there in
    let start : 0 + p.0 ≡ p.0 = omega arith in
    let once : times p.0 held ≡ 1 = ap (times p.0) is ∙ ap (λ (v : ℕ). times v (enumerate_from 0 c)) (sym start)
    ∙ enumerate-once 0 p.0 c near in
    let at : look p.0 held ≡ cursor c p.0 = ap (look p.0) is ∙ ap (λ (v : ℕ). look v (enumerate_from 0 c)) (sym start)
    ∙ enumerate-look 0 p.0 c near in (
      once,
      ap (value_at i.stacks p.0) at
          ∙ all_in (λ (q : ℕ × ℕ). value_at i.stacks q.0 (cursor c q.0) ≡ q.1) e poppable.occurs p there,
      omega (arith, at, all_in (λ (q : ℕ × ℕ). cursor c q.0 + 1 < height_of i.stacks q.0) e poppable.next p there),
    ))

-- the units that a pop owes have marks
pub owed_below : (f : Family) (cube : Cube) → Each (λ u. u < marks_in f) (sharing f cube)
owed_below f cube = each_from (λ u. u < marks_in f) (sharing f cube) (λ u i. (sharing_only f cube u i).1)

-- units from n on, up to below m
abbrev pub Between : ℕ → ℕ → ℕ → Type 0
Between n m u = (n ≤ u) × (u < m)

-- units below m are from 0 on
pub between_all : (m : ℕ) (l : List ℕ) → Each (λ u. u < m) l → Each (Between 0 m) l
between_all m l h = each-map (λ u. u < m) (Between 0 m) (λ u low. (omega arith, low)) l h

-- without the first they are from the next on
pub between_next : (n m : ℕ) (l : List ℕ) → Each (Between n m) l → Each (Between (n + 1) m) (taken_out n l)
between_next n m [] h = tt
between_next n m (u ∷ us) h = dite (ℕ_discrete u n)
    (λ e. rw (eq-eqb u n e) (between_next n m us h.1))
    (λ ne. rw (ne_eqb u n ne) ((omega (arith, h.0.0), h.0.1), between_next n m us h.1))

-- none is from m on up to below m
pub between_none : (m : ℕ) (l : List ℕ) → Each (Between m m) l → l ≡ []
between_none m [] h = refl
between_none m (u ∷ us) h = absurd (omega (arith, h.0.0, h.0.1))
