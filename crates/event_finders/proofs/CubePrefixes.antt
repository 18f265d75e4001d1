-- The first pairs of a cube, which has increasing variables.
use Rattle.std.proofs.Common.{◌≡◌, ◌⊎◌, ℕ, zero, suc, ◌+◌, ◌<◌, ◌≤◌, true, List, [], ◌∷◌, ◌++◌, take, drop, slice_get, Some, Contains, refl, sym, ap, ◌∙◌, subst, inl, inr, ⊎_elim, arith}
use Rattle.std.proofs.lemmas.List.{take_more, take-append-drop}
use Rattle.std.proofs.lemmas.Option.{none-some, slice_get_within, get_or_from_slice_get}
use Rattle.pop_model.specs.Popping.{Cube, names}
use Rattle.pop_model.proofs.Diamond.{named, names_it}
use Rattle.pop_model.proofs.Following.{Rises, rises_rest, later}
use Rattle.claim_words.specs.Maps.{Pairs, Each, In, is_at, times, look}
use Rattle.claim_words.proofs.Totals.{total-append, is_at-yes, look-hit, look-miss}
use Rattle.claim_words.proofs.HeldLemmas.{once}
use Rattle.claim_words.proofs.DueAdvances.{turn}
use Rattle.claim_words.proofs.Memberships.{in_append, in_one, in_left, in_le, each_in_list}
use Rattle.claim_words.proofs.SharersAreOwed.{in_contains}

-- what is contained is a member
pub contains_in : {A : Type 0} (a : A) (l : List A) → Contains l a → In a l
contains_in a [] c = absurd (omega (arith, c.1))
contains_in a (x ∷ xs) (zero, h, e) = inl e
contains_in a (x ∷ xs) (suc i, h, e) = inr (contains_in a xs (i, omega (arith, h), e))

-- what stands at a place is a member
pub in_at : {A : Type 0} (l : List A) (i : ℕ) (a : A) → slice_get l i ≡ Some a → In a l
in_at l i a at = contains_in a l (i, slice_get_within l i a at, get_or_from_slice_get l i a a at)

-- a variable that is named stands in a pair
pub named_in : (e : Cube) (v : ℕ) → names e v ≡ true → (x : ℕ) × In (v, x) e
named_in e v h = let t = named e v h in (t.0, contains_in (v, t.0) e t.1)

-- the variable of a pair is named
pub in_named : (e : Cube) (p : ℕ × ℕ) → In p e → names e p.0 ≡ true
in_named e p i = names_it e p (in_contains p e i)

-- what holds of each pair holds of that of a variable that is named
pub each_named : (P : ℕ × ℕ → Type 0) (e : Cube) (v : ℕ) → Each P e → names e v ≡ true → (x : ℕ) × In (v, x) e × P (v, x)
each_named P e v all named = let t = named_in e v named in (t.0, t.1, each_in_list P e all (v, t.0) t.1)

-- a variable is named by more pairs too
pub names_front : (e : Cube) (p : ℕ × ℕ) (v : ℕ) → names e v ≡ true → names (e ++ p ∷ []) v ≡ true
names_front e p v h =
    let t = named_in e v h in in_named (e ++ p ∷ []) (v, t.0) (in_left (v, t.0) e (p ∷ []) t.1)

-- of one pair more the variable is named
pub names_last : (e : Cube) (p : ℕ × ℕ) → names (e ++ p ∷ []) p.0 ≡ true
names_last e p = in_named (e ++ p ∷ []) p (there e)
  where
    there : (l : Cube) → In p (l ++ p ∷ [])
    there [] = inl refl
    there (x ∷ xs) = inr (there xs)

-- with one pair more nothing else is named
pub names_back : (e : Cube) (p : ℕ × ℕ) (v : ℕ) → names (e ++ p ∷ []) v ≡ true → (names e v ≡ true) ⊎ (p.0 ≡ v)
names_back e p v h =
    let t = named_in (e ++ p ∷ []) v h in
    ⊎_elim (λ (i : In (v, t.0) e). inl (in_named e (v, t.0) i))
    (λ (i : In (v, t.0) (p ∷ [])). inr (ap (λ (q : ℕ × ℕ). q.0) (in_one (v, t.0) p i)))
    (in_append (v, t.0) e (p ∷ []) t.1)

-- the first pairs and one more
pub take_push : (l : Pairs) (i : ℕ) (p : ℕ × ℕ) → slice_get l i ≡ Some p → take (i + 1) l ≡ take i l ++ p ∷ []
take_push l i p at = take_more l i p (slice_get_within l i p at)
    ∙ ap (λ (q : ℕ × ℕ). take i l ++ q ∷ []) (get_or_from_slice_get l i p p at)

-- the variable of a pair is greater than those before it
pub before_place : (l : Cube) (i : ℕ) (p q : ℕ × ℕ) → Rises l → slice_get l i ≡ Some p → In q (take i l) → q.0 < p.0
before_place [] i p q rises at m = absurd (none-some p at)
before_place (x ∷ xs) zero p q rises at m = absurd m
before_place (x ∷ xs) (suc i) p q rises at m = ⊎_elim
    (λ (is : x ≡ q). subst (λ (y : ℕ × ℕ). y.0 < p.0) is
    (later x xs p.0 p.1 rises (in_contains p xs (in_at xs i p at))))
    (λ (n : In q (take i xs)). before_place xs i p q (rises_rest x xs rises) at n) m

-- the first pairs and those that follow have each variable as often as all
pub times-split : (v n : ℕ) (l : Pairs) → times v (take n l) + times v (drop n l) ≡ times v l
times-split v n l = sym (total-append (is_at v) (take n l) (drop n l)) ∙ ap (times v) (take-append-drop n l)

-- so the variable is not among those before it
pub none_yet : (l : Cube) (i : ℕ) (p : ℕ × ℕ) → Rises l → slice_get l i ≡ Some p → times p.0 (take i l) ≡ 0
none_yet l i p rises at = omega
    (arith, once l rises p.0, times-split p.0 i l, ap (times p.0) (turn l i p at), is_at-yes p.0 p refl)

-- a pair of a map counts as one of its variable
pub in_times : (v c : ℕ) (l : Pairs) → In (v, c) l → 1 ≤ times v l
in_times v c l i = omega (arith, in_le (is_at v) (v, c) l i, is_at-yes v (v, c) refl)

-- where that is the only one, it has the variable's number
pub in_look : (v c : ℕ) (l : Pairs) → times v l ≤ 1 → In (v, c) l → look v l ≡ c
in_look v c [] few i = absurd i
in_look v c (p ∷ ps) few i = ⊎_elim
    (λ (is : p ≡ (v, c)). look-hit v p ps (ap (λ (q : ℕ × ℕ). q.0) is) ∙ ap (λ (q : ℕ × ℕ). q.1) is)
    (λ (more : In (v, c) ps).
    look-miss v p ps (λ is. absurd (omega (arith, few, is_at-yes v p is, in_times v c ps more)))
    ∙ in_look v c ps (omega (arith, few)) more) i
