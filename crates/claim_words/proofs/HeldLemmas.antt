-- The variables of a map are the list that a pass keeps. A variable is in a cube only once.
use Rattle.std.proofs.Common.{◌≡◌, ◌≢◌, ℕ, zero, suc, ◌+◌, ◌<◌, ◌≤◌, cond, List, [], ◌∷◌, ◌++◌, length, get_or, take, drop, refl, sym, ap, ◌∙◌, arith, eq-eqb, ne_eqb}
use Rattle.claim_words.proofs.SharersAreOwed.{find_in, in_contains}
use Rattle.std.proofs.lemmas.Bool.Decides.{nat_tests}
use mathlib.Core.Logic.{dite}
use native.Mathlib.Decide.{ℕ_discrete, dec_le}
use Rattle.pop_model.specs.Popping.{Cube, variables, names}
use Rattle.pop_model.proofs.Following.{Rises, rises_rest, later}
use Rattle.claim_words.specs.Maps.{Pairs, is_at, times, without, raise, raise_all, times_in, taken_out, many_from}
use Rattle.claim_words.proofs.Totals.{is_at-yes, is_at-no}

-- a variable stands among the variables of a map as often as in the map
pub times-variables : (v : ℕ) (l : Pairs) → times_in v (variables l) ≡ times v l
times-variables v [] = refl
times-variables v (p ∷ ps) = ap (λ (n : ℕ). is_at v p + n) (times-variables v ps)

-- taking out the first
pub taken-hit : (v u : ℕ) (us : List ℕ) → u ≡ v → taken_out v (u ∷ us) ≡ taken_out v us
taken-hit v u us e = ap (λ b. cond b (taken_out v us) (u ∷ taken_out v us)) (eq-eqb u v e)

-- taking out another
pub taken-miss : (v u : ℕ) (us : List ℕ) → u ≢ v → taken_out v (u ∷ us) ≡ u ∷ taken_out v us
taken-miss v u us ne = ap (λ b. cond b (taken_out v us) (u ∷ taken_out v us)) (ne_eqb u v ne)

-- a member counts where it is v
pub one-hit : (v u : ℕ) → u ≡ v → is_at v (u, 0) ≡ 1
one-hit v u e = is_at-yes v (u, 0) e

-- and doesn't where it isn't
pub one-miss : (v u : ℕ) → u ≢ v → is_at v (u, 0) ≡ 0
one-miss v u ne = is_at-no v (u, 0) ne

-- the variables of a map without v
pub variables-without : (v : ℕ) (l : Pairs) → variables (without v l) ≡ taken_out v (variables l)
variables-without v [] = refl
variables-without v (p ∷ ps) = grind (arith, nat_tests, variables-without v ps)

-- raising a number changes no variable
pub variables-raise : (v : ℕ) (l : Pairs) → variables (raise v l) ≡ variables l
variables-raise v [] = refl
variables-raise v (p ∷ ps) = grind (arith, nat_tests, variables-raise v ps)

-- nor does raising several
pub variables-raise_all : (cube l : Pairs) → variables (raise_all cube l) ≡ variables l
variables-raise_all [] l = refl
variables-raise_all (p ∷ ps) l = variables-raise_all ps (raise p.0 l) ∙ variables-raise p.0 l

-- the variables of a map with a pair more
pub variables-push : (l : Pairs) (p : ℕ × ℕ) → variables (l ++ p ∷ []) ≡ variables l ++ p.0 ∷ []
variables-push [] p = refl
variables-push (q ∷ qs) p = ap (λ (l : List ℕ). q.0 ∷ l) (variables-push qs p)

-- what is not there needs not be taken out
pub taken-none : (v : ℕ) (l : List ℕ) → times_in v l ≡ 0 → taken_out v l ≡ l
taken-none v [] e = refl
taken-none v (u ∷ us) e = grind (arith, nat_tests, taken-none v us)

-- what stands at a place stands there at least once
pub stands_in : (v : ℕ) (l : List ℕ) (i d : ℕ) → get_or l i d ≡ v → i < length l → 1 ≤ times_in v l
stands_in v [] i d e h = absurd (omega arith)
stands_in v (u ∷ us) zero d e h = omega (arith, one-hit v u e)
stands_in v (u ∷ us) (suc i) d e h = omega (arith, stands_in v us i d e (omega arith))

-- v is the only one of its kind, at i
pub removed : (v : ℕ) (l : List ℕ) (i d : ℕ) → times_in v l ≡ 1 → get_or l i d ≡ v → i < length l
    → take i l ++ drop (suc i) l ≡ taken_out v l
removed v [] i d e here h = absurd (omega arith)
removed v (u ∷ us) zero d e here h = grind (arith, nat_tests, taken-none v us)
removed v (u ∷ us) (suc i) d e here h =
    let there = stands_in v us i d here (omega arith) in grind (arith, nat_tests, removed v us i d, there)

-- it stands nowhere
pub nowhere : (v : ℕ) (l : List ℕ) → ((j : ℕ) → j < length l → get_or l j 0 ≢ v) → times_in v l ≡ 0
nowhere v [] f = refl
nowhere v (u ∷ us) f = omega (arith, one-miss v u (f 0 (omega arith)), nowhere v us (λ j h. f (suc j) (omega arith)))

-- v isn't at i nor behind it, so i isn't the first place
pub behind : (v : ℕ) (l : List ℕ) (i : ℕ) → times_in v l ≡ 1 → ((j : ℕ) → i < j → j < length l → get_or l j 0 ≢ v)
    → get_or l i 0 ≢ v → 1 ≤ i
behind v l i one after miss = dite (ℕ_discrete i 0)
    (λ z. absurd (omega (
      arith,
      nowhere v l (λ j h. dite (ℕ_discrete j i)
          (λ e is. miss (ap (λ (x : ℕ). get_or l x 0) (sym e) ∙ is))
          (λ ne. after j (omega arith) h)),
    )))
    (λ ne. omega arith)

-- each variable of rising ones stands there once
pub once : (e : Cube) → Rises e → (v : ℕ) → times v e ≤ 1
once [] rises v = omega arith
once (p ∷ ps) rises v = dite (ℕ_discrete p.0 v)
    (λ is. dite (dec_le 1 (times v ps))
    (λ more. let t = find_in v ps more in
    let less = later p ps v t.0 rises (in_contains (v, t.0) ps t.1) in absurd (omega arith))
    (λ none. omega (arith, is_at-yes v p is)))
    (λ ne. omega (arith, is_at-no v p ne, once ps (rises_rest p ps rises) v))

-- what a pop adds to a cursor
pub names_raise : (e : Cube) (v n : ℕ) → times v e ≤ 1 → cond (names e v) (n + 1) n ≡ n + times v e
names_raise [] v n h = omega arith
names_raise (p ∷ ps) v n h = grind (arith, nat_tests, names_raise ps v n)

-- none is n or more after a member below n came in
pub many-push : (n v : ℕ) (l : List ℕ) → many_from n l ≡ 0 → v < n → many_from n (l ++ v ∷ []) ≡ 0
many-push n v [] none h = grind (arith, nat_tests)
many-push n v (u ∷ us) none h = grind (arith, nat_tests, many-push n v us)

-- none is n or more after a member went out
pub many-taken_out : (n v : ℕ) (l : List ℕ) → many_from n l ≡ 0 → many_from n (taken_out v l) ≡ 0
many-taken_out n v [] none = refl
many-taken_out n v (u ∷ us) none = grind (arith, nat_tests, many-taken_out n v us)

-- a member of a list where none is n or more is below n
pub held_near : (n v : ℕ) (l : List ℕ) → many_from n l ≡ 0 → times_in v l ≡ 1 → v < n
held_near n v [] none one = absurd (omega arith)
held_near n v (u ∷ us) none one = grind (arith, nat_tests, held_near n v us)
