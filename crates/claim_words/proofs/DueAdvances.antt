-- The turns of loops over the pairs that are due, and over cursors.
use Rattle.std.proofs.Common.{arith, refl, ℕ, zero, suc, [], ◌∷◌, ap, sym, ◌∙◌, subst, ◌≡◌, ◌≤◌, ◌<◌, ◌+◌, drop, length, slice_get, Some}
use Rattle.std.proofs.lemmas.List.{drop_all}
use Rattle.std.proofs.lemmas.Option.{none-some, same_Some}
use Rattle.pop_model.specs.Popping.{Cube, IsCube}
use Rattle.pop_model.specs.Instances.{Instance}
use Rattle.claim_words.specs.declared.view.View.{View}
use Rattle.claim_words.specs.Maps.{Each, Pairs, times}
use Rattle.claim_words.specs.Steps.{raised_by, advanced_by, drawn_by}
use Rattle.claim_words.specs.Conditions.{IsDue, IsReady, CanPop}
use Rattle.claim_words.proofs.Totals.{due_next, is_at-yes, each-map, each-both}
use Rattle.claim_words.proofs.HeldLemmas.{once}

-- the pairs from a place on are that of the place and those behind it
pub turn : (l : Pairs) (i : ℕ) (p : ℕ × ℕ) → slice_get l i ≡ Some p → drop i l ≡ p ∷ drop (suc i) l
turn [] i p e = absurd (none-some p e)
turn (x ∷ xs) zero p e = ap (λ (q : ℕ × ℕ). q ∷ xs) (same_Some x p e)
turn (x ∷ xs) (suc i) p e = turn xs i p e

-- the advance of the pair at a place is due, and its variable is held, which does not stand behind it
pub here_due : (n : ℕ) (d : View) (l : Pairs) (i : ℕ) (p : ℕ × ℕ) → IsDue n d (drop i l) → slice_get l i ≡ Some p
    → (p.0 < n) × (times p.0 d.held ≡ 1) × (times p.0 d.due ≡ 1) × (times p.0 (drop (suc i) l) ≡ 0)
here_due n d l i p due h =
    let t : IsDue n d (p ∷ drop (suc i) l) = subst (IsDue n d) (turn l i p h) due in
    let none : times p.0 (drop (suc i) l) ≡ 0 = omega (arith, t.1 p.0, is_at-yes p.0 p refl) in
    (t.2.0.0, t.2.0.1, omega (arith, ap (times p.0) t.0, none, is_at-yes p.0 p refl), none)

-- after it those of the pairs behind are due, and all come to the same view
pub next_due : (n : ℕ) (d e : View) (l : Pairs) (i : ℕ) (p : ℕ × ℕ) → IsDue n d (drop i l) → slice_get l i ≡ Some p
    → e ≡ advanced_by d p.0
    → IsDue n e (drop (i + 1) l) × (raised_by e (drop (i + 1) l) ≡ raised_by d (drop i l))
next_due n d e l i p due h to = let rest = drop (suc i) l in
    let t : IsDue n d (p ∷ rest) = subst (IsDue n d) (turn l i p h) due in
    let next : suc i ≡ i + 1 = omega arith in (
      subst (λ (j : ℕ). IsDue n e (drop j l)) next
          (subst (λ (x : View). IsDue n x rest) (sym to) (due_next n d p rest t)),
      ap (λ (j : ℕ). raised_by e (drop j l)) (sym next) ∙ ap (λ (x : View). raised_by x rest) to
          ∙ ap (raised_by d) (sym (turn l i p h)),
    )

-- at the end all advances were made
pub done_due : (n : ℕ) (d : View) (l : Pairs) (i : ℕ) → IsDue n d (drop i l) → length l ≤ i → d ≡ raised_by d (drop i l)
done_due n d l i due h = let none : d.due ≡ [] = due.0 ∙ drop_all i l h in
    ap (λ (x : Pairs). record d { due = x }) none ∙ ap (raised_by d) (sym (drop_all i l h))

-- a ticket makes its advances due
pub first_due : (i : Instance) (n : ℕ) (d : View) (u : ℕ) (cube : Cube) (t : ℕ) → IsCube cube → CanPop i d u cube
    → Each (λ (p : ℕ × ℕ). p.0 < n) cube
    → IsDue n (drawn_by d u cube t) cube
first_due i n d u cube t is can near = (
  refl,
  once cube is.rising,
  each-both (λ (p : ℕ × ℕ). p.0 < n) (λ (p : ℕ × ℕ). times p.0 d.held ≡ 1) cube near
      (each-map (IsReady i d.held) (λ (p : ℕ × ℕ). times p.0 d.held ≡ 1) (λ p h. h.0) cube can.ready),
)
