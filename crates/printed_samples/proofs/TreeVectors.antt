-- On the path 1 - 2 - 3 with root 1 the arrows 2 to 1 and 3 to 2 are a tree, and two arrows along one edge are none.
use Rattle.std.proofs.Common.{inl, inr, ◌≡◌, ◌≢◌, ℕ, zero, suc, ◌+◌, ◌<◌, [], ◌∷◌, get_or, refl, sym, ap, subst, ◌∙◌, arith, Contains, All, ◌⊎◌}
use Rattle.std.proofs.lemmas.Bool.{cases_eq}
use Rattle.graph_read.specs.Graphs.{GraphOf, IsVertex}
use Rattle.printed_samples.specs.Arrows.{Arrow, IsAlong}
use Rattle.printed_samples.specs.Trees.{AreSteps, IsTreeTo, LeadWithin}

-- the edges 1 2 and 2 3
abbrev path : GraphOf
path = record {
  vertices = 3;
  edges = record { u = 1; v = 2; weight = 1 } ∷ record { u = 2; v = 3; weight = 1 } ∷ [];
}

-- an arrow from 2 to 1
abbrev down : Arrow
down = record { tail = 2; head = 1; number = 1 }

-- from 3 to 2
abbrev along : Arrow
along = record { tail = 3; head = 2; number = 2 }

-- from 2 to 3
abbrev turned : Arrow
turned = record { tail = 2; head = 3; number = 2 }

-- arrows along one edge are no tree
no_tree : IsTreeTo path 1 (turned ∷ along ∷ []) → ⊥
no_tree is =
    let same : turned ≡ along = is.apart turned along (0, omega arith, refl) (1, omega arith, refl) refl in
    let clash : ◌≡◌ {A = ℕ} 2 3 = ap (λ (a : Arrow). a.tail) same in absurd (omega (arith, clash))

-- nor are too few
too_few : IsTreeTo path 1 (down ∷ []) → ⊥
too_few is = let count = is.count in absurd (omega arith)

-- nor is one along an edge with other ends
other_ends : IsTreeTo path 1 (down ∷ record { tail = 3; head = 1; number = 2 } ∷ []) → ⊥
other_ends is = elim (is.along 1 down (omega arith)).ends [
  | inl (u, v) ↦ absurd (omega (arith, u, v))
  | inr (u, v) ↦ absurd (omega (arith, u, v))
]

-- from each vertex they lead to the root
from_two : AreSteps (down ∷ along ∷ []) 2 (down ∷ []) 1
from_two = ((0, omega arith, refl), refl, refl)

-- from 3 by two arrows
from_three : AreSteps (down ∷ along ∷ []) 3 (along ∷ down ∷ []) 1
from_three = ((1, omega arith, refl), refl, from_two)

-- so the tree does
leads : (w : ℕ) → IsVertex 3 w → LeadWithin (down ∷ along ∷ []) 3 w 1
leads w vertex =
    let first = vertex.first in
    let last = vertex.last in
    elim (cases_eq w 1) [
      | inl root ↦ ([], root, omega arith)
      | inr other ↦ elim (cases_eq w 2) [
        | inl two ↦ subst (λ u. LeadWithin (down ∷ along ∷ []) 3 u 1) (sym two) (down ∷ [], from_two, omega arith)
        | inr far ↦
            let three : w ≡ 3 = omega arith in
            subst (λ u. LeadWithin (down ∷ along ∷ []) 3 u 1) (sym three) (along ∷ down ∷ [], from_three, omega arith)
      ]
    ]

-- what holds of both holds of each
both : (P : Arrow → Type 0) → P down → P along → All P (down ∷ along ∷ [])
both P one two zero d below = one
both P one two (suc zero) d below = two
both P one two (suc (suc k)) d below = absurd (omega arith)

-- the tails rise
rise : (k : ℕ) → k + 1 < 2 → get_or (2 ∷ 3 ∷ []) k 0 < get_or (2 ∷ 3 ∷ []) (k + 1) 0
rise zero below = omega arith
rise (suc k) below = absurd (omega arith)

-- they are the vertices but the root
tails : (w : ℕ) → IsVertex 3 w → w ≢ 1 → Contains (2 ∷ 3 ∷ []) w
tails w vertex other =
    let first = vertex.first in
    let last = vertex.last in
    elim (cases_eq w 2) [
      | inl two ↦ subst (Contains (2 ∷ 3 ∷ [])) (sym two) (0, omega arith, refl)
      | inr far ↦
          let three : w ≡ 3 = omega arith in subst (Contains (2 ∷ 3 ∷ [])) (sym three) (1, omega arith, refl)
    ]

-- an arrow is one of the two
either : (a : Arrow) → Contains (down ∷ along ∷ []) a → (down ≡ a) ⊎ (along ≡ a)
either a (zero, below, is) = inl is
either a (suc zero, below, is) = inr is
either a (suc (suc k), below, is) = absurd (omega arith)

-- no two are along one edge
apart : (a b : Arrow) → Contains (down ∷ along ∷ []) a → Contains (down ∷ along ∷ []) b → a.number ≡ b.number → a ≡ b
apart a b has also same = elim (either a has) [
  | inl one ↦ elim (either b also) [
    | inl two ↦ sym one ∙ two
    | inr two ↦
        let x = ap (λ (c : Arrow). c.number) one in let y = ap (λ (c : Arrow). c.number) two in absurd (omega arith)
  ]
  | inr one ↦ elim (either b also) [
    | inl two ↦
        let x = ap (λ (c : Arrow). c.number) one in let y = ap (λ (c : Arrow). c.number) two in absurd (omega arith)
    | inr two ↦ sym one ∙ two
  ]
]

-- they are a tree
is_tree : IsTreeTo path 1 (down ∷ along ∷ [])
is_tree = record {
  count = omega arith;
  rising = rise;
  tails = both (λ a. IsVertex 3 a.tail × (a.tail ≢ 1))
      (record { first = omega arith; last = omega arith }, λ h. absurd (omega arith))
      (record { first = omega arith; last = omega arith }, λ h. absurd (omega arith));
  each = tails;
  along = both (IsAlong path)
      (record { first = omega arith; last = omega arith; ends = inr (refl, refl) })
      (record { first = omega arith; last = omega arith; ends = inr (refl, refl) });
  apart = apart;
  leads = leads;
}
