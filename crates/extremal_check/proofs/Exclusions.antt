-- Whether two cubes exclude each other can be told, and doesn't depend on their order.
use Rattle.std.proofs.Common.{inl, inr, ◌≡◌, ◌⊎◌, ℕ, [], ◌∷◌, Contains, sym, subst, ap, ◌∙◌, arith}
use Rattle.std.proofs.lemmas.Bool.{cases_eq}
use Rattle.pop_model.specs.Popping.{Cube}
use Rattle.pop_model.specs.Extremal.{Exclude}
use Rattle.pop_model.proofs.Rising.{member_cases, head_member, tail_member}
use Rattle.extremal_check.specs.Clashes.{DemandsOther}

-- the order of the cubes doesn't matter
pub Exclude-sym : (e f : Cube) → Exclude e f → Exclude f e
Exclude-sym e f (v, x, y, here, there, differ) = (v, y, x, there, here, λ same. differ (sym same))

-- a cube demands another value of a variable, or doesn't
cases_demands : (f : Cube) (p : ℕ × ℕ) → DemandsOther f p ⊎ (DemandsOther f p → ⊥)
cases_demands [] p = inr (λ other. absurd (omega (arith, other.1.1)))
cases_demands (q ∷ f) p = elim (cases_demands f p) [
  | inl behind ↦ inl (behind.0, tail_member q f (p.0, behind.0) behind.1, behind.2)
  | inr none ↦ elim (cases_eq q.0 p.0) [
    | inr elsewhere ↦ inr (λ other. elim (member_cases q f (p.0, other.0) other.1) [
      | inl head ↦ elsewhere (ap (λ (r : ℕ × ℕ). r.0) head)
      | inr behind ↦ none (other.0, behind, other.2)
    ])
    | inl there ↦ elim (cases_eq p.1 q.1) [
      | inl same ↦ inr (λ other. elim (member_cases q f (p.0, other.0) other.1) [
        | inl head ↦ other.2 (same ∙ ap (λ (r : ℕ × ℕ). r.1) head)
        | inr behind ↦ none (other.0, behind, other.2)
      ])
      | inr differ ↦
          let is : ◌≡◌ {A = ℕ × ℕ} q (p.0, q.1) = ap (λ (v : ℕ). (v, q.1)) there in
          inl (q.1, subst (Contains (q ∷ f)) is (head_member q f), differ)
    ]
  ]
]

-- two cubes exclude each other, or don't
pub cases_exclude : (e f : Cube) → Exclude e f ⊎ (Exclude e f → ⊥)
cases_exclude [] f = inr (λ (v, x, y, here, there, differ). absurd (omega (arith, here.1)))
cases_exclude (p ∷ e) f = elim (cases_demands f p) [
  | inl (y, there, differ) ↦ inl (p.0, p.1, y, head_member p e, there, differ)
  | inr agrees ↦ elim (cases_exclude e f) [
    | inl (v, x, y, here, there, differ) ↦ inl (v, x, y, tail_member p e (v, x) here, there, differ)
    | inr none ↦ inr (λ (v, x, y, here, there, differ). elim (member_cases p e (v, x) here) [
      | inl head ↦
          let variable : p.0 ≡ v = ap (λ (r : ℕ × ℕ). r.0) head in
          let value : p.1 ≡ x = ap (λ (r : ℕ × ℕ). r.1) head in
          agrees (y, subst (λ (w : ℕ). Contains f (w, y)) (sym variable) there, λ same. differ (sym value ∙ same))
      | inr behind ↦ none (v, x, y, behind, there, differ)
    ])
  ]
]
