-- The marks of a path: each variable of it has its place.
use Rattle.std.proofs.Common.{inl, inr, ◌≡◌, ℕ, ◌<◌, ◌≤◌, List, [], ◌∷◌, ◌++◌, length, get_or, set, refl, sym, ap, subst, ◌∙◌, arith, get_or-set_same, get_or-set_other, length-set}
use Rattle.std.proofs.lemmas.Bool.{cases_lt}
use Rattle.std.proofs.lemmas.List.{length_push}
use Rattle.pop_model.specs.Popping.{variables}
use Rattle.claim_words.specs.Maps.{Pairs, times_in}
use Rattle.claim_words.proofs.HeldLemmas.{nowhere, stands_in}
use Rattle.event_finders.specs.Trails.{IsTrail, IsKept}
use Rattle.event_finders.proofs.TrailLemmas.{last_variable, before_variable, variables_long, trail_push, trail_front}

-- a variable that doesn't stand where its mark says is not on the path
pub unmarked_off : (marks : List ℕ) (p : Pairs) (room : ℕ) → IsKept marks p room → (v : ℕ)
    → (get_or marks v 0 < length p → get_or (variables p) (get_or marks v 0) 0 ≡ v → ⊥)
    → times_in v (variables p) ≡ 0
unmarked_off marks p room is v none = nowhere v (variables p) (λ j h same.
    let less : j < length p = omega (arith, h, variables_long p) in
    let mark : get_or marks v 0 ≡ j = ap (λ (u : ℕ). get_or marks u 0) (sym same) ∙ is.marked j less in
    none (omega (arith, mark, less)) (ap (λ (i : ℕ). get_or (variables p) i 0) mark ∙ same))

-- a variable comes onto the path
module _ (marks : List ℕ) (p : Pairs) (room : ℕ) (is : IsKept marks p room) (s : ℕ × ℕ) (near : s.0 < length marks)
    (none : times_in s.0 (variables p) ≡ 0) where
  -- there are as many marks
  long : length (set marks s.0 (length p)) ≡ length marks
  long = length-set marks s.0 (length p)

  -- it gets its mark, and the others keep theirs
  marked_more : (j : ℕ) → j < length (p ++ s ∷ [])
      → get_or (set marks s.0 (length p)) (get_or (variables (p ++ s ∷ [])) j 0) 0 ≡ j
  marked_more j less = elim (cases_lt j (length p)) [
    | inl within ↦
        ap (λ (u : ℕ). get_or (set marks s.0 (length p)) u 0) (before_variable p s j within)
        ∙ get_or-set_other marks s.0 (get_or (variables p) j 0) (length p) 0 (λ is. absurd (omega
        (arith, none, stands_in s.0 (variables p) j 0 is (omega (arith, within, variables_long p)))))
        ∙ is.marked j within
    | inr last ↦
        let at : j ≡ length p = omega (arith, less, last, length_push p s) in
        ap (λ (u : ℕ). get_or (set marks s.0 (length p)) u 0) (last_variable p s j at)
        ∙ get_or-set_same marks s.0 (length p) 0 near ∙ sym at
  ]

  -- so the path has its marks
  pub pushed : (l : List ℕ) (q : Pairs) (more : ℕ) → l ≡ set marks s.0 (length p) → q ≡ p ++ s ∷ [] → room ≤ more
      → IsKept l q more
  pushed l q more l_is q_is roomy =
      let trail : IsTrail (length marks) (p ++ s ∷ []) = trail_push (length marks) p s is.trail near none in
      let kept : IsKept (set marks s.0 (length p)) (p ++ s ∷ []) more = record {
        trail = subst (λ (n : ℕ). IsTrail n (p ++ s ∷ [])) (sym long) trail;
        small = omega (arith, is.small, long);
        marked = marked_more;
        roomy = omega (arith, is.roomy, roomy, long);
      } in
      subst (λ (x : List ℕ). IsKept x q more) (sym l_is)
      (subst (λ (y : Pairs). IsKept (set marks s.0 (length p)) y more) (sym q_is) kept)

-- what stands last is taken off the path, and its mark stays
pub shrunk : (marks : List ℕ) (q : Pairs) (s : ℕ × ℕ) (room : ℕ) → IsKept marks (q ++ s ∷ []) room
    → IsKept marks q room
shrunk marks q s room is = record {
  trail = trail_front (length marks) (q ++ s ∷ []) q s refl is.trail;
  small = is.small;
  marked = λ j less. ap (λ (u : ℕ). get_or marks u 0) (sym (before_variable q s j less))
      ∙ is.marked j (omega (arith, less, length_push q s));
  roomy = is.roomy;
}
