-- The lowest variable at its last entry, among the first variables of a cube. As the variables increase, the first
-- that is found stays the lowest.
use Rattle.std.proofs.Common.{◌≡◌, ◌⊎◌, ℕ, ◌+◌, ◌<◌, ◌^◌, true, [], ◌∷◌, ◌++◌, take, Some, None, Option, MatchOption, sym, ap, ◌∙◌, subst, inl, inr, ⊎_elim, arith}
use Rattle.std.specs.Option.{option_or}
use Rattle.pop_model.specs.Stacks.{height_of}
use Rattle.pop_model.specs.Popping.{Cube, names}
use Rattle.pop_model.specs.Instances.{Instance}
use Rattle.pop_model.specs.Places.{IsLeast}
use Rattle.claim_words.specs.declared.view.View.{View}
use Rattle.claim_words.specs.Words.{cursor_in}
use Rattle.claim_words.specs.Maps.{Each}
use Rattle.claim_words.proofs.Totals.{each-map, each-append, each-both}
use Rattle.event_finders.specs.UnitLooks.{found_at, HasValue, HasMore, IsAtLast}
use Rattle.event_finders.proofs.CubePrefixes.{each_named, take_push, before_place, named_in, names_front, names_last, names_back}
use Rattle.event_finders.proofs.UnitClaimsGrow.{NextClaim, found_here, found_other, other_held, still_more}

-- the least variable of the cube at its last entry, with its cursor; none where each has an entry behind
abbrev pub LastSo : Instance → View → Cube → Option (ℕ × ℕ) → Type 0
LastSo i e cube None = Each (HasMore i e) cube
LastSo i e cube (Some r) = IsLeast (IsAtLast i e cube) r.0 × (found_at e r.0 ≡ r.1)

-- what one variable adds: whether its cursor is its last entry
abbrev pub LastHere : Instance → ℕ → ℕ → Option (ℕ × ℕ) → Type 0
LastHere i v c last =
    MatchOption last (c + 1 < height_of i.stacks v) (λ r. (r ≡ (v, c)) × (c + 1 ≡ height_of i.stacks v))

-- a variable that has an entry behind isn't at its last one
more_not_last : (i : Instance) (e : View) (l : Cube) (v : ℕ) → Each (HasMore i e) l → IsAtLast i e l v → ⊥
more_not_last i e l v more last =
    let t = each_named (HasMore i e) l v more last.0 in let here : HasMore i e (v, t.0) = t.2 in
    omega (arith, here, last.1)

module _ {d m e : View} {cube : Cube} {n : ℕ} {p : ℕ × ℕ} {w : ℕ} (s : NextClaim d m e cube n p w) (i : Instance)
    (free : w < 2 ^ 63) (values : Each (HasValue i d m) (take n cube)) where
  -- the first pairs
  abbrev front : Cube
  front = take n cube

  -- the cursor of the next variable
  here : found_at e p.0 ≡ cursor_in w
  here = found_here s free

  -- a variable of the first pairs keeps the cursor that was found
  same_front : (v : ℕ) → names front v ≡ true → found_at e v ≡ found_at m v
  same_front v named =
      found_other s free v (other_held s free v (each_named (HasValue i d m) front v values named).2.0.once)

  -- a variable at its last entry is the next, or was so before
  last_back : (v : ℕ) → IsAtLast i e (front ++ p ∷ []) v → IsAtLast i m front v ⊎ (p.0 ≡ v)
  last_back v last = ⊎_elim
      (λ (named : names front v ≡ true). inl (named, omega (arith, same_front v named, last.1)))
      (λ (same : p.0 ≡ v). inr same) (names_back front p v last.0)

  -- the entries behind those before
  more_front : Each (HasMore i m) front → Each (HasMore i e) front
  more_front more = each-map (λ q. HasValue i d m q × HasMore i m q) (HasMore i e)
      (still_more s free i) front
      (each-both (HasValue i d m) (HasMore i m) front values more)

  -- what is known of the first pairs and one more
  last_push : (old new : Option (ℕ × ℕ)) → LastSo i m front old → LastHere i p.0 (cursor_in w) new
      → LastSo i e (front ++ p ∷ []) (option_or old new)
  last_push None None so more =
      let next : HasMore i e p = omega (arith, here, more) in
      each-append (HasMore i e) front (p ∷ []) (more_front so) (next, tt)
  last_push None (Some r) so last =
      let v : r.0 ≡ p.0 = ap (λ (q : ℕ × ℕ). q.0) last.0 in
      let c : r.1 ≡ cursor_in w = ap (λ (q : ℕ × ℕ). q.1) last.0 in
      let least : IsLeast (IsAtLast i e (front ++ p ∷ [])) p.0 = record {
        holds = (names_last front p, omega (arith, here, last.1));
        none_before = λ u less now. ⊎_elim (λ (before : IsAtLast i m front u). more_not_last i m front u so before)
            (λ (same : p.0 ≡ u). absurd (omega (arith, less, same))) (last_back u now);
      } in
      (subst (IsLeast (IsAtLast i e (front ++ p ∷ []))) (sym v) least, ap (found_at e) v ∙ here ∙ sym c)
  last_push (Some r) new so other =
      let named : names front r.0 ≡ true = so.0.holds.0 in
      let t = named_in front r.0 named in
      let below : r.0 < p.0 = before_place cube n p (r.0, t.0) s.is.rising s.at t.1 in
      let found : found_at e r.0 ≡ found_at m r.0 = same_front r.0 named in
      let least : IsLeast (IsAtLast i e (front ++ p ∷ [])) r.0 = record {
        holds = (names_front front p r.0 named, omega (arith, found, so.0.holds.1));
        none_before = λ u less now. ⊎_elim (λ (before : IsAtLast i m front u). so.0.none_before u less before)
            (λ (same : p.0 ≡ u). absurd (omega (arith, less, same, below))) (last_back u now);
      } in
      (least, found ∙ so.1)

  -- the same by places
  pub last_next : (old new : Option (ℕ × ℕ)) → LastSo i m (take n cube) old → LastHere i p.0 (cursor_in w) new
      → LastSo i e (take (n + 1) cube) (option_or old new)
  last_next old new so here =
      subst (λ (l : Cube). LastSo i e l (option_or old new)) (sym (take_push cube n p s.at)) (last_push old new so here)
