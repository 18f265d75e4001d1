-- Walks with a path that is released or settled from its end: which part of it is left. The last variable may then be
-- settled, since its arrow leads to a variable that was settled before.
use Rattle.std.proofs.Common.{inl, inr, ◌≡◌, ℕ, suc, ◌+◌, ◌-◌, ◌<◌, ◌≤◌, [], ◌∷◌, ◌++◌, length, take, drop, take_all, get_or, refl, Some, sym, ap, subst, ◌∙◌, arith}
use Rattle.std.proofs.lemmas.Bool.{cases_lt}
use Rattle.std.proofs.lemmas.List.{take_at, take-take, drop_all, drop_more, get_or-take, get_or_push, length_push, length-take}
use Rattle.pop_model.specs.Popping.{variables}
use Rattle.claim_words.specs.Maps.{Pairs, times, times_in, look}
use Rattle.claim_words.specs.Openings.{head_at}
use Rattle.claim_words.specs.Conditions.{MaySettle, known}
use Rattle.claim_words.specs.Steps.{released_by, settled_by}
use Rattle.claim_words.specs.declared.opening.Opening.{Opening}
use Rattle.claim_words.specs.declared.view.View.{View}
use Rattle.claim_words.proofs.Totals.{is_at-yes}
use Rattle.claim_words.proofs.HeldLemmas.{times-variables}
use Rattle.event_finders.specs.Trails.{Trail, IsTrail, Goes, Stands}
use Rattle.event_finders.proofs.TrailLemmas.{variables_long, stand_variable}
use Rattle.event_finders.proofs.HeldEnds.{last_once, last_out, last_look, last_pair, released_to, released_next}

-- the walk whose path is the first part of that of another
abbrev pub cut : ℕ → Trail → Trail
cut n t = record t { path = take n t.path }

-- all of it is there
pub cut_none : (t : Trail) → t ≡ cut (length t.path) t
cut_none t = ap (λ (p : Pairs). record t { path = p }) (sym (take_all (length t.path) t.path (omega arith)))

-- the view once all but the first n of what was held were settled
abbrev pub settled_to : ℕ → View → View
settled_to n d = record d { held = take n d.held; settled = drop n d.held ++ d.settled }

-- none was
pub settled_none : (d : View) (n : ℕ) → length d.held ≤ n → d ≡ settled_to n d
settled_none d n all = sym
    (ap (λ (l : Pairs). record d { held = l; settled = drop n d.held ++ d.settled }) (take_all n d.held all)
    ∙ ap (λ (l : Pairs). record d { settled = l ++ d.settled }) (drop_all n d.held all))

-- what stands last on a part of the path, which is held, is taken off
module _ (d : View) (old t u : Trail) (s : ℕ × ℕ) (tied : variables d.held ≡ variables old.path)
    (is : t ≡ cut (length t.path) old) (path : t.path ≡ u.path ++ s ∷ []) (counts : u.count ≡ t.count)
    (trail : IsTrail t.count t.path) where
  -- how much of the path is left
  abbrev n : ℕ
  n = length u.path

  -- it was one more
  long : length t.path ≡ n + 1
  long = ap length path ∙ length_push u.path s

  -- the part before
  part : t.path ≡ take (n + 1) old.path
  part = ap (λ (x : Trail). x.path) is ∙ ap (λ (m : ℕ). take m old.path) long

  -- the rest is the first part of the path, too
  pub cut_next : u ≡ cut n old
  cut_next =
      ap (λ (p : Pairs). record u { path = p }) (sym (take_at u.path (s ∷ []) n refl) ∙ ap (take n) (sym path ∙ part)
      ∙ take-take n (n + 1) old.path (omega arith))
      ∙ ap (λ (c : ℕ). record { count = c; path = take n old.path }) (counts ∙ ap (λ (x : Trail). x.count) is)

  -- there is its place
  within : n < length old.path
  within = omega (arith, ap length part, long, length-take (n + 1) old.path)

  -- where it stands
  here : (get_or old.path n (0, 0)).0 ≡ s.0
  here = ap (λ (x : ℕ × ℕ). x.0) (sym (get_or-take (n + 1) old.path n (0, 0) (omega arith))
      ∙ ap (λ (p : Pairs). get_or p n (0, 0)) (sym part ∙ path) ∙ get_or_push u.path s (0, 0) n refl)

  -- and nowhere else
  only : times s.0 (take (n + 1) old.path) ≤ 1
  only = omega (
    arith,
    trail.once s.0,
    ap (λ (p : Pairs). times_in s.0 (variables p)) part,
    times-variables s.0 (take (n + 1) old.path),
  )

  -- it is held once
  pub cut_once : (e : View) → e.held ≡ take (length t.path) d.held → times s.0 e.held ≡ 1
  cut_once e held = ap (times s.0) (held ∙ ap (λ (m : ℕ). take m d.held) long)
      ∙ last_once d.held old.path tied n s.0 within here only

  -- it is released
  pub cut_released : (e f : View) → e ≡ released_to (length t.path) d → f ≡ released_by e s.0 → f ≡ released_to n d
  cut_released e f was to = (released_next d e f old.path tied n (length t.path) s.0 within here only long was to).1

  -- it is settled
  pub cut_settled : (e f : View) → e ≡ settled_to (length t.path) d → f ≡ settled_by e s.0 → f ≡ settled_to n d
  cut_settled e f was to =
      let rest : Pairs = drop (n + 1) d.held ++ d.settled in
      let less : n < length d.held = omega
      (arith, within, ap length tied, variables_long d.held, variables_long old.path) in
      to ∙ ap (λ (x : View). settled_by x s.0) (was ∙ ap (λ (m : ℕ). settled_to m d) long)
      ∙ ap (λ (l : Pairs). record d { held = l; settled = (s.0, look s.0 (take (n + 1) d.held)) ∷ rest })
      (last_out d.held old.path tied n s.0 within here only)
      ∙ ap (λ (x : ℕ × ℕ). record d { held = take n d.held; settled = x ∷ rest })
      (last_pair d.held old.path tied n s.0 within here only)
      ∙ ap (λ (l : Pairs). record d { held = take n d.held; settled = l ++ d.settled })
      (sym (drop_more d.held n (0, 0) less))

  -- which it may be
  pub cut_may : (k : Opening) (e : View) → Stands k d old → MaySettle k d (get_or old.path (length old.path - 1) (0, 0)).0
      → e ≡ settled_to (length t.path) d → MaySettle k e s.0
  cut_may k e stands may was =
      let now : e ≡ settled_to (n + 1) d = was ∙ ap (λ (m : ℕ). settled_to m d) long in
      elim (cases_lt (n + 1) (length old.path)) [
        | inl inner ↦
            let u : ℕ = get_or (variables old.path) (n + 1) 0 in
            let next : suc n ≡ n + 1 = omega arith in
            let goes : Goes k (get_or old.path n (0, 0)) u =
            subst (λ (m : ℕ). Goes k (get_or old.path n (0, 0)) (get_or (variables old.path) m 0)) next
            (stands.led.on n (omega (arith, inner))) in
            let found : look s.0 (take (n + 1) d.held) ≡ (get_or old.path n (0, 0)).1 =
            last_look d.held old.path tied n s.0 within here only
            ∙ ap (λ (p : Pairs). (get_or p n (0, 0)).1) stands.held in
            let head : head_at k s.0 (look s.0 (take (n + 1) d.held)) ≡ Some u =
            ap (head_at k s.0) found ∙ ap (λ (v : ℕ). head_at k v (get_or old.path n (0, 0)).1) (sym here)
            ∙ goes.head in
            subst (λ (x : View). MaySettle k x s.0) (sym now) (known u head (omega (
              arith,
              ap (λ (p : Pairs). times u (drop (n + 1) p ++ d.settled)) stands.held,
              ap (λ (p : Pairs). times u (p ++ d.settled)) (drop_more old.path (n + 1) (0, 0) inner),
              is_at-yes u (get_or old.path (n + 1) (0, 0)) (stand_variable old.path (n + 1)),
            )))
        | inr end ↦
            let same : e ≡ d = now ∙ sym (settled_none d (n + 1) (omega (arith, end, ap length stands.held))) in
            let last : length old.path - 1 ≡ n = omega (arith, end, within) in
            subst (λ (x : View). MaySettle k x s.0) (sym same)
            (subst (MaySettle k d) (ap (λ (j : ℕ). (get_or old.path j (0, 0)).0) last ∙ here) may)
      ]
