-- A pass gives back, or settles, what it claimed last. From a list of variables it then holds the first ones, up to a
-- place n. Before that it held one more.
use Rattle.std.proofs.Common.{◌≡◌, ℕ, ◌+◌, ◌<◌, ◌≤◌, List, [], ◌∷◌, ◌++◌, length, take, take_all, get_or, slice_get, Some, sym, ap, ◌∙◌, arith}
use Rattle.std.proofs.lemmas.List.{take_more, get_or-take, length-take}
use Rattle.std.proofs.lemmas.Option.{slice_get_within, get_or_from_slice_get}
use Rattle.pop_model.specs.Popping.{Cube, IsCube, variables}
use Rattle.claim_words.specs.Maps.{Pairs, times, times_in, is_at, look, without}
use Rattle.claim_words.specs.Steps.{released_by}
use Rattle.claim_words.specs.declared.view.View.{View}
use Rattle.claim_words.proofs.Totals.{total-append, is_at-yes, without-hit, without-miss}
use Rattle.claim_words.proofs.HeldLemmas.{once, times-variables}
use Rattle.claim_words.proofs.Callers.{look_end}
use Rattle.event_finders.proofs.CubePrefixes.{times-split}
use Rattle.event_finders.proofs.TrailLemmas.{variables_long, variables_take, stand_variable}

-- a map without its last variable, which stands nowhere else
without_end : (v : ℕ) (l : Pairs) (s : ℕ × ℕ) → s.0 ≡ v → times v l ≡ 0 → without v (l ++ s ∷ []) ≡ l
without_end v [] s is none = without-hit v s [] is
without_end v (p ∷ l) s is none =
    without-miss v p (l ++ s ∷ []) (λ same. absurd (omega (arith, none, is_at-yes v p same)))
    ∙ ap (λ (x : Pairs). p ∷ x) (without_end v l s is (omega (arith, none)))

-- h is what was held, for the variables of p, and v that of place n, which stands nowhere before
module _ (h p : Pairs) (tied : variables h ≡ variables p) (n v : ℕ) (within : n < length p)
    (here : (get_or p n (0, 0)).0 ≡ v) (only : times v (take (n + 1) p) ≤ 1) where
  -- what is held last
  abbrev s : ℕ × ℕ
  s = get_or h n (0, 0)

  -- it is v
  s_is : s.0 ≡ v
  s_is = stand_variable h n ∙ ap (λ (l : List ℕ). get_or l n 0) tied ∙ sym (stand_variable p n) ∙ here

  -- it stands behind the first ones
  parts : take (n + 1) h ≡ take n h ++ s ∷ []
  parts = take_more h n (0, 0) (omega (arith, within, variables_long h, variables_long p, ap length tied))

  -- how often v is held
  many : times v (take (n + 1) h) ≡ times v (take n h) + 1
  many = omega (arith, ap (times v) parts, total-append (is_at v) (take n h) (s ∷ []), is_at-yes v s s_is)

  -- it is held once
  pub last_once : times v (take (n + 1) h) ≡ 1
  last_once =
      let same : variables (take (n + 1) h) ≡ variables (take (n + 1) p) =
      variables_take (n + 1) h ∙ ap (take (n + 1)) tied ∙ sym (variables_take (n + 1) p) in
      omega (
        arith,
        many,
        only,
        sym (times-variables v (take (n + 1) h)) ∙ ap (times_in v) same ∙ times-variables v (take (n + 1) p),
      )

  -- and not before
  none : times v (take n h) ≡ 0
  none = omega (arith, many, last_once)

  -- without it the first ones are left
  pub last_out : without v (take (n + 1) h) ≡ take n h
  last_out = ap (without v) parts ∙ without_end v (take n h) s s_is none

  -- its cursor
  pub last_look : look v (take (n + 1) h) ≡ s.1
  last_look =
      ap (look v) parts ∙ ap (λ (u : ℕ). look v (take n h ++ (u, s.1) ∷ [])) s_is ∙ look_end v s.1 (take n h) none

  -- the pair of its settling
  pub last_pair : ◌≡◌ {A = ℕ × ℕ} (v, look v (take (n + 1) h)) s
  last_pair = ap (λ (c : ℕ). (v, c)) last_look ∙ ap (λ (u : ℕ). (u, s.1)) (sym s_is)

-- the view once all but the first n of what was held were released
abbrev pub released_to : ℕ → View → View
released_to n d = record d { held = take n d.held }

-- all are there
pub released_none : (d : View) (n : ℕ) → length d.held ≤ n → d ≡ released_to n d
released_none d n all = ap (λ (l : Pairs). record d { held = l }) (sym (take_all n d.held all))

-- one more is released
pub released_next : (d e f : View) (p : Pairs) (tied : variables d.held ≡ variables p) (n m v : ℕ)
    (within : n < length p) (here : (get_or p n (0, 0)).0 ≡ v) (only : times v (take (n + 1) p) ≤ 1) → m ≡ n + 1
    → e ≡ released_to m d → f ≡ released_by e v → (times v e.held ≡ 1) × (f ≡ released_to n d)
released_next d e f p tied n m v within here only is was to =
    let now : e ≡ released_to (n + 1) d = was ∙ ap (λ (j : ℕ). released_to j d) is in (
      ap (λ (x : View). times v x.held) now ∙ last_once d.held p tied n v within here only,
      to ∙ ap (λ (x : View). released_by x v) now
          ∙ ap (λ (l : Pairs). record d { held = l }) (last_out d.held p tied n v within here only),
    )

-- the pair at place j is the last of those that are held: its variable is, and is given back
pub unit_next : (cube : Cube) (is : IsCube cube) (n j m : ℕ) (p : ℕ × ℕ) (d e f : View)
    → variables d.held ≡ variables (take n cube) → j < n → m ≡ j + 1 → slice_get cube j ≡ Some p
    → e ≡ released_to m d → f ≡ released_by e p.0 → (times p.0 e.held ≡ 1) × (f ≡ released_to j d)
unit_next cube is n j m p d e f tied low long at was to =
    let within : j < length (take n cube) = omega (arith, low, length-take n cube, slice_get_within cube j p at) in
    let here : (get_or (take n cube) j (0, 0)).0 ≡ p.0 = ap (λ (q : ℕ × ℕ). q.0)
    (get_or-take n cube j (0, 0) low ∙ get_or_from_slice_get cube j p (0, 0) at) in
    let only : times p.0 (take (j + 1) (take n cube)) ≤ 1 = omega
    (arith, times-split p.0 (j + 1) (take n cube), times-split p.0 n cube, once cube is.rising p.0) in
    released_next d e f (take n cube) tied j m p.0 within here only long was to
