-- The state of a walk after the pop of a loop that its path closed: on the path up to the variable at which it closed,
-- with a cursor that moved on.
use Rattle.std.proofs.Common.{◌≡◌, ℕ, suc, ◌+◌, ◌<◌, List, [], ◌∷◌, ◌++◌, length, take, get_or, sym, ap, subst, ◌∙◌, arith}
use Rattle.std.proofs.lemmas.List.{get_or-take, length-take, length_push, take_more}
use Rattle.pop_model.specs.Popping.{variables}
use Rattle.claim_words.specs.Maps.{Pairs}
use Rattle.claim_words.specs.declared.opening.Opening.{Opening}
use Rattle.claim_words.specs.declared.view.View.{View}
use Rattle.claim_words.proofs.HeldLemmas.{variables-push}
use Rattle.event_finders.specs.Trails.{Trail, IsTrail, stand, last_of, Goes, Led, Stands}
use Rattle.event_finders.specs.WalkSteps.{PopsLoop}
use Rattle.event_finders.proofs.TrailLemmas.{variables_take, stand_variable}
use Rattle.event_finders.proofs.TrailArrows.{led_push, led_take, next_at, goes_to}
use Rattle.event_finders.proofs.HeldEnds.{released_to}
use Rattle.event_finders.proofs.TrailReleases.{cut}

-- the path up to a place, once the cursor there moved on
abbrev pub moved_on : Pairs → ℕ → Pairs
moved_on path place = take place path ++ ((stand path place).0, (stand path place).1 + 1) ∷ []

-- the walk stands on the path up to the place, from which it goes on
pub record WalksOn (k : Opening) (f : View) (t u : Trail) (place : ℕ) : Type 0 where
  pub is : u ≡ record t { path = moved_on t.path place }
  pub stands : Stands k f u
  pub long : length u.path ≡ length (take (place + 1) t.path)
  pub begins : get_or (variables u.path) 0 0 ≡ get_or (variables t.path) 0 0

module _ {k : Opening} {d e f : View} {b t w u : Trail} {place ticket v : ℕ} (is : Stands k d t)
    (within : place < length t.path) (closes : Goes k (last_of t.path) v) (p : PopsLoop k d e t.path place ticket)
    (b_is : b ≡ t) (w_is : w ≡ cut (place + 1) b)
    (moves : (r : Pairs) (y : ℕ × ℕ) → w.path ≡ r ++ y ∷ [] → u ≡ record w { path = r ++ (y.0, y.1 + 1) ∷ [] })
    (f_is : f ≡ released_to (place + 1) e) (trail : IsTrail u.count u.path) where
  -- the variable where the loop closed, and its cursor before the pop
  abbrev s : ℕ × ℕ
  s = stand t.path place

  -- and after it
  abbrev x : ℕ × ℕ
  x = (s.0, s.1 + 1)

  -- the path before it
  abbrev q : Pairs
  q = take place t.path

  -- the part of the path that stays
  left : take (place + 1) t.path ≡ q ++ s ∷ []
  left = take_more t.path place (0, 0) within

  -- the arrows lead along the path up to it
  led_left : Led k (moved_on t.path place)
  led_left = led_push k q x (led_take k place t.path is.led)
      (record { near = (is.led.at place within).near; low = next_at k t.path v is.led closes place within })
      (λ j h. let less : suc j ≡ place = omega (arith, h, length-take place t.path, within) in
      goes_to k _ _ _ _ (sym (get_or-take place t.path j (0, 0) (omega (arith, less))))
      (ap (λ (i : ℕ). get_or (variables t.path) i 0) less ∙ sym (stand_variable t.path place))
      (is.led.on j (omega (arith, less, within))))

  -- the walker's path once the rest is released and the last cursor moved on
  path_on : u ≡ record t { path = moved_on t.path place }
  path_on =
      let there : w ≡ record t { path = q ++ s ∷ [] } =
      w_is ∙ ap (cut (place + 1)) b_is ∙ ap (λ (l : Pairs). record t { path = l }) left in
      moves q s (ap (λ (y : Trail). y.path) there) ∙ ap (λ (y : Trail). record y { path = q ++ x ∷ [] }) there

  -- where the walk goes on
  pub goes_on : WalksOn k f t u place
  goes_on = record {
    is = path_on;
    stands = record {
      held = ap (λ (y : View). y.held) f_is ∙ p.left ∙ ap (λ (y : Trail). y.path) (sym path_on);
      taken = ap (λ (y : View). y.taken) f_is ∙ p.stays.taken ∙ is.taken;
      owed = ap (λ (y : View). y.owed) f_is ∙ p.stays.owed ∙ is.owed;
      led = subst (λ (y : Trail). Led k y.path) (sym path_on) led_left;
      trail = trail;
      counts = ap (λ (y : Trail). y.count) path_on ∙ is.counts;
    };
    long = omega (
      arith,
      ap (λ (y : Trail). length y.path) path_on,
      length_push q x,
      ap length left,
      length_push q s,
    );
    begins =
        ap (λ (y : Trail). get_or (variables y.path) 0 0) path_on
        ∙ ap (λ (l : List ℕ). get_or l 0 0)
        (variables-push q x ∙ sym (variables-push q s) ∙ ap variables (sym left) ∙ variables_take (place + 1) t.path)
        ∙ get_or-take (place + 1) (variables t.path) 0 0 (omega arith);
  }
