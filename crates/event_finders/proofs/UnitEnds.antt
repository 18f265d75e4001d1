-- The result of a try at a unit, from what its claims showed.
use Rattle.std.proofs.Common.{◌≡◌, ◌≢◌, ◌⊎◌, ℕ, ◌+◌, ◌<◌, ◌≤◌, false, List, [], ◌∷◌, map, slice_get, Some, refl, sym, ap, ◌∙◌, subst, inl, inr, arith}
use Rattle.pop_model.specs.Stacks.{value_at, height_of}
use Rattle.pop_model.specs.Popping.{Cube, IsPoppable, cursor}
use Rattle.pop_model.specs.Families.{IsEvent}
use Rattle.pop_model.specs.Instances.{Instance}
use Rattle.claim_words.specs.declared.view.View.{View}
use Rattle.claim_words.specs.declared.opening.Opening.{Opening}
use Rattle.claim_words.specs.declared.claim.Claim.TheVariants.{Mine}
use Rattle.claim_words.specs.Maps.{Pairs, Each, In, look}
use Rattle.claim_words.specs.Steps.{Drawn}
use Rattle.claim_words.specs.Answers.{Takes}
use Rattle.claim_words.specs.Conditions.{IsReady, CanPop, RulesOut}
use Rattle.claim_words.specs.TicketLogs.{vector}
use Rattle.claim_words.specs.Tells.{NonePoppable}
use Rattle.claim_words.proofs.Totals.{each-map, each-both}
use Rattle.claim_words.proofs.Memberships.{none_in}
use Rattle.claim_words.proofs.SharersAreOwed.{one_cube, all_in}
use Rattle.event_finders.specs.Gains.{gained, Entered}
use Rattle.event_finders.specs.UnitConditions.{IsListedEvent}
use Rattle.event_finders.specs.UnitLooks.{found_at, HasClaimed, HasValue, HasMore, IsAtLast}
use Rattle.event_finders.proofs.WordsOnce.{Started, entered_all, mark_is}
use Rattle.event_finders.proofs.CubePrefixes.{in_at, each_named}

-- where two maps agree on the variables of a cube, they give it the same entries
same_entries : (h g : Pairs) (l : Cube) → Each (λ p. look p.0 h ≡ look p.0 g) l
    → map (λ p. look p.0 h) l ≡ map (λ p. look p.0 g) l
same_entries h g [] same = refl
same_entries h g (p ∷ ps) same =
    ap (λ (n : ℕ). n ∷ map (λ (q : ℕ × ℕ). look q.0 h) ps) same.0
    ∙ ap (λ (l : List ℕ). look p.0 g ∷ l) (same_entries h g ps same.1)

-- an event whose variables are held with their values, and have entries behind, may be popped
pub can_pop : (k : Opening) {i : Instance} (a e : View) {u : ℕ} {cube : Cube} → k.instance.value ≡ i
    → IsListedEvent i u cube → Each (HasValue i a e) cube → Each (HasMore i e) cube → CanPop k.instance.value e u cube
can_pop k {i = i} a e {u = u} {cube = cube} same event values more =
    let ready : Each (IsReady i e.held) cube =
    each-map (λ p. HasValue i a e p × HasMore i e p) (IsReady i e.held)
    (λ p h. let has = h.0.0 in (
      has.once,
      ap (value_at i.stacks p.0) has.held ∙ h.0.1,
      omega (arith, has.held, h.1),
    )) cube (each-both (HasValue i a e) (HasMore i e) cube values more) in
    subst (λ (x : Instance). CanPop x e u cube) (sym same) (record { event = event.event; ready = ready })

-- a variable that was claimed rules the event out, where its value is another or its entry the last
rules_out : (k : Opening) {i : Instance} {a e : View} {u : ℕ} {cube : Cube} (v x : ℕ) → k.instance.value ≡ i
    → IsListedEvent i u cube → In (v, x) cube → HasClaimed a e v
    → (value_at i.stacks v (found_at e v) ≢ x) ⊎ (height_of i.stacks v ≤ found_at e v + 1)
    → RulesOut k.instance.value e.held u v
rules_out k {i = i} {e = e} {u = u} {cube = cube} v x same event there has out =
    subst (λ (j : Instance). RulesOut j e.held u v) (sym same) (record {
      cube = cube;
      value = x;
      event = event.event;
      names_it = there;
      out = subst (λ (c : ℕ). (value_at i.stacks v c ≢ x) ⊎ (height_of i.stacks v ≤ c + 1)) (sym has.held) out;
    })

-- at a pair with another value
pub differs_out : (k : Opening) {i : Instance} {a e : View} {u : ℕ} {cube : Cube} (j : ℕ) {c : ℕ} (p : ℕ × ℕ)
    → k.instance.value ≡ i → IsListedEvent i u cube → slice_get cube j ≡ Some p → HasClaimed a e p.0
    → found_at e p.0 ≡ c → value_at i.stacks p.0 c ≢ p.1 → RulesOut k.instance.value e.held u p.0
differs_out k {i = i} {cube = cube} j p same event at has found differs =
    rules_out k p.0 p.1 same event (in_at cube j p at) has
    (inl (λ is. differs (ap (value_at i.stacks p.0) (sym found) ∙ is)))

-- at a variable at its last entry
pub last_out : (k : Opening) {i : Instance} (a e : View) {u : ℕ} {cube : Cube} {v : ℕ} → k.instance.value ≡ i
    → IsListedEvent i u cube → Each (HasValue i a e) cube → IsAtLast i e cube v
    → RulesOut k.instance.value e.held u v
last_out k {i = i} a e {cube = cube} {v = v} same event values last =
    let t = each_named (HasValue i a e) cube v values last.0 in
    rules_out k v t.0 same event t.1 t.2.0 (inr (omega (arith, last.1)))

module _ {k : Opening} {i : Instance} {d a e : View} {u : ℕ} {cube : Cube} {n m : ℕ}
    (s : Started k i d a e u cube n m) where
  -- the event occurs where it was claimed, by claims of this call
  pub all_found : (f : View) → f.seen ≡ e.seen → Each (HasValue i a e) cube
      → Each (λ p. Entered (gained d f) p.0 (Mine (found_at e p.0))) cube
      × Each (λ p. value_at i.stacks p.0 (found_at e p.0) ≡ p.1) cube
  all_found f seen values = (
    each-map (HasValue i a e) (λ p. Entered (gained d f) p.0 (Mine (found_at e p.0)))
        (λ p h. entered_all s f seen p.0 (Mine (found_at e p.0)) h.0.claimed) cube values,
    each-map (HasValue i a e) (λ p. value_at i.stacks p.0 (found_at e p.0) ≡ p.1) (λ p h. h.1) cube values,
  )

  -- what is held is at the cursors that were found
  pub held_found : Each (HasValue i a e) cube → map (λ p. look p.0 e.held) cube ≡ map (λ p. look p.0 e.found) cube
  held_found values = same_entries e.held e.found cube
      (each-map (HasValue i a e) (λ p. look p.0 e.held ≡ look p.0 e.found) (λ p h. h.0.held) cube values)

  -- where the event is poppable at the vector of a sole pass, it is so at a variable that was claimed
  pub at_found : (p : ℕ × ℕ) → In p cube → HasClaimed a e p.0 → e.share ≡ 64 → (other : Cube)
      → IsEvent k.instance.value.family (record { unit = u; cube = other })
      → IsPoppable k.instance.value.stacks (vector k e.mine) other
      → (value_at i.stacks p.0 (found_at e p.0) ≡ p.1) × (found_at e p.0 + 1 < height_of i.stacks p.0)
  at_found p there has sole other is poppable =
      let c : List ℕ = vector k e.mine in
      let only : other ≡ cube = one_cube i.family u other cube s.event.known
      (subst (λ (x : Instance). IsEvent x.family (record { unit = u; cube = other })) s.same is) s.event.event in
      let now : IsPoppable i.stacks c cube = subst (λ (x : Instance). IsPoppable x.stacks c cube) s.same
      (subst (IsPoppable k.instance.value.stacks c) only poppable) in
      let at : found_at e p.0 ≡ cursor c p.0 =
      has.vector k (ap (λ (x : View). x.opening) s.took ∙ s.live) (sym s.first.same.share ∙ sole)
      ∙ ap (λ (m : List Drawn). cursor (vector k m) p.0) (sym s.first.same.mine) in (
        ap (value_at i.stacks p.0) at
            ∙ all_in (λ (q : ℕ × ℕ). value_at i.stacks q.0 (cursor c q.0) ≡ q.1) cube now.occurs p there,
        omega (
          arith,
          at,
          all_in (λ (q : ℕ × ℕ). cursor c q.0 + 1 < height_of i.stacks q.0) cube now.next p there,
        ),
      )

-- where an idle sole pass finds no mark, the event isn't poppable
pub idle_sole : (k : Opening) (d r e : View) (u : ℕ) → r ≡ d → Takes r u e false → d.opening ≡ Some k → d.taken ≡ []
    → d.owed ≡ [] → e.share ≡ 64 → NonePoppable k e u
idle_sole k d r e u room took live taken owed sole other is poppable =
    let share : r.share ≡ 64 = sym (ap (λ (x : View). x.share) took.1) ∙ sole in
    let told = took.4 k (ap (λ (x : View). x.opening) room ∙ live) share in
    let none : NonePoppable k r u = told.1 (mark_is took.0 took.2 false took.3)
    (none_in u r.taken (ap (λ (x : View). x.taken) room ∙ taken))
    (none_in u r.owed (ap (λ (x : View). x.owed) room ∙ owed)) in
    none other is (subst (λ (m : List Drawn). IsPoppable k.instance.value.stacks (vector k m) other)
    (ap (λ (x : View). x.mine) took.1) poppable)
