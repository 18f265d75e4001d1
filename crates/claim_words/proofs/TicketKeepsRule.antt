-- A ticket preserves the rule, and what it shows holds.
--
-- The entries that the new record uses are the held cursors, which are the abstract cursors of the event's variables.
-- These rise by 1, since their advances are due from now on. So each entry is used once, in the order of the tickets.
use Rattle.std.proofs.Common.{◌≡◌, ℕ, suc, ◌+◌, ◌%◌, ◌^◌, ◌<◌, ◌≤◌, ◌≢◌, ◌⊎◌, List, [], ◌∷◌, length, get_or, set, sym, refl, ap, ◌∙◌, subst, inl, inr, ⊎_elim, arith, get_or-set_same, get_or-set_other, Option, Some, map}
use Rattle.claim_words.specs.Plays.{TicketTold}
use Rattle.std.proofs.lemmas.Bool.Decides.{nat_tests}
use mathlib.Core.Logic.{dite}
use native.Mathlib.Decide.{ℕ_discrete}
use mathlib.Core.Option.{some}
use lib.ListN.{get_elem?}
use Rattle.std.proofs.lemmas.List.{length-map}
use Rattle.atomic_table.specs.Table.{State, Me, keeps, Allows}
use Rattle.atomic_table.proofs.Lists.{set_here}
use Rattle.std.proofs.lemmas.Option.{same_Some}
use Rattle.pop_model.specs.Popping.{Cube, IsCube}
use Rattle.pop_model.specs.Families.{IsEvent}
use Rattle.claim_words.specs.declared.view.View.{View}
use Rattle.claim_words.specs.declared.opening.Opening.{Opening}
use Rattle.claim_words.specs.Maps.{total, Each, In, below, Pairs, times, look}
use Rattle.claim_words.specs.Openings.{count, height, Has, begun, marks}
use Rattle.claim_words.specs.Steps.{Drawn, record_held, sharers, drawn_by}
use Rattle.claim_words.specs.Conditions.{IsReady, CanPop}
use Rattle.claim_words.specs.Machine.{Use, uses_of, uses, used, IsPopped, Agrees, abstract, Member, History, Tracks, Marked, Sound}
use Rattle.claim_words.proofs.SumsBelow.{below-less, below-bound}
use Rattle.claim_words.proofs.Memberships.{in_append, in_one, in_left, in_right, in_taken_out, each_taken_out, each-in, each-find}
use Rattle.claim_words.proofs.Histories.{marks_stay, tracks_set, member_set, ticket_low, entry_low}
use Rattle.claim_words.proofs.SharersAreOwed.{Meets, covers, shared_in}
use Rattle.claim_words.proofs.Totals.{inside, total-append, total-set, total-same, times-none, is_at-yes}
use Rattle.claim_words.proofs.WordMoves.{Moved, none_moves, level, agree_here, framed, share_kept, held_word, knows_after}
use Rattle.claim_words.proofs.HeldLemmas.{once}

-- what a record of these held cursors uses
abbrev made_of : Pairs → Pairs → List Use
made_of cube held = uses_of cube (map (λ p. look p.0 held) cube)

-- the record uses no entry of a variable that its event doesn't have
used-none : (f : ℕ → ℕ) (v : ℕ) (cube held : Pairs) → times v cube ≡ 0 → used f v (made_of cube held) ≡ 0
used-none f v [] held z = refl
used-none f v (p ∷ ps) held z = grind (arith, nat_tests, used-none f v ps held)

-- of a variable that its event has once it uses the held cursor
used-once : (f : ℕ → ℕ) (v : ℕ) (cube held : Pairs) → times v cube ≡ 1
    → used f v (made_of cube held) ≡ f (look v held)
used-once f v [] held z = absurd (omega arith)
used-once f v (p ∷ ps) held z = grind (arith, nat_tests, used-none f v ps held, used-once f v ps held)

-- the use has its value, is not the last of its variable, and is the held cursor of a pair
abbrev IsMade : Opening → Pairs → Pairs → Use → Type 0
IsMade k cube held e =
    Has k e.0 e.2 e.1 × (e.2 + 1 < height k e.0) × (e.2 ≡ look e.0 held) × (1 ≤ times e.0 cube)

-- each use of the record is so
made : (k : Opening) (cube held : Pairs) (e : Use) → Each (IsReady k.instance.value held) cube
    → In e (made_of cube held) → IsMade k cube held e
made k [] held e all i = absurd i
made k (p ∷ ps) held e all i = ⊎_elim
    (λ (is : (p.0, p.1, look p.0 held) ≡ e). subst (IsMade k (p ∷ ps) held) is
    (all.0.1, all.0.2, refl, omega (arith, is_at-yes p.0 p refl)))
    (λ (n : In e (made_of ps held)). let t = made k ps held e all.1 n in (t.0, t.1, t.2, omega (arith, t.3)))
    i

-- a cube has a pair
first : (P : ℕ × ℕ → Type 0) (cube : Pairs) → 1 ≤ length cube → Each P cube
    → (p : ℕ × ℕ) × P p × (1 ≤ times p.0 cube)
first P [] h all = absurd (omega arith)
first P (p ∷ ps) h all = (p, all.0, omega (arith, is_at-yes p.0 p refl))

module _ {S : Type 0} (k : Opening) (s : State S View) (o : Sound k s) (id : ℕ) (d : View)
    (me : get_elem? s.views id ≡ some d) (live : d.opening ≡ Some k) (clear : length d.due ≡ 0) (u : ℕ)
    (cube : Cube) (is_cube : IsCube cube) (can : CanPop k.instance.value d u cube) where
  -- the ticket
  abbrev now : ℕ
  now = get_or s.words 0 0

  -- the view after the step
  abbrev next : View
  next = drawn_by d u cube now

  -- the state after the step
  abbrev after : State S View
  after = record { words = set s.words 0 (suc now); homes = s.homes; views = set s.views id next }

  -- the new record under its ticket
  abbrev new : Drawn
  new = (now, record_held u cube d.held)

  -- no word moves but that of the tickets, and the advances of the event's variables are due
  each : (v : ℕ) → v < count k
      → Moved k after.words d next (times v cube) (get_or s.words (1 + v) 0) (get_or after.words (1 + v) 0) v
  each = none_moves k s o id 0 (suc now) d next me (λ v. times v cube)
      (λ v h. get_or-set_other s.words 0 (1 + v) (suc now) 0 (λ q. omega arith))
      (λ v. (refl, omega (arith, times-none d.due v clear), omega arith))

  -- one ticket more is drawn
  counted : get_or after.words 0 0 ≡ suc now
  counted = get_or-set_same s.words 0 (suc now) 0 (omega (arith, o.wide))

  -- the abstract cursors of the event's variables rise by 1
  raised : (v : ℕ) → v < count k → abstract k after v ≡ abstract k s v + times v cube
  raised = level k s o id 0 (suc now) d next me (λ v. times v cube) each

  -- the abstract cursor of a variable of the event is the cursor that the pass holds
  here : (v : ℕ) → 1 ≤ times v cube
      → (v < count k) × (abstract k s v ≡ look v d.held) × (look v d.held + 1 < height k v)
  here v has =
      let t = each-find (IsReady k.instance.value d.held) cube v has can.ready in
      let held = held_word k s o id v d me t.1.0 in (held.0, held.4 clear, t.1.2)

  -- a record is an old one, or the new one
  member : (r : Drawn) → Member k after r → Member k s r ⊎ (new ≡ r)
  member r m = member_set k s after.words id next r
      (λ i. ⊎_elim (λ l. inl (id, d, me, l)) (λ l. inr (in_one r new l)) (in_append r d.mine (new ∷ []) i))
      (λ old. inl old) m

  -- a sum over all records has the new one more
  mass : (g : Drawn → ℕ)
      → total (λ (x : View). total g x.mine) after.views ≡ total (λ (x : View). total g x.mine) s.views + g new
  mass g = omega (
    arith,
    total-set (λ (x : View). total g x.mine) s.views id d next me,
    total-append g d.mine (new ∷ []),
  )

  -- the new record is one of a pop
  new_popped : IsPopped k new.1
  new_popped = record {
    event = can.event;
    cube = is_cube;
    whole = length-map cube (λ (p : ℕ × ℕ). look p.0 d.held);
    each = λ e i. let t = made k cube d.held e can.ready i in ((here e.0 t.3).0, t.0, t.1);
  }

  -- the entries used of v reach to the abstract cursor, each once
  entries_used : (v : ℕ) → v < count k → (f : ℕ → ℕ)
      → total (λ (x : View). total (λ r. used f v (uses r.1)) x.mine) after.views
      + below f (begun k v) ≡ below f (abstract k after v)
  entries_used v n f =
      let before = o.history.entries v n f in let sum = mass (λ r. used f v (uses r.1)) in
      dite (ℕ_discrete (times v cube) 0)
      (λ none.
      let same : abstract k after v ≡ abstract k s v = omega (arith, raised v n) in
      omega (arith, ap (below f) same, used-none f v cube d.held none))
      (λ some_there.
      let one : times v cube ≡ 1 = omega (arith, once cube is_cube.rising v) in
      let next : abstract k after v ≡ suc (abstract k s v) = omega (arith, raised v n) in
      omega (arith, ap (below f) next, used-once f v cube d.held one, ap f (here v (omega arith)).1))

  -- of two entries of one variable the lesser has the lower ticket
  in_order : (r q : Drawn) → Member k after r → Member k after q → (e g : Use) → In e (uses r.1)
      → In g (uses q.1) → e.0 ≡ g.0 → e.2 < g.2 → r.0 < q.0
  in_order r q mr mq e g ie ig same less =
      let uses_new : (x : Drawn) (y : Use) → new ≡ x → In y (uses x.1) → In y (made_of cube d.held) =
      λ x y is i. subst (λ (z : Drawn). In y (uses z.1)) (sym is) i in
      ⊎_elim
      (λ r_old. ⊎_elim
      (λ q_old. o.history.order r q r_old q_old e g ie ig same less)
      (λ (q_new : new ≡ q). omega (arith, ticket_low k s o.history r r_old, ap (λ (x : Drawn). x.0) q_new))
      (member q mq))
      (λ (r_new : new ≡ r).
      let t = made k cube d.held e can.ready (uses_new r e r_new ie) in let at = here e.0 t.3 in
      ⊎_elim
      (λ q_old. absurd (omega (arith, t.2, at.1, entry_low k s o.history q g q_old ig e.0 at.0 (sym same))))
      (λ (q_new : new ≡ q).
      let z = made k cube d.held g can.ready (uses_new q g q_new ig) in
      absurd (omega (arith, t.2, z.2, ap (λ (x : ℕ). look x d.held) same)))
      (member q mq))
      (member r mr)

  -- the histories' part of the rule stays
  history : History k after
  history = record {
    tickets = λ f. omega (arith, mass (λ r. f r.0), o.history.tickets f, ap (below f) counted);
    entries = entries_used;
    popped = λ r m. ⊎_elim (λ old. o.history.popped r old)
        (λ is. subst (λ (x : Drawn). IsPopped k x.1) is new_popped) (member r m);
    order = in_order;
    low = λ v n. dite (ℕ_discrete (times v cube) 0)
        (λ none. omega (arith, raised v n, o.history.low v n))
        (λ some_there. let t = here v (omega arith) in
        omega (arith, raised v n, once cube is_cube.rising v, t.1, t.2));
    few =
        let t = first (IsReady k.instance.value d.held) cube is_cube.some can.ready in
        let at = here t.0.0 t.2 in
        omega (
          arith,
          counted,
          o.history.few,
          below-less (abstract k s) (abstract k after) (count k) t.0.0 (λ i h. omega (arith, raised i h)) at.0
              (omega (arith, raised t.0.0 at.0, t.2)),
        );
  }

  -- the marks stay
  marks_same : (w : ℕ) → get_or after.words (1 + count k + w) 0 ≡ get_or s.words (1 + count k + w) 0
  marks_same w = get_or-set_other s.words 0 (1 + count k + w) (suc now) 0 (λ q. omega arith)

  -- a unit was marked, or with a pass
  abbrev Was : ℕ → Type 0
  Was w = w < marks k → (get_or s.words (1 + count k + w) 0 ≡ 1) ⊎ Tracks k s w

  -- it is so after the step
  abbrev Is : ℕ → Type 0
  Is w = w < marks k → (get_or after.words (1 + count k + w) 0 ≡ 1) ⊎ Tracks k after w

  -- the other units stay so
  stays : (w : ℕ) → w ≢ u → Was w → Is w
  stays w ne was h = ⊎_elim (λ e. inl (marks_same w ∙ e))
      (λ r. inr (tracks_set k s after.words id d next me w (in_taken_out w u d.taken ne)
      (in_left w d.owed (sharers d.opening cube)) r)) (was h)

  -- a unit whose event shares a variable with the popped one is owed
  owes_marks : (w : ℕ) (e : Cube) → w < marks k
      → IsEvent k.instance.value.family (record { unit = w; cube = e }) → Meets cube e → Is w
  owes_marks w e near event meets h = inr (
    id,
    next,
    set_here s.views id next (inside s.views id d me),
    inr (in_right w d.owed (sharers d.opening cube)
        (subst (λ (x : Option Opening). In w (sharers x cube)) (sym live)
        (shared_in k.instance.value.family cube e w near event meets))),
  )

  -- the marks' part of the rule stays
  marked : Marked k after
  marked = marks_stay k s after o.marked (λ w h. marks_same w)
      (λ g. total-same (λ (x : View). total g x.changes) s.views id d next me refl)
      (λ w h p. covers k (abstract k s) (abstract k after) u cube Was Is can.event is_cube.some raised stays
      owes_marks (λ x q near. o.marked.covers x near q) w h p h)

  -- the tickets don't wrap
  small : now < 2 ^ 63
  small = omega (
    arith,
    o.history.few,
    below-bound (abstract k s) (count k) (λ v h. omega (arith, o.history.low v h, o.heights v h)),
    o.narrow,
  )

  -- the view of the pass agrees
  agrees : Agrees k after.words next
  agrees =
      let a = agree_here k s o id 0 (suc now) d next me (λ v. times v cube) each
      (λ v. omega (arith, times-none d.due v clear)) in
      record {
        live = inl (live, share_kept k s o id d me live);
        held = a.held;
        found = a.found;
        knows = a.knows;
        taken = each_taken_out (λ w. w < marks k) u d.taken a.taken;
        due = λ v. dite (ℕ_discrete (times v cube) 0) (λ none. omega arith)
            (λ some_there.
            let z = each-find (IsReady k.instance.value d.held) cube v (omega arith) can.ready in
            omega (arith, once cube is_cube.rising v, z.1.0));
      }

  -- the rule stays
  sound : Sound k after
  sound = framed k s o id 0 (suc now) d next me (λ v. times v cube) each refl agrees history marked

  -- the variables of the event are below the count
  near_all : Each (λ (p : ℕ × ℕ). p.0 < count k) cube
  near_all = each-in (IsReady k.instance.value d.held) (λ (p : ℕ × ℕ). p.0 < count k) cube
      (λ p has _. (here p.0 has).0) can.ready

-- 1 may be added to the ticket word for an event that the pass may pop
pub draws : {S : Type 0} (k : Opening) (slots id : ℕ) (m : Me S View) (u : ℕ) (cube : Cube) → m.0.opening ≡ Some k
    → length m.0.due ≡ 0 → IsCube cube → CanPop k.instance.value m.0 u cube
    → Allows (Sound k) slots id m 0 (λ x. (x + 1) % 2 ^ 64) (λ r n. TicketTold m u cube r n)
draws k slots id m u cube live clear is_cube can s o _ me room =
    let t : ℕ = get_or s.words 0 0 in let low = small k s o id m.0 me live clear u cube is_cube can in
    let wraps : (t + 1) % 2 ^ 64 ≡ suc t = omega arith in
    let near = near_all k s o id m.0 me live clear u cube is_cube can in
    let e : View = drawn_by m.0 u cube t in (
      e,
      keeps,
      tt,
      subst (λ (x : ℕ). Sound k (record { words = set s.words 0 x; homes = s.homes; views = set s.views id e }))
          (sym wraps) (sound k s o id m.0 me live clear u cube is_cube can),
      (
        refl,
        λ q i. ticket_low k s o.history q (id, m.0, me, i),
        knows_after k s o id m.0 e me live (set s.words 0 (suc t)) (sound k s o id m.0 me live clear u cube is_cube can),
        λ h other. subst (λ (x : Opening). Each (λ (p : ℕ × ℕ). p.0 < count x) cube)
            (same_Some _ _ (sym live ∙ other)) near,
      ),
    )
