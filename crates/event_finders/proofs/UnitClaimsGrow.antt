-- One more claim of an event's variables: what `seen` gained, what is held, and what is known about the variables that
-- were claimed before. These differ from the next, since a cube's variables increase. So its claim does not change
-- their cursors.
use Rattle.std.proofs.Common.{◌≡◌, ◌≢◌, ℕ, ◌+◌, ◌<◌, ◌≤◌, ◌^◌, List, [], ◌∷◌, ◌++◌, take, drop, length, map, slice_get, Some, refl, sym, ap, ◌∙◌, subst, inl, arith, lt-ltb, append_assoc}
use mathlib.Core.Logic.{dite}
use native.Mathlib.Decide.{ℕ_discrete}
use Rattle.std.proofs.lemmas.List.{drop_at, map_push}
use Rattle.pop_model.specs.Stacks.{value_at}
use Rattle.pop_model.specs.Popping.{Cube, IsCube, variables, cursor}
use Rattle.pop_model.specs.Instances.{Instance}
use Rattle.claim_words.specs.declared.view.View.{View}
use Rattle.claim_words.specs.declared.claim.Claim.TheVariants.{Mine}
use Rattle.claim_words.specs.Words.{word_of, cursor_in, is_settled}
use Rattle.claim_words.specs.Maps.{Pairs, Each, In, is_at, times, look, times_in}
use Rattle.claim_words.specs.Steps.{claimed_by, claim_with}
use Rattle.claim_words.specs.Answers.{Answers}
use Rattle.claim_words.specs.TicketLogs.{vector}
use Rattle.claim_words.specs.Tells.{SoleTells}
use Rattle.claim_words.proofs.Totals.{total-append, each-map, each-append, is_at-yes, is_at-no, look-hit, look-miss}
use Rattle.claim_words.proofs.HeldLemmas.{times-variables, variables-push}
use Rattle.claim_words.proofs.Memberships.{in_left, in_right}
use Rattle.claim_words.proofs.ClaimKeepsRule.{held_after}
use Rattle.claim_words.proofs.Callers.{held_still, look_end}
use Rattle.event_finders.specs.Gains.{gained}
use Rattle.event_finders.specs.UnitLooks.{found_at, SameElse, ClaimsFirst, HasClaimed, HasValue, HasMore}
use Rattle.event_finders.proofs.CubePrefixes.{take_push, none_yet}

-- a pair more at the end leaves the number of what is there
look_front : (v : ℕ) (l m : Pairs) → 1 ≤ times v l → look v (l ++ m) ≡ look v l
look_front v [] m h = absurd (omega arith)
look_front v (p ∷ ps) m h = dite (ℕ_discrete p.0 v)
    (λ e. look-hit v p (ps ++ m) e ∙ sym (look-hit v p ps e))
    (λ ne. look-miss v p (ps ++ m) ne ∙ look_front v ps m (omega (arith, is_at-no v p ne)) ∙ sym (look-miss v p ps ne))

-- The next claim of an event: m is the view before it, e the one after it, which finds w at the variable of the pair p.
pub record NextClaim (d m e : View) (cube : Cube) (n : ℕ) (p : ℕ × ℕ) (w : ℕ) : Type 0 where
  pub is : IsCube cube
  pub at : slice_get cube n ≡ Some p
  pub first : ClaimsFirst d m cube n n
  pub to : e ≡ claimed_by m p.0 w

module _ {d m e : View} {cube : Cube} {n : ℕ} {p : ℕ × ℕ} {w : ℕ} (s : NextClaim d m e cube n p w) where
  -- seen has the entry at its end
  seen_next : e.seen ≡ d.seen ++ (gained d m ++ (word_of p.0, w) ∷ [])
  seen_next = ap (λ (x : View). x.seen) s.to ∙ ap (λ (l : Pairs). l ++ (word_of p.0, w) ∷ []) s.first.grows
      ∙ append_assoc d.seen (gained d m) ((word_of p.0, w) ∷ [])

  -- so this is what seen gained
  pub gained_next : gained d e ≡ gained d m ++ (word_of p.0, w) ∷ []
  gained_next = ap (drop (length d.seen)) seen_next
      ∙ drop_at d.seen (gained d m ++ (word_of p.0, w) ∷ []) (length d.seen) refl

  -- the entry is there
  pub entered : In (word_of p.0, w) (gained d e)
  entered = subst (In (word_of p.0, w)) (sym gained_next)
      (in_right (word_of p.0, w) (gained d m) ((word_of p.0, w) ∷ []) (inl refl))

  -- nothing else changed
  same_next : SameElse d e
  same_next = record {
    opening = ap (λ (x : View). x.opening) s.to ∙ s.first.same.opening;
    share = ap (λ (x : View). x.share) s.to ∙ s.first.same.share;
    moves = ap (λ (x : View). x.moves) s.to ∙ s.first.same.moves;
    taken = ap (λ (x : View). x.taken) s.to ∙ s.first.same.taken;
    owed = ap (λ (x : View). x.owed) s.to ∙ s.first.same.owed;
    changes = ap (λ (x : View). x.changes) s.to ∙ s.first.same.changes;
    mine = ap (λ (x : View). x.mine) s.to ∙ s.first.same.mine;
  }

  -- the variables of the first pairs and one more
  variables_next : variables (take (n + 1) cube) ≡ variables (take n cube) ++ p.0 ∷ []
  variables_next = ap variables (take_push cube n p s.at) ∙ variables-push (take n cube) p

  -- the words of seen are theirs
  words_next : variables (gained d e) ≡ map word_of (variables (take (n + 1) cube))
  words_next = ap variables gained_next ∙ variables-push (gained d m) (word_of p.0, w)
      ∙ ap (λ (l : List ℕ). l ++ word_of p.0 ∷ []) s.first.words
      ∙ sym (map_push word_of (variables (take n cube)) p.0) ∙ ap (map word_of) (sym variables_next)

  -- the variable was not held before
  pub new_here : times p.0 m.held ≡ 0
  new_here = sym (times-variables p.0 m.held) ∙ ap (times_in p.0) s.first.held
      ∙ times-variables p.0 (take n cube) ∙ none_yet cube n p s.is.rising s.at

  -- after a claim that was refused
  pub refused_next : 2 ^ 63 ≤ w → ClaimsFirst d e cube (n + 1) n
  refused_next taken = record {
    same = same_next;
    grows = seen_next ∙ ap (λ (l : Pairs). d.seen ++ l) (sym gained_next);
    words = words_next;
    held = ap variables (held_still m e p.0 w s.to taken) ∙ s.first.held;
  }

  module _ (free : w < 2 ^ 63) where
    -- what is held
    held_next : e.held ≡ m.held ++ (p.0, cursor_in w) ∷ []
    held_next = held_after m e p.0 w s.to free

    -- what was found
    found_next : e.found ≡ (p.0, cursor_in w) ∷ m.found
    found_next = ap (λ (x : View). x.found)
        (s.to ∙ ap (λ b. claim_with b (is_settled w) m p.0 w) (lt-ltb w (2 ^ 63) free))

    -- after a claim that was granted
    pub granted_next : ClaimsFirst d e cube (n + 1) (n + 1)
    granted_next = record {
      same = same_next;
      grows = seen_next ∙ ap (λ (l : Pairs). d.seen ++ l) (sym gained_next);
      words = words_next;
      held = ap variables held_next ∙ variables-push m.held (p.0, cursor_in w)
          ∙ ap (λ (l : List ℕ). l ++ p.0 ∷ []) s.first.held ∙ sym variables_next;
    }

    -- the cursor of the word was found
    pub found_here : found_at e p.0 ≡ cursor_in w
    found_here = ap (look p.0) found_next ∙ look-hit p.0 (p.0, cursor_in w) m.found refl

    -- the pass claimed the variable
    pub has_claimed : SoleTells m p.0 w → HasClaimed d e p.0
    has_claimed tells = record {
      once = omega (
        arith,
        ap (times p.0) held_next,
        total-append (is_at p.0) m.held ((p.0, cursor_in w) ∷ []),
        is_at-yes p.0 (p.0, cursor_in w) refl,
        new_here,
      );
      held = ap (look p.0) held_next ∙ look_end p.0 (cursor_in w) m.held new_here ∙ sym found_here;
      claimed = (w, entered, (free, found_here));
      known = omega (arith, ap (times p.0) found_next, is_at-yes p.0 (p.0, cursor_in w) refl);
      vector = λ k live sole.
          let told = tells k (s.first.same.opening ∙ live) (s.first.same.share ∙ sole) in
          found_here ∙ told.1 ∙ ap (λ mine. cursor (vector k mine) p.0) s.first.same.mine;
    }

    -- another variable has the cursor that was found before
    pub found_other : (v : ℕ) → v ≢ p.0 → found_at e v ≡ found_at m v
    found_other v ne = ap (look v) found_next ∙ look-miss v (p.0, cursor_in w) m.found (λ is. ne (sym is))

    -- what is held before is another variable
    pub other_held : (v : ℕ) → times v m.held ≡ 1 → v ≢ p.0
    other_held v one is = absurd (omega (arith, one, new_here, ap (λ (u : ℕ). times u m.held) is))

    -- what was claimed stays so
    pub still_claimed : (v : ℕ) → HasClaimed d m v → HasClaimed d e v
    still_claimed v has =
        let ne = other_held v has.once in
        let found : found_at e v ≡ found_at m v = found_other v ne in
        record {
          once = omega (
            arith,
            ap (times v) held_next,
            total-append (is_at v) m.held ((p.0, cursor_in w) ∷ []),
            is_at-no v (p.0, cursor_in w) (λ is. ne (sym is)),
            has.once,
          );
          held = ap (look v) held_next ∙ look_front v m.held ((p.0, cursor_in w) ∷ []) (omega (arith, has.once))
              ∙ has.held ∙ sym found;
          claimed = (
            has.claimed.0,
            subst (In (word_of v, has.claimed.0)) (sym gained_next)
                (in_left (word_of v, has.claimed.0) (gained d m) ((word_of p.0, w) ∷ []) has.claimed.1),
            subst (λ (c : ℕ). Answers has.claimed.0 (Mine c)) (sym found) has.claimed.2,
          );
          known = omega (arith, has.known, ap (times v) found_next);
          vector = λ k live sole. found ∙ has.vector k live sole;
        }

    -- so do the values
    pub still_valued : (i : Instance) (q : ℕ × ℕ) → HasValue i d m q → HasValue i d e q
    still_valued i q has =
        let found : found_at e q.0 ≡ found_at m q.0 = found_other q.0 (other_held q.0 has.0.once) in
        (still_claimed q.0 has.0, ap (value_at i.stacks q.0) found ∙ has.1)

    -- and the entries behind
    pub still_more : (i : Instance) (q : ℕ × ℕ) → HasValue i d m q × HasMore i m q → HasMore i e q
    still_more i q (has, more) =
        let found : found_at e q.0 ≡ found_at m q.0 = found_other q.0 (other_held q.0 has.0.once) in
        omega (arith, found, more)

    -- with the next value all have theirs
    pub values_next : (i : Instance) → SoleTells m p.0 w → value_at i.stacks p.0 (cursor_in w) ≡ p.1
        → Each (HasValue i d m) (take n cube) → Each (HasValue i d e) (take (n + 1) cube)
    values_next i tells value old =
        let here : HasValue i d e p = (has_claimed tells, ap (value_at i.stacks p.0) found_here ∙ value) in
        subst (Each (HasValue i d e)) (sym (take_push cube n p s.at))
        (each-append (HasValue i d e) (take n cube) (p ∷ [])
        (each-map (HasValue i d m) (HasValue i d e) (still_valued i) (take n cube) old) (here, tt))
