-- One word changes, with the view of one pass. Properties of the other words and views stay.
--
-- Each such step preserves the rule by `framed`. This needs three facts. The first is the change of each variable
-- (`Moved`), which is none except for the variable of the word (`one_moves`, `none_moves`). The second is that the
-- view of the pass agrees with the words. The third is the part of the rule about histories and marks. That part stays
-- if no abstract cursor rises, no ticket is drawn (`unticketed`) and no mark changes (`moved`): at a claim, a release,
-- an advance and a settle.
use Rattle.std.proofs.Common.{◌≡◌, ℕ, ◌+◌, ◌<◌, ◌≤◌, ◌≢◌, ◌⊎◌, List, get_or, set, sym, refl, ap, ◌∙◌, subst, inl, inr, ⊎_elim, arith, length-set, get_or-set_other, Some, None, length, false}
use Rattle.claim_words.proofs.Memberships.{each-in}
use mathlib.Core.Option.{some}
use lib.ListN.{get_elem?}
use lib.Seq.{set-get_or}
use Rattle.atomic_table.specs.Table.{State, Me, Allows}
use Rattle.atomic_table.proofs.Lists.{set_here, set_again}
use Rattle.std.proofs.lemmas.Option.{none-some}
use Rattle.claim_words.specs.declared.view.View.{View}
use Rattle.claim_words.specs.declared.opening.Opening.{Opening}
use Rattle.claim_words.specs.Words.{cursor_in, claimed_bit, settled_bit, Formed}
use Rattle.claim_words.specs.Maps.{total, In, times, look}
use Rattle.claim_words.specs.Openings.{count, is_listed, head_at}
use Rattle.claim_words.specs.Steps.{spent}
use Rattle.claim_words.specs.Machine.{IsHeldAt, IsFoundAt, IsSettledAt, Leads, Agrees, abstract, History, Marked, Sound, at_last, to_root, goes_on}
use Rattle.claim_words.specs.Tells.{SoleKnows}
use Rattle.claim_words.proofs.SoleKnowsSettled.{sole_knows, true-false}
use Rattle.claim_words.proofs.Histories.{same_history, same_marks, tracks_set, member_set}
use Rattle.claim_words.proofs.Totals.{inside, total-set, total-same, alone, term_le, terms_le, times-none, each_set, each-look, each-map, at_word}

-- the words of settled variables stay, so what leads on does so still
pub leads_move : (k : Opening) (ws new : List ℕ)
    → ((u : ℕ) → u < count k → settled_bit (get_or ws (1 + u) 0) ≡ 1
    → get_or new (1 + u) 0 ≡ get_or ws (1 + u) 0)
    → (v : ℕ) → get_or new (1 + v) 0 ≡ get_or ws (1 + v) 0 → Leads k ws v → Leads k new v
leads_move k ws new keep _ same (at_last v h) = at_last v (omega (arith, ap cursor_in same))
leads_move k ws new keep _ same (to_root v h) =
    to_root v (subst (λ (w : ℕ). head_at k v (cursor_in w) ≡ None) (sym same) h)
leads_move k ws new keep _ same (goes_on v u h near s l) =
    let e = keep u near s in
    goes_on v u (subst (λ (w : ℕ). head_at k v (cursor_in w) ≡ Some u) (sym same) h) near
    (ap settled_bit e ∙ s) (leads_move k ws new keep u e l)

module _ {S : Type 0} (k : Opening) (s : State S View) (o : Sound k s) where
  -- a load writes what stands there
  pub loaded : (id i : ℕ) (d : View) → get_elem? s.views id ≡ some d
      → Sound k (record { words = set s.words i (get_or s.words i 0); homes = s.homes; views = set s.views id d })
  loaded id i d me =
      subst (λ (ws : List ℕ). Sound k (record { words = ws; homes = s.homes; views = set s.views id d }))
      (sym (set-get_or s.words i 0))
      (subst (λ (vs : List View). Sound k (record { words = s.words; homes = s.homes; views = vs }))
      (sym (set_again s.views id d me)) o)

  -- the word of a variable is one of the board's
  pub within : (v : ℕ) → v < count k → 1 + v < length s.words
  within v h = omega (arith, o.wide)

  -- a live pass has a share
  pub share_kept : (id : ℕ) (d : View) → get_elem? s.views id ≡ some d → d.opening ≡ Some k → 1 ≤ d.share
  share_kept id d me live = ⊎_elim (λ l. l.1)
      (λ (l : d ≡ spent). absurd (none-some _ (sym (ap (λ (x : View). x.opening) l) ∙ live)))
      (o.agree id d me).live

  -- what a pass holds is claimed, and not settled; where no advance is due, its abstract cursor is the held one
  pub held_word : (id v : ℕ) (d : View) → get_elem? s.views id ≡ some d → times v d.held ≡ 1
      → (v < count k) × (claimed_bit (get_or s.words (1 + v) 0) ≡ 1) × (settled_bit (get_or s.words (1 + v) 0) ≡ 0)
      × (cursor_in (get_or s.words (1 + v) 0) ≡ look v d.held) × (length d.due ≡ 0 → abstract k s v ≡ look v d.held)
  held_word id v d me one =
      let le = term_le (λ (x : View). times v x.held) s.views id d me in
      let at = each-look (IsHeldAt k s.words) d.held v (omega (arith, one)) (o.agree id d me).held in
      let f = o.formed v at.0 in let f₂ = f.2 in
      let all : total (λ (x : View). times v x.held) s.views ≡ times v d.held = omega (arith, one, o.held_once v at.0) in (
        at.0,
        omega (arith, one, o.held_once v at.0),
        omega (arith, one, o.held_once v at.0),
        at.1,
        λ clear.
            let due = alone (λ (x : View). times v x.held) (λ (x : View). times v x.due) s.views id d me
            (λ j x there zero. omega (arith, (o.agree j x there).due v)) all in
            omega (arith, at.1, due, times-none d.due v clear),
      )

  -- what a sole pass knows once its view is e
  pub knows_after : (id : ℕ) (d e : View) → get_elem? s.views id ≡ some d → e.opening ≡ Some k → (ws : List ℕ)
      → Sound k (record { words = ws; homes = s.homes; views = set s.views id e }) → SoleKnows e
  knows_after id d e me live ws after =
      sole_knows k (record { words = ws; homes = s.homes; views = set s.views id e }) after id e
      (set_here s.views id e (inside s.views id d me)) live

-- What becomes of u by a step of the pass whose view was d and is e: its word was w and is n, and its abstract
-- cursor rises by `more`.
pub record Moved (k : Opening) (new : List ℕ) (d e : View) (more w n u : ℕ) : Type 0 where
  pub formed : Formed n
  pub level : cursor_in n + times u e.due ≡ cursor_in w + times u d.due + more
  -- the cursor of the word rises only where the pass holds the variable
  pub grows : cursor_in w ≤ cursor_in n
  pub holder : (cursor_in n ≡ cursor_in w) ⊎ (times u d.held ≡ 1)
  pub held : times u e.held + settled_bit n + claimed_bit w ≡ times u d.held + settled_bit w + claimed_bit n
  -- a settled word stays; what is settled now, of a cycle family, leads on, and the pass knows it
  pub keeps : settled_bit w ≡ 1 → n ≡ w
  pub settles : (settled_bit n ≤ settled_bit w) ⊎ ((is_listed k.instance.value.family ≡ false) × Leads k new u)
  pub knows : settled_bit n + times u d.settled ≤ settled_bit w + times u e.settled

-- the pass holds u as often as before, and knows it settled if it did, and `more` advances of it are due
abbrev Alike : View → View → ℕ → ℕ → Type 0
Alike d e more u = (times u e.held ≡ times u d.held) × (times u e.due ≡ times u d.due + more)
    × (times u d.settled ≤ times u e.settled)

-- a word stays
still : (k : Opening) (new : List ℕ) (d e : View) (more w u : ℕ) → Formed w → Alike d e more u
    → Moved k new d e more w w u
still k new d e more w u formed alike = record {
  formed = formed;
  level = omega (arith, alike.1);
  grows = omega arith;
  holder = inl refl;
  held = omega (arith, alike.0);
  keeps = λ q. refl;
  settles = inl (omega arith);
  knows = omega (arith, alike.2);
}

module _ {S : Type 0} (k : Opening) (s : State S View) (o : Sound k s) (id i n : ℕ) (d e : View)
    (me : get_elem? s.views id ≡ some d) where
  -- the words after the step
  abbrev new : List ℕ
  new = set s.words i n

  -- the state after it
  abbrev then : State S View
  then = record { words = new; homes = s.homes; views = set s.views id e }

  -- what becomes of each variable
  abbrev MoveBy : (ℕ → ℕ) → Type 0
  MoveBy more =
      (u : ℕ) → u < count k → Moved k new d e (more u) (get_or s.words (1 + u) 0) (get_or new (1 + u) 0) u

  -- the word is none of a variable
  pub none_moves : (more : ℕ → ℕ) → ((u : ℕ) → u < count k → get_or new (1 + u) 0 ≡ get_or s.words (1 + u) 0)
      → ((u : ℕ) → Alike d e (more u) u) → MoveBy more
  none_moves more same alike u h =
      subst (λ (x : ℕ). Moved k new d e (more u) (get_or s.words (1 + u) 0) x u) (sym (same u h))
      (still k new d e (more u) (get_or s.words (1 + u) 0) u (o.formed u h) (alike u))

  module _ (more : ℕ → ℕ) (each : MoveBy more) where
    -- how the abstract cursors rise
    pub level : (u : ℕ) → u < count k → abstract k then u ≡ abstract k s u + more u
    level u h = omega (arith, (each u h).level, total-set (λ (x : View). times u x.due) s.views id d e me)

    -- a view agrees still, where it holds no variable whose cursor rises
    agree_still : (x : View)
        → ((u : ℕ) → u < count k
        → (cursor_in (get_or new (1 + u) 0) ≡ cursor_in (get_or s.words (1 + u) 0)) ⊎ (times u x.held ≡ 0))
        → Agrees k s.words x → Agrees k new x
    agree_still x quiet a = record {
      live = a.live;
      held = each-in (IsHeldAt k s.words) (IsHeldAt k new) x.held
          (λ p has h. (h.0, ⊎_elim (λ same. same ∙ h.1) (λ none. absurd (omega arith)) (quiet p.0 h.0))) a.held;
      found = each-map (IsFoundAt k s.words) (IsFoundAt k new)
          (λ p h. (h.0, omega (arith, h.1, (each p.0 h.0).grows))) x.found a.found;
      knows = each-map (IsSettledAt k s.words) (IsSettledAt k new) (λ p h.
          let same = (each p.0 h.0).keeps h.1 in (h.0, ap settled_bit same ∙ h.1, ap cursor_in same ∙ h.2))
          x.settled a.knows;
      taken = a.taken;
      due = a.due;
    }

    -- the view of the pass does, where no cursor rises
    pub agree_here : ((u : ℕ) → times u e.due ≡ times u d.due + more u) → Agrees k new d
    agree_here due = agree_still d (λ u h. inl (omega (arith, due u, (each u h).level))) (o.agree id d me)

    -- the rule stays
    pub framed : e.share ≡ d.share → Agrees k new e → History k then → Marked k then → Sound k then
    framed share agrees history marked = record {
      wide = length-set s.words i n ∙ o.wide;
      formed = λ u h. (each u h).formed;
      heights = o.heights;
      narrow = o.narrow;
      shares = omega (arith, total-same (λ (x : View). x.share) s.views id d e me share, o.shares);
      held_once = λ u h.
          omega (arith, total-set (λ (x : View). times u x.held) s.views id d e me, (each u h).held, o.held_once u h);
      agree = each_set (Agrees k new) s.views id e agrees (λ j x other at. agree_still x (λ u h. ⊎_elim
          (λ same. inl same)
          (λ (one : times u d.held ≡ 1). inr (
          let two = terms_le (λ (y : View). times u y.held) s.views id j d x other me at in
          let f = o.formed u h in let f₂ = f.2 in omega (arith, one, o.held_once u h)
          )) (each u h).holder) (o.agree j x at));
      history = history;
      leads = λ u h q. ⊎_elim (λ (le : settled_bit (get_or new (1 + u) 0) ≤ settled_bit (get_or s.words (1 + u) 0)).
          let was : settled_bit (get_or s.words (1 + u) 0) ≡ 1 = omega arith in
          leads_move k s.words new (λ v near. (each v near).keeps) u ((each u h).keeps was) (o.leads u h was))
          (λ set. set.1) (each u h).settles;
      known = λ u h. omega (
        arith,
        total-set (λ (x : View). times u x.settled) s.views id d e me,
        (each u h).knows,
        o.known u h,
      );
      unsettled = λ listed u h. ⊎_elim (λ le. omega (arith, le, o.unsettled listed u h))
          (λ set. absurd (true-false (sym listed ∙ set.0))) (each u h).settles;
      marked = marked;
      counted = o.counted;
      fits = o.fits;
    }

  module _ (each : MoveBy (λ _. 0)) where
    -- no abstract cursor rises
    pub flat : (u : ℕ) → u < count k → abstract k then u ≡ abstract k s u
    flat u h = omega (arith, level (λ _. 0) each u h)

    module _ (alike : (e.share ≡ d.share) × (e.mine ≡ d.mine)) (agrees : Agrees k new e) where
      -- the rule stays where no ticket is drawn
      pub unticketed : get_or new 0 0 ≡ get_or s.words 0 0 → Marked k then → Sound k then
      unticketed tick marked = framed (λ _. 0) each alike.0 agrees (same_history k s then o.history tick flat
          (λ g. total-same (λ (x : View). total g x.mine) s.views id d e me (ap (total g) alike.1))
          (λ r m. member_set k s new id e r (λ l. (id, d, me, subst (In r) alike.1 l)) (λ old. old) m)) marked

      -- and no mark changes
      pub moved : 1 ≤ i → i ≤ count k → (e.taken ≡ d.taken) × (e.owed ≡ d.owed) × (e.changes ≡ d.changes)
          → Sound k then
      moved first last tasks = unticketed (get_or-set_other s.words i 0 n 0 (λ q. omega arith))
          (same_marks k s then o.marked (λ u h. get_or-set_other s.words i (1 + count k + u) n 0 (λ q. omega arith))
          (λ g. total-same (λ (x : View). total g x.changes) s.views id d e me (ap (total g) tasks.2)) flat
          (λ u. tracks_set k s new id d e me u (subst (In u) (sym tasks.0)) (subst (In u) (sym tasks.1))))

-- the word is that of v
pub one_moves : {S : Type 0} (k : Opening) (s : State S View) (o : Sound k s) (v n : ℕ) (d e : View) → v < count k
    → Moved k (set s.words (1 + v) n) d e 0 (get_or s.words (1 + v) 0) n v
    → ((u : ℕ) → u ≢ v → Alike d e 0 u) → (u : ℕ) → u < count k
    → Moved k (set s.words (1 + v) n) d e 0 (get_or s.words (1 + u) 0) (get_or (set s.words (1 + v) n) (1 + u) 0) u
one_moves k s o v n d e near here else u h =
    let new : List ℕ = set s.words (1 + v) n in let old : ℕ → ℕ = λ x. get_or s.words (1 + x) 0 in
    at_word s.words v n u (λ x. Moved k new d e 0 (old u) x u) (within k s o v near)
    (λ is. subst (λ (x : ℕ). Moved k new d e 0 (old x) n x) (sym is) here)
    (λ ne. still k new d e 0 (old u) u (o.formed u h) (else u ne))

-- a step on the word i, which is j, tells of w what it tells of v, which is w
pub at_place : {S : Type 0} (k : Opening) (slots id : ℕ) (m : Me S View) (f : ℕ → ℕ)
    (P : ℕ → ℕ → Me S View → Type 0) (i j v w : ℕ) → i ≡ j → v ≡ w → Allows (Sound k) slots id m j f (P v)
    → Allows (Sound k) slots id m i f (P w)
at_place k slots id m f P i j v w place is a =
    subst (λ (x : ℕ). Allows (Sound k) slots id m i f (P x)) is
    (subst (λ (x : ℕ). Allows (Sound k) slots id m x f (P v)) (sym place) a)
