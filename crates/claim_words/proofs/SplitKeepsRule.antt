-- A split and a join preserve the rule: they change no word, and all sums over the views stay.
use Rattle.std.proofs.Common.{◌≡◌, ℕ, ◌+◌, ◌<◌, ◌≤◌, ◌≢◌, List, [], ◌∷◌, ◌++◌, set, sym, refl, ap, ◌∙◌, subst, inl, inr, ⊎_elim, arith, Some}
use mathlib.Core.Option.{some}
use lib.ListN.{get_elem?}
use Rattle.atomic_table.specs.Table.{State, Me, keeps, Allows, Splits, Joins}
use Rattle.atomic_table.proofs.Lists.{set_else, at_longer, at_snoc}
use Rattle.claim_words.specs.declared.view.View.{View}
use Rattle.claim_words.specs.declared.opening.Opening.{Opening}
use Rattle.claim_words.specs.Changes.{Change}
use Rattle.claim_words.specs.Maps.{total, is_at, In, times}
use Rattle.claim_words.specs.Steps.{Drawn, spent, cut_left, cut_right, united}
use Rattle.claim_words.specs.Machine.{IsFoundAt, IsSettledAt, Agrees, Member, Tracks, Sound}
use Rattle.claim_words.proofs.Memberships.{none_in, in_append}
use Rattle.claim_words.proofs.Histories.{same_history, same_marks, tracks_set, member_set}
use Rattle.claim_words.proofs.Totals.{total-append, total-set, each_set, each-append, term_le}
use Rattle.claim_words.proofs.WordMoves.{share_kept, loaded}

module _ {S : Type 0} (k : Opening) (s : State S View) (o : Sound k s) (id : ℕ) (d : View)
    (me : get_elem? s.views id ≡ some d) (live : d.opening ≡ Some k) where
  -- the state once the views are these
  abbrev after : List View → State S View
  after vs = record { words = s.words; homes = s.homes; views = vs }

  -- the weights of the views add up as before
  abbrev Level : List View → (View → ℕ) → Type 0
  Level vs g = total g vs ≡ total g s.views

  -- the rule holds with other views, where sums over them stay, and each is a view that agrees
  with_views : (vs : List View) → Level vs (λ x. x.share) → ((v : ℕ) → Level vs (λ x. times v x.held))
      → ((v : ℕ) → Level vs (λ x. times v x.due)) → ((g : Drawn → ℕ) → Level vs (λ x. total g x.mine))
      → ((g : Change → ℕ) → Level vs (λ x. total g x.changes))
      → ((v : ℕ) → total (λ (x : View). times v x.settled) s.views ≤ total (λ (x : View). times v x.settled) vs)
      → ((j : ℕ) (x : View) → get_elem? vs j ≡ some x → Agrees k s.words x)
      → ((q : Drawn) → Member k (after vs) q → Member k s q) → ((u : ℕ) → Tracks k s u → Tracks k (after vs) u)
      → Sound k (after vs)
  with_views vs share held due mine changes knows agree member tracks = record {
    wide = o.wide;
    formed = o.formed;
    heights = o.heights;
    narrow = o.narrow;
    shares = share ∙ o.shares;
    held_once = λ v h. omega (arith, held v, o.held_once v h);
    agree = agree;
    history = same_history k s (after vs) o.history refl (λ v h. omega (arith, due v)) mine member;
    leads = o.leads;
    known = λ v h. omega (arith, knows v, o.known v h);
    unsettled = o.unsettled;
    marked = same_marks k s (after vs) o.marked (λ u h. refl) changes (λ v h. omega (arith, due v)) tracks;
    counted = o.counted;
    fits = o.fits;
  }

  -- the views after a split
  abbrev cut : ℕ → List View
  cut part = set s.views id (cut_left d part) ++ cut_right d part ∷ []

  -- a split keeps the sums over the views
  cut_sums : (part : ℕ) (g : View → ℕ)
      → total g (cut part) + g d ≡ total g s.views + g (cut_left d part) + g (cut_right d part)
  cut_sums part g = omega (
    arith,
    total-append g (set s.views id (cut_left d part)) (cut_right d part ∷ []),
    total-set g s.views id d (cut_left d part) me,
  )

  -- the views of both passes agree
  cut_agrees : (part : ℕ) → 1 ≤ part → part < d.share → (j : ℕ) (x : View) → get_elem? (cut part) j ≡ some x
      → Agrees k s.words x
  cut_agrees part low high j x at =
      let l : View = cut_left d part in let r : View = cut_right d part in let a = o.agree id d me in
      let left : Agrees k s.words l = record {
        live = inl (live, omega arith);
        held = a.held;
        found = a.found;
        knows = a.knows;
        taken = a.taken;
        due = a.due;
      } in
      let right : Agrees k s.words r = record {
        live = inl (live, low);
        held = tt;
        found = a.found;
        knows = a.knows;
        taken = tt;
        due = λ u. omega arith;
      } in
      ⊎_elim (each_set (Agrees k s.words) s.views id l left (λ j x ne there. o.agree j x there) j x)
      (λ (e : r ≡ x). subst (Agrees k s.words) e right) (at_snoc (set s.views id l) r x j at)

  -- the new pass has no record
  cut_member : (part : ℕ) (q : Drawn) → Member k (after (cut part)) q → Member k s q
  cut_member part q m =
      let l : View = cut_left d part in let r : View = cut_right d part in
      ⊎_elim
      (λ there. member_set k s s.words id l q (λ i. (id, d, me, i)) (λ old. old) (m.0, m.1, there, m.3))
      (λ (e : r ≡ m.1). absurd (subst (λ (x : View). In q x.mine) (sym e) m.3))
      (at_snoc (set s.views id l) r m.1 m.0 m.2)

  -- the rule stays after a split
  split : (part : ℕ) → 1 ≤ part → part < d.share → Sound k (after (cut part))
  split part low high =
      let l : View = cut_left d part in let r : View = cut_right d part in
      let sums = cut_sums part in
      with_views (cut part) (omega (arith, sums (λ (x : View). x.share)))
      (λ v. omega (arith, sums (λ (x : View). times v x.held))) (λ v. omega (arith, sums (λ (x : View). times v x.due)))
      (λ g. omega (arith, sums (λ (x : View). total g x.mine)))
      (λ g. omega (arith, sums (λ (x : View). total g x.changes)))
      (λ v. omega (arith, sums (λ (x : View). times v x.settled))) (cut_agrees part low high) (cut_member part)
      (λ u q. let z = tracks_set k s s.words id d l me u (λ i. i) (λ i. i) q in
      (z.0, z.1, at_longer (set s.views id l) (r ∷ []) z.0 z.1 z.2, z.3))

  module _ (other : ℕ) (e : View) (idle : e.held ≡ []) (free : (e.taken ≡ []) × (e.owed ≡ [])) (apart : other ≢ id)
      (them : get_elem? (set s.views id (united d e)) other ≡ some e) where
    -- the state once the pass took the other in
    abbrev taken_in : State S View
    taken_in = after (set s.views id (united d e))

    -- the views after a join
    abbrev joined_views : List View
    joined_views = set taken_in.views other spent

    -- the other pass was there before
    there : get_elem? s.views other ≡ some e
    there = sym (set_else s.views id other (united d e) apart) ∙ them

    -- a join keeps the sums over the views
    join_sums : (g : View → ℕ) → total g joined_views + g e + g d ≡ total g s.views + g (united d e) + g spent
    join_sums g = omega (
      arith,
      total-set g s.views id d (united d e) me,
      total-set g taken_in.views other e spent them,
    )

    -- the views agree, that of the ended pass too
    join_agrees : (j : ℕ) (x : View) → get_elem? joined_views j ≡ some x → Agrees k s.words x
    join_agrees j x at =
        let w : View = united d e in let a = o.agree id d me in let b = o.agree other e there in
        let over : Agrees k s.words spent = record {
          live = inr refl;
          held = tt;
          found = tt;
          knows = tt;
          taken = tt;
          due = λ u. omega arith;
        } in
        let both : Agrees k s.words w = record {
          live = inl (live, omega (arith, share_kept k s o id d me live));
          held = a.held;
          found = each-append (IsFoundAt k s.words) d.found e.found a.found b.found;
          knows = each-append (IsSettledAt k s.words) d.settled e.settled a.knows b.knows;
          taken = a.taken;
          due = a.due;
        } in
        each_set (Agrees k s.words) taken_in.views other spent over
        (λ j x _. each_set (Agrees k s.words) s.views id w both (λ j x _. o.agree j x) j x) j x at

    -- what was tracked is so still: the other pass tracked nothing
    join_tracks : (u : ℕ) → Tracks k s u → Tracks k (after joined_views) u
    join_tracks u q = tracks_set k taken_in s.words other e spent them u
        (λ i. absurd (none_in u e.taken free.0 i)) (λ i. absurd (none_in u e.owed free.1 i))
        (tracks_set k s s.words id d (united d e) me u (λ i. i) (λ i. i) q)

    -- each record was there before
    join_member : (q : Drawn) → Member k (after joined_views) q → Member k s q
    join_member q m = member_set k taken_in s.words other spent q (λ i. absurd i)
        (member_set k s s.words id (united d e) q
        (λ i. ⊎_elim (λ l. (id, d, me, l)) (λ l. (other, e, there, l)) (in_append q d.mine e.mine i)) (λ old. old)) m

    -- the rule stays after a join
    joined : Sound k (after joined_views)
    joined =
        let b = o.agree other e there in let sums = join_sums in
        with_views joined_views (omega (arith, sums (λ x. x.share)))
        (λ v. omega (arith, sums (λ x. times v x.held), ap (times v) idle))
        (λ v. omega (arith, sums (λ x. times v x.due), b.due v, ap (times v) idle))
        (λ g. omega (arith, sums (λ x. total g x.mine), total-append g d.mine e.mine))
        (λ g. omega (arith, sums (λ x. total g x.changes), total-append g d.changes e.changes))
        (λ v. omega (arith, sums (λ x. times v x.settled), total-append (is_at v) d.settled e.settled)) join_agrees
        join_member join_tracks

-- a pass may give away a part of its share
pub splits : {S : Type 0} (k : Opening) (id : ℕ) (d : View) (part : ℕ) → d.opening ≡ Some k → 1 ≤ part
    → part < d.share → Splits (Sound {S = S} k) id d (cut_left d part) (cut_right d part)
splits k id d part live low high s o me = split k s o id d me live part low high

-- a pass may take in an idle one
pub joins : {S : Type 0} (k : Opening) (id : ℕ) (d : View) (other : ℕ) (e : View) → d.opening ≡ Some k
    → e.held ≡ [] → (e.taken ≡ []) × (e.owed ≡ [])
    → Joins (Sound {S = S} k) id d other e (united d e) spent
joins k id d other e live idle free s o me apart them = joined k s o id d me live other e idle free apart them

-- a load tells that the share of a pass is at most 64
pub refutes : {S : Type 0} (k : Opening) (slots id : ℕ) (m : Me S View) (i : ℕ)
    → Allows (Sound k) slots id m i (λ x. x) (λ r n. (n ≡ m) × (m.0.share ≤ 64))
refutes k slots id m i s o _ me small =
    let le = term_le (λ (x : View). x.share) s.views id m.0 me in (
      m.0,
      keeps,
      tt,
      loaded k s o id i m.0 me,
      (refl, omega (arith, o.shares)),
    )
