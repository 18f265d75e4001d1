-- Tickets, entries and marks after the view of a pass changes.
use Rattle.std.proofs.Common.{◌≡◌, ◌≢◌, ◌⊎◌, ℕ, ◌+◌, ◌<◌, List, get_or, set, sym, ap, ◌∙◌, subst, inl, inr, ⊎_elim, arith}
use mathlib.Core.Logic.{dite}
use native.Mathlib.Decide.{ℕ_discrete}
use mathlib.Core.Option.{some, some-injective}
use lib.ListN.{get_elem?}
use Rattle.atomic_table.specs.Table.{State}
use Rattle.atomic_table.proofs.Lists.{at_set, set_here, set_else}
use Rattle.claim_words.specs.declared.view.View.{View}
use Rattle.claim_words.specs.declared.opening.Opening.{Opening}
use Rattle.claim_words.specs.Maps.{total, In, below}
use Rattle.claim_words.specs.Changes.{Change, found_mark, left_mark}
use Rattle.claim_words.specs.Openings.{count, Has, marks}
use Rattle.claim_words.specs.Steps.{Drawn}
use Rattle.claim_words.specs.Machine.{Use, used, abstract, Member, History, uses, IsPoppableAt, Tracks, Marked}
use Rattle.claim_words.proofs.Totals.{inside, term_le}
use Rattle.claim_words.proofs.SumsBelow.{below-same, only, only-same, only-low}
use Rattle.claim_words.proofs.Memberships.{in_le}
use Rattle.claim_words.proofs.TicketsAreLegal.{used-in}

-- what is poppable depends on the cursors of variables alone
pub pops_same : (k : Opening) (a b : ℕ → ℕ) (u : ℕ) → ((v : ℕ) → v < count k → b v ≡ a v)
    → IsPoppableAt k b u → IsPoppableAt k a u
pops_same k a b u same r = record {
  cube = r.cube;
  event = r.event;
  ready = λ p i. let t = r.ready p i in let e = same p.0 t.0 in
      (t.0, subst (λ (x : ℕ). Has k p.0 x p.1) e t.1, omega (arith, t.2, e));
}

module _ {S : Type 0} (k : Opening) where
  -- the marks' part stays where no mark and no change of one is new, and what is poppable is covered
  pub marks_stay : (s t : State S View) → Marked k s
      → ((u : ℕ) → u < marks k → get_or t.words (1 + count k + u) 0 ≡ get_or s.words (1 + count k + u) 0)
      → ((g : Change → ℕ)
      → total (λ (d : View). total g d.changes) t.views ≡ total (λ (d : View). total g d.changes) s.views)
      → ((u : ℕ) → u < marks k → IsPoppableAt k (abstract k t) u
      → (get_or t.words (1 + count k + u) 0 ≡ 1) ⊎ Tracks k t u) → Marked k t
  marks_stay s t m same sums covers = record {
    bits = λ u h. omega (arith, m.bits u h, same u h);
    counts = λ u h. omega (arith, m.counts u h, same u h, sums (found_mark u), sums (left_mark u));
    covers = covers;
  }

  -- it is covered where no abstract cursor is new, and what was tracked is so still
  pub same_marks : (s t : State S View) → Marked k s
      → ((u : ℕ) → u < marks k → get_or t.words (1 + count k + u) 0 ≡ get_or s.words (1 + count k + u) 0)
      → ((g : Change → ℕ)
      → total (λ (d : View). total g d.changes) t.views ≡ total (λ (d : View). total g d.changes) s.views)
      → ((v : ℕ) → v < count k → abstract k t v ≡ abstract k s v) → ((u : ℕ) → Tracks k s u → Tracks k t u)
      → Marked k t
  same_marks s t m same sums abs tracks = marks_stay s t m same sums (λ u h p.
      ⊎_elim (λ e. inl (same u h ∙ e)) (λ r. inr (tracks u r))
      (m.covers u h (pops_same k (abstract k s) (abstract k t) u abs p)))

  -- a unit is tracked still where the pass keeps it
  pub tracks_set : (s : State S View) (ws : List ℕ) (id : ℕ) (d e : View) → get_elem? s.views id ≡ some d → (u : ℕ)
      → (In u d.taken → In u e.taken) → (In u d.owed → In u e.owed) → Tracks k s u
      → Tracks k (record { words = ws; homes = s.homes; views = set s.views id e }) u
  tracks_set s ws id d e me u f g r = dite (ℕ_discrete r.0 id)
      (λ is. let same : r.1 ≡ d = some-injective r.1 d (sym r.2 ∙ ap (get_elem? s.views) is ∙ me) in (
        id,
        e,
        set_here s.views id e (inside s.views id d me),
        ⊎_elim (λ i. inl (f i)) (λ i. inr (g i)) (subst (λ (x : View). In u x.taken ⊎ In u x.owed) same r.3),
      ))
      (λ ne. (r.0, r.1, set_else s.views id r.0 e ne ∙ r.2, r.3))

  -- the histories' part stays where no ticket is drawn and no abstract cursor changes
  pub same_history : (s t : State S View) → History k s → get_or t.words 0 0 ≡ get_or s.words 0 0
      → ((v : ℕ) → v < count k → abstract k t v ≡ abstract k s v)
      → ((g : Drawn → ℕ)
      → total (λ (d : View). total g d.mine) t.views ≡ total (λ (d : View). total g d.mine) s.views)
      → ((r : Drawn) → Member k t r → Member k s r) → History k t
  same_history s t h tick abs mass member = record {
    tickets = λ f. mass (λ r. f r.0) ∙ h.tickets f ∙ ap (below f) (sym tick);
    entries = λ v n f. omega (arith, mass (λ r. used f v (uses r.1)), h.entries v n f, ap (below f) (abs v n));
    popped = λ r m. h.popped r (member r m);
    order = λ r q m n. h.order r q (member r m) (member q n);
    low = λ v n. omega (arith, h.low v n, abs v n);
    few = omega (arith, h.few, tick, below-same (abstract k t) (abstract k s) (count k) abs);
  }

  -- a record is one of the pass's, or was there before
  pub member_set : {X : Type 0} (s : State S View) (ws : List ℕ) (id : ℕ) (e : View) (r : Drawn)
      → (In r e.mine → X) → (Member k s r → X)
      → Member k (record { words = ws; homes = s.homes; views = set s.views id e }) r → X
  member_set s ws id e r mine old m = ⊎_elim
      (λ (t : (m.0 ≡ id) × (e ≡ m.1)). mine (subst (λ (x : View). In r x.mine) (sym t.1) m.3))
      (λ (t : (m.0 ≢ id) × (get_elem? s.views m.0 ≡ some m.1)). old (m.0, m.1, t.1, m.3))
      (at_set s.views id m.0 e m.1 m.2)

  -- every ticket is below the number of word 0
  pub ticket_low : (s : State S View) → History k s → (r : Drawn) → Member k s r → r.0 < get_or s.words 0 0
  ticket_low s h r m = only-low r.0 (get_or s.words 0 0) (omega (
    arith,
    h.tickets (only r.0),
    term_le (λ (d : View). total (λ q. only r.0 q.0) d.mine) s.views m.0 m.1 m.2,
    in_le (λ (q : Drawn). only r.0 q.0) r m.1.mine m.3,
    only-same r.0,
  ))

  -- every entry is below the abstract cursor
  pub entry_low : (s : State S View) → History k s → (r : Drawn) (e : Use) → Member k s r → In e (uses r.1)
      → (v : ℕ) → v < count k → e.0 ≡ v → e.2 < abstract k s v
  entry_low s h r e m i v near is =
      let g : Drawn → ℕ = λ q. used (only e.2) v (uses q.1) in
      only-low e.2 (abstract k s v) (omega (
        arith,
        h.entries v near (only e.2),
        term_le (λ (d : View). total g d.mine) s.views m.0 m.1 m.2,
        in_le g r m.1.mine m.3,
        used-in (only e.2) v (uses r.1) e i is,
        only-same e.2,
      ))
