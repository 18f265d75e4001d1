-- The tickets of a pass that has the whole history are a legal log, in their order.
--
-- The proof is by induction over the tickets. The records of the tickets below n lead from the start to cursors. For
-- each variable these are the start and the number of entries of the variable in these records (`replayed`). An entry
-- of ticket n is exactly above those (`placed`): of two entries of one variable the lower has the lower ticket, and
-- the entries have no gap. So the record of ticket n is legal there (`legal_there`).
use Rattle.std.proofs.Common.{◌≡◌, ℕ, zero, suc, ◌+◌, ◌<◌, ◌≤◌, ◌≢◌, List, [], ◌∷◌, ◌++◌, sym, refl, ap, ◌∙◌, subst, inl, inr, ⊎_elim, arith, eq-eqb, ap₂, All, length}
use Rattle.std.proofs.lemmas.Bool.Decides.{nat_tests}
use Rattle.std.proofs.lemmas.List.Elements.{All-cons}
use mathlib.Core.Logic.{dite}
use native.Mathlib.Decide.{ℕ_discrete, dec_le}
use Rattle.pop_model.specs.Stacks.{value_at, height_of}
use Rattle.pop_model.specs.Popping.{Cube, cursor}
use Rattle.pop_model.specs.Logs.{LogRecord, IsLegalAt, IsLegal, entries_at, replay}
use Rattle.pop_model.proofs.PopLemmas.{cursor-pop}
use Rattle.pop_model.proofs.Replays.{length-replay}
use Rattle.confluence_core.proofs.LegalLogs.{legal_push, replay_push}
use Rattle.claim_words.specs.declared.opening.Opening.{Opening}
use Rattle.claim_words.specs.Maps.{total, In, below, is_at, times}
use Rattle.claim_words.specs.Openings.{count, begun}
use Rattle.claim_words.specs.Steps.{Drawn}
use Rattle.claim_words.specs.Machine.{Use, uses_of, uses, used}
use Rattle.claim_words.specs.TicketLogs.{Whole, find, log_below, log_of, LeadsTo}
use Rattle.claim_words.proofs.Totals.{total-one}
use Rattle.claim_words.proofs.HeldLemmas.{once, names_raise}
use Rattle.claim_words.proofs.SumsBelow.{only, only-same, only-low, below-only, below-only-in, if_eq, if_lt, if_lt-yes, if_lt-no, below-lt, below-one}
use Rattle.claim_words.proofs.Memberships.{in_le, same-in}

-- where one record has the ticket i, it is the one that is found
found : (i : ℕ) (l : List Drawn) → total (λ r. only i r.0) l ≡ 1 → In (i, find i l) l
found i [] e = absurd (omega arith)
found i (x ∷ xs) e = dite (ℕ_discrete x.0 i)
    (λ is. rw (eq-eqb x.0 i is) (inl (ap (λ (j : ℕ). (j, x.1)) is)))
    (λ ne. let same : find i (x ∷ xs) ≡ find i xs = grind (arith, nat_tests) in
    inr (subst (λ (r : LogRecord). In (i, r) xs) (sym same) (found i xs (grind (arith, nat_tests)))))

-- where none has it, no record under it weighs anything
unfound : (g : LogRecord → ℕ) (i : ℕ) (l : List Drawn) → total (λ r. only i r.0) l ≡ 0
    → total (λ r. if_eq r.0 i (g r.1)) l ≡ 0
unfound g i [] e = refl
unfound g i (x ∷ xs) e = grind (arith, nat_tests, unfound g i xs)

-- where one has it, the records under it weigh what that one does
found-weight : (g : LogRecord → ℕ) (i : ℕ) (l : List Drawn) → total (λ r. only i r.0) l ≡ 1
    → total (λ r. if_eq r.0 i (g r.1)) l ≡ g (find i l)
found-weight g i [] e = absurd (omega arith)
found-weight g i (x ∷ xs) e = grind (arith, nat_tests, unfound g i xs, found-weight g i xs)

-- the records below n + 1 are those below n and that of n
one-more : (g : Drawn → ℕ) (n : ℕ) (l : List Drawn) → total (λ r. if_lt r.0 (suc n) (g r)) l
    ≡ total (λ r. if_lt r.0 n (g r)) l + total (λ r. if_eq r.0 n (g r)) l
one-more g n [] = refl
one-more g n (x ∷ xs) = grind (arith, nat_tests, one-more g n xs)

-- no record has a ticket below 0
none-before : (g : Drawn → ℕ) (l : List Drawn) → total (λ r. if_lt r.0 0 (g r)) l ≡ 0
none-before g [] = refl
none-before g (x ∷ xs) = grind (arith, nat_tests, none-before g xs)

-- the entries of v weigh the same where the weights of each are equal
used-same : (f g : ℕ → ℕ) (v : ℕ) (es : List Use)
    → ((e : Use) → In e es → e.0 ≡ v → f e.2 ≡ g e.2) → used f v es ≡ used g v es
used-same f g v es h = same-in (λ (e : Use). if_eq e.0 v (f e.2)) (λ (e : Use). if_eq e.0 v (g e.2)) es
    (λ e i. let same = h e i in grind (arith, nat_tests, same))

-- weights of 0 have the sum 0
used-zero : (v : ℕ) (es : List Use) → used (λ _. 0) v es ≡ 0
used-zero v [] = refl
used-zero v (e ∷ es) = grind (arith, nat_tests, used-zero v es)

-- an entry of v weighs no more than all
pub used-in : (f : ℕ → ℕ) (v : ℕ) (es : List Use) (e : Use) → In e es → e.0 ≡ v → f e.2 ≤ used f v es
used-in f v es e i is =
    let le = in_le (λ (x : Use). if_eq x.0 v (f x.2)) e es i in grind (arith, nat_tests, le)

-- two records under different tickets weigh no more than all
two_in : (g : Drawn → ℕ) (l : List Drawn) (q r : Drawn) → In q l → In r l → q.0 ≢ r.0 → g q + g r ≤ total g l
two_in g [] q r i j ne = absurd i
two_in g (x ∷ xs) q r i j ne = ⊎_elim
    (λ (a : x ≡ q). ⊎_elim
    (λ (b : x ≡ r). absurd (ne (ap (λ (z : Drawn). z.0) (sym a ∙ b))))
    (λ (b : In r xs). omega (arith, ap g a, in_le g r xs b)) j)
    (λ (a : In q xs). ⊎_elim
    (λ (b : x ≡ r). omega (arith, ap g b, in_le g q xs a))
    (λ (b : In r xs). omega (arith, two_in g xs q r a b ne)) j) i

-- a variable's entries, counted, are its pairs
used-times : (v : ℕ) (e : Cube) (ks : List ℕ) → used (λ _. 1) v (uses_of e ks) ≡ times v e
used-times v [] ks = refl
used-times v (p ∷ ps) [] = ap (λ (n : ℕ). is_at v p + n) (used-times v ps [])
used-times v (p ∷ ps) (x ∷ ks) = ap (λ (n : ℕ). is_at v p + n) (used-times v ps ks)

-- what holds of each use, without its entry, holds of all pairs
all_uses : (P : ℕ × ℕ → Type 0) (e : Cube) (ks : List ℕ) → length ks ≡ length e
    → ((u : Use) → In u (uses_of e ks) → P (u.0, u.1)) → All P e
all_uses P [] ks h f = λ j d l. absurd (omega arith)
all_uses P (p ∷ ps) [] h f = absurd (omega arith)
all_uses P (p ∷ ps) (x ∷ ks) h f =
    All-cons P p ps (f (p.0, p.1, x) (inl refl)) (all_uses P ps ks (omega arith) (λ u i. f u (inr i)))

-- the entries are those at cursors that each use has
same_entries : (c : List ℕ) (e : Cube) (ks : List ℕ) → length ks ≡ length e
    → ((u : Use) → In u (uses_of e ks) → u.2 ≡ cursor c u.0) → ks ≡ entries_at c e
same_entries c [] [] h f = refl
same_entries c [] (x ∷ ks) h f = absurd (omega arith)
same_entries c (p ∷ ps) [] h f = absurd (omega arith)
same_entries c (p ∷ ps) (x ∷ ks) h f = ap₂ (λ (y : ℕ) (ys : List ℕ). y ∷ ys)
    (f (p.0, p.1, x) (inl refl)) (same_entries c ps ks (omega arith) (λ u i. f u (inr i)))

module _ (k : Opening) (mine : List Drawn) (t : ℕ) (c : ℕ → ℕ) (w : Whole k mine t c)
    (counted : length k.start.value ≡ count k) where
  -- the cursors of the start
  abbrev start : List ℕ
  start = k.start.value

  -- one record has a ticket below t
  pub single : (n : ℕ) → n < t → total (λ r. only n r.0) mine ≡ 1
  single n h = w.tickets (only n) ∙ below-only-in n t h

  -- all tickets are below t
  pub low : (r : Drawn) → In r mine → r.0 < t
  low r i = only-low r.0 t
      (omega (arith, w.tickets (only r.0), in_le (λ (q : Drawn). only r.0 q.0) r mine i, only-same r.0))

  -- there are t records
  pub many : length mine ≡ t
  many = sym (total-one mine) ∙ w.tickets (λ _. 1) ∙ below-one t

  -- the entries of v in a record, counted
  abbrev counts : ℕ → Drawn → ℕ
  counts v r = used (λ _. 1) v (uses r.1)

  -- the entries of v under tickets below n, counted
  abbrev early : ℕ → ℕ → ℕ
  early v n = total (λ r. if_lt r.0 n (counts v r)) mine

  -- the record of a ticket
  record_in : (n : ℕ) → n < t → In (n, find n mine) mine
  record_in n h = found n mine (single n h)

  -- the tickets below n lead as far from the start as they have entries
  replayed : (v n : ℕ) → v < count k → n ≤ t
      → cursor (replay start (log_below mine n)) v ≡ begun k v + early v n
  replayed v zero near h = omega (arith, none-before (counts v) mine)
  replayed v (suc n) near h =
      let r = find n mine in
      let e : Cube = r.event.cube in
      let log = log_below mine n in
      let made = w.popped (n, r) (record_in n (omega arith)) in
      let inside : v < length (replay start log) = omega (arith, length-replay start log, counted) in
      let more : cursor (replay start (log ++ r ∷ [])) v ≡ cursor (replay start log) v + times v e =
      ap (λ (x : List ℕ). cursor x v) (replay_push start log r) ∙ cursor-pop (replay start log) e v inside
      ∙ names_raise e v (cursor (replay start log) v) (once e made.cube.rising v) in
      omega (
        arith,
        more,
        replayed v n near (omega arith),
        one-more (counts v) n mine,
        found-weight (λ (q : LogRecord). used (λ _. 1) v (uses q)) n mine (single n (omega arith)),
        used-times v e r.entries,
      )

  -- the weight that h gives to the entries of v, over all records
  abbrev all_used : (ℕ → ℕ) → ℕ → ℕ
  all_used h v = total (λ q. used h v (uses q.1)) mine

  module _ (n : ℕ) (r : Drawn) (e : Use) (i : In r mine) (is : r.0 ≡ n) (j : In e (uses r.1)) where
    -- the variable of the use
    abbrev v : ℕ
    v = e.0

    -- its entry
    abbrev x : ℕ
    x = e.2

    -- the variable is one of the board's
    near : v < count k
    near = ((w.popped r i).each e j).0

    -- the entry has its weight among all
    heavy : (h : ℕ → ℕ) → h x ≤ all_used h v
    heavy h = omega (arith, in_le (λ (q : Drawn). used h v (uses q.1)) r mine i, used-in h v (uses r.1) e j refl)

    -- it is below the last cursor
    above : x < c v
    above = only-low x (c v) (omega (arith, w.entries v near (only x), heavy (only x), only-same x))

    -- it isn't below the start
    from : begun k v ≤ x
    from =
        let at : all_used (only x) v + below (only x) (begun k v) ≡ below (only x) (c v) = w.entries v near (only x) in
        dite (dec_le (begun k v) x) (λ le. le)
        (λ gt. absurd (omega (
          arith,
          below-only-in x (begun k v) (omega arith),
          below-only-in x (c v) above,
          heavy (only x),
          only-same x,
        )))

    -- no other use has it
    alone_there : all_used (only x) v ≡ 1
    alone_there =
        omega (arith, w.entries v near (only x), below-only-in x (c v) above, below-only x (begun k v) from)

    -- as many entries are below it as it stands above the start
    counts_below : all_used (λ y. if_lt y x 1) v + begun k v ≡ x
    counts_below = omega (
      arith,
      w.entries v near (λ y. if_lt y x 1),
      below-lt x (c v),
      below-lt x (begun k v),
      above,
      from,
    )

    -- a lesser entry stands under a lower ticket: no entry of this ticket or a later one is less
    none_less : (q : Drawn) → In q mine → n ≤ q.0 → (g : Use) → In g (uses q.1) → g.0 ≡ v → x ≤ g.2
    none_less q m le g p s = dite (dec_le x g.2) (λ o. o)
        (λ lt. absurd (omega (arith, is, w.order q r m i g e p j s (omega arith))))

    -- a greater entry stands under a higher one: each entry of an earlier ticket is less
    each_less : (q : Drawn) → In q mine → q.0 < n → (g : Use) → In g (uses q.1) → g.0 ≡ v → g.2 < x
    each_less q m lt g p s = dite (dec_le x g.2)
        (λ o. dite (ℕ_discrete g.2 x)
        (λ eq. absurd (omega (
          arith,
          alone_there,
          two_in (λ (z : Drawn). used (only x) v (uses z.1)) mine q r m i (λ z. omega (arith, is)),
          used-in (only x) v (uses q.1) g p s,
          used-in (only x) v (uses r.1) e j refl,
          only-same x,
          ap (only x) eq,
        )))
        (λ ne. absurd (omega (arith, is, w.order r q i m e g j p (sym s) (omega arith)))))
        (λ l. omega arith)

    -- so the entries below it are those under lower tickets
    below_is_early : all_used (λ y. if_lt y x 1) v ≡ early v n
    below_is_early =
        let f : ℕ → ℕ = λ y. if_lt y x 1 in
        same-in (λ (q : Drawn). used f v (uses q.1)) (λ (q : Drawn). if_lt q.0 n (counts v q)) mine
        (λ q m. dite (dec_le n q.0)
        (λ le.
        used-same f (λ _. 0) v (uses q.1) (λ g p s. if_lt-no g.2 x 1 (none_less q m le g p s))
        ∙ used-zero v (uses q.1) ∙ sym (if_lt-no q.0 n (counts v q) le))
        (λ lt.
        used-same f (λ _. 1) v (uses q.1) (λ g p s. if_lt-yes g.2 x 1 (each_less q m (omega arith) g p s))
        ∙ sym (if_lt-yes q.0 n (counts v q) (omega arith))))

    -- an entry of the ticket n stands just above those under lower tickets
    placed : x ≡ begun k v + early v n
    placed = omega (arith, counts_below, below_is_early)

  -- a record is legal where those under lower tickets lead
  legal_there : (n : ℕ) → n < t → IsLegalAt k.instance.value (replay start (log_below mine n)) (find n mine)
  legal_there n h =
      let r = find n mine in
      let now = replay start (log_below mine n) in
      let s = k.instance.value.stacks in
      let in_mine = record_in n h in
      let made = w.popped (n, r) in_mine in
      let fits : (u : Use) → In u (uses r) → u.2 ≡ cursor now u.0 =
      λ u j. placed n (n, r) u in_mine refl j ∙ sym (replayed u.0 n (made.each u j).0 (omega arith)) in
      record {
        event = made.event;
        poppable = record {
          occurs = all_uses (λ (p : ℕ × ℕ). value_at s p.0 (cursor now p.0) ≡ p.1) r.event.cube r.entries made.whole
              (λ u j. subst (λ (x : ℕ). value_at s u.0 x ≡ u.1) (fits u j) (made.each u j).1);
          next = all_uses (λ (p : ℕ × ℕ). cursor now p.0 + 1 < height_of s p.0) r.event.cube r.entries made.whole
              (λ u j. subst (λ (x : ℕ). x + 1 < height_of s u.0) (fits u j) (made.each u j).2);
        };
        entries = same_entries now r.event.cube r.entries made.whole fits;
      }

  -- the records of the tickets below n are a legal log
  legal : (n : ℕ) → n ≤ t → IsLegal k.instance.value start (log_below mine n)
  legal zero h = tt
  legal (suc n) h = legal_push k.instance.value start (log_below mine n) (find n mine) (legal n (omega arith))
      (legal_there n (omega arith))

  -- all of them are one, and it leads to the last cursors
  pub leads_to : LeadsTo k mine c
  leads_to = record {
    legal = subst (λ (n : ℕ). IsLegal k.instance.value start (log_below mine n)) (sym many) (legal t (omega arith));
    cursors = λ v near.
        let all : early v t ≡ all_used (λ _. 1) v =
        same-in (λ (q : Drawn). if_lt q.0 t (counts v q)) (counts v) mine
        (λ q m. if_lt-yes q.0 t (counts v q) (low q m)) in
        ap (λ (n : ℕ). cursor (replay start (log_below mine n)) v) many ∙ omega (
          arith,
          replayed v t near (omega arith),
          all,
          w.entries v near (λ _. 1),
          below-one (c v),
          below-one (begun k v),
        );
  }

  -- there is a cursor for each variable
  pub replay_long : length (replay start (log_of mine)) ≡ count k
  replay_long = length-replay start (log_of mine) ∙ counted
