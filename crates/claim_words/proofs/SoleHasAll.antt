-- A pass that has all shares has the whole history.
use Rattle.std.proofs.Common.{◌≡◌, ◌⊎◌, ℕ, zero, suc, ◌+◌, ◌<◌, List, [], ◌∷◌, ◌++◌, length, get_or, sym, refl, ap, ◌∙◌, subst, ⊎_elim, arith, ext_get_or}
use Rattle.std.proofs.lemmas.List.{get_or_push, get_or_append_left}
use mathlib.Core.Logic.{dite}
use native.Mathlib.Decide.{ℕ_discrete}
use mathlib.Core.Option.{some, some-injective}
use lib.ListN.{get_elem?}
use Rattle.atomic_table.specs.Table.{State, Final, Seen}
use Rattle.claim_words.specs.declared.view.View.{View}
use Rattle.claim_words.specs.declared.opening.Opening.{Opening}
use Rattle.claim_words.specs.Words.{cursor_in}
use Rattle.claim_words.specs.Maps.{total, In, below, times}
use Rattle.claim_words.specs.Openings.{count}
use Rattle.claim_words.specs.Steps.{Drawn, spent}
use Rattle.claim_words.specs.Machine.{uses, used, abstract, Tracks, Sound}
use Rattle.claim_words.specs.TicketLogs.{Whole, LeadsTo, log_of}
use Rattle.claim_words.specs.Closing.{Closes}
use Rattle.claim_words.proofs.Totals.{alone, terms_le}
use Rattle.pop_model.specs.Logs.{replay}
use Rattle.claim_words.proofs.TicketsAreLegal.{leads_to, many, replay_long}
use Rattle.claim_words.proofs.TicketsAreNumbered.{merged}

module _ {S : Type 0} (k : Opening) (s : State S View) (o : Sound k s) (id : ℕ) (d : View)
    (me : get_elem? s.views id ≡ some d) (sole : d.share ≡ 64) where
  -- a weight that an ended pass does not have is all with the sole one
  pub only_mine : (g : View → ℕ) → g spent ≡ 0 → total g s.views ≡ g d
  only_mine g none = alone (λ (x : View). x.share) g s.views id d me
      (λ j x at zero. ⊎_elim (λ l. absurd (omega (arith, l.1))) (λ (l : x ≡ spent). ap g l ∙ none)
      (o.agree j x at).live) (o.shares ∙ sym sole)

  -- the history is that of the sole pass
  pub whole : Whole k d.mine (get_or s.words 0 0) (abstract k s)
  whole = record {
    tickets = λ f. omega (arith, only_mine (λ (x : View). total (λ r. f r.0) x.mine) refl, o.history.tickets f);
    entries = λ v h f. omega
        (arith, only_mine (λ (x : View). total (λ r. used f v (uses r.1)) x.mine) refl, o.history.entries v h f);
    popped = λ r i. o.history.popped r (id, d, me, i);
    order = λ r q i j. o.history.order r q (id, d, me, i) (id, d, me, j);
    low = o.history.low;
  }

  -- its records lead to the abstract cursors
  pub sole_leads : LeadsTo k d.mine (abstract k s)
  sole_leads = leads_to k d.mine (get_or s.words 0 0) (abstract k s) whole o.counted

  -- where it holds nothing, the abstract cursors are those of the words
  pub settled_at : d.held ≡ [] → (v : ℕ) → abstract k s v ≡ cursor_in (get_or s.words (1 + v) 0)
  settled_at idle v = omega
      (arith, only_mine (λ (x : View). times v x.due) refl, (o.agree id d me).due v, ap (times v) idle)

  -- what some pass tracks, a sole one does
  pub tracks_mine : (u : ℕ) → Tracks k s u → In u d.taken ⊎ In u d.owed
  tracks_mine u r = dite (ℕ_discrete r.0 id)
      (λ is. let same : r.1 ≡ d = some-injective r.1 d (sym r.2 ∙ ap (get_elem? s.views) is ∙ me) in
      subst (λ (x : View). In u x.taken ⊎ In u x.owed) same r.3)
      (λ ne. ⊎_elim (λ l. absurd
      (omega (arith, l.1, terms_le (λ (x : View). x.share) s.views id r.0 d r.1 ne me r.2, o.shares, sole)))
      (λ (l : r.1 ≡ spent). let z : In u [] ⊎ In u [] = subst (λ (x : View). In u x.taken ⊎ In u x.owed) l r.3 in
      ⊎_elim (λ (i : In u []). absurd i) (λ (i : In u []). absurd i) z)
      (o.agree r.0 r.1 r.2).live)

-- the history with equal cursors
whole_moves : (k : Opening) (mine : List Drawn) (t : ℕ) (c e : ℕ → ℕ) → ((v : ℕ) → v < count k → e v ≡ c v)
    → Whole k mine t c → Whole k mine t e
whole_moves k mine t c e same w = record {
  tickets = w.tickets;
  entries = λ v h f. omega (arith, w.entries v h f, ap (below f) (same v h));
  popped = w.popped;
  order = w.order;
  low = λ v h. omega (arith, w.low v h, same v h);
}

-- the member at a place
pub at_least : (l : List ℕ) (i a : ℕ) → get_elem? l i ≡ some a → get_or l i 0 ≡ a
at_least [] i a e = absurd (mathlib.Core.Option.some-ne-none a (sym e))
at_least (x ∷ xs) zero a e = mathlib.Core.Option.some-injective x a e
at_least (x ∷ xs) (suc i) a e = at_least xs i a e

-- what a sole pass that holds nothing knows of the words at the end
pub closes : {S : Type 0} (k : Opening) (id : ℕ) (d : View) (ws : List ℕ) (xs : List S) (cursors : List ℕ)
    (pops : ℕ) → Final (Seen (Sound k) id d) ws xs → d.share ≡ 64 → d.held ≡ []
    → get_elem? ws 0 ≡ some pops → length cursors ≡ count k
    → ((v : ℕ) → v < count k → get_or cursors v 0 ≡ cursor_in (get_or ws (1 + v) 0)) → Closes k d cursors pops
closes k id d ws xs cursors pops final sole idle first long each =
    let s = final.0 in let o = final.1.0 in let me = final.1.1 in let words : s.words ≡ ws = final.2 in
    let all = whole k s o id d me sole in
    let same : (v : ℕ) → v < count k → get_or cursors v 0 ≡ abstract k s v = λ v h. each v h
    ∙ ap (λ (l : List ℕ). cursor_in (get_or l (1 + v) 0)) (sym words)
    ∙ sym (settled_at k s o id d me sole idle v) in
    let drawn : get_or s.words 0 0 ≡ pops = ap (λ (l : List ℕ). get_or l 0 0) words ∙ at_least ws 0 pops first in
    let w : Whole k d.mine pops (λ v. get_or cursors v 0) = subst
    (λ (t : ℕ). Whole k d.mine t (λ v. get_or cursors v 0)) drawn
    (whole_moves k d.mine (get_or s.words 0 0) (abstract k s) (λ v. get_or cursors v 0) same all) in
    let led = leads_to k d.mine pops (λ v. get_or cursors v 0) w o.counted in
    let end : List ℕ = replay k.start.value (log_of d.mine) in
    let long_end : length end ≡ count k = replay_long k d.mine pops (λ v. get_or cursors v 0) w o.counted in
    record {
      pops_are = sym (many k d.mine pops (λ v. get_or cursors v 0) w o.counted);
      whole = w;
      merged = merged k d.mine pops (λ v. get_or cursors v 0) w o.counted;
      legal = led.legal;
      cursors_are = ext_get_or 0 cursors end (long ∙ sym long_end) (λ v h. sym (led.cursors v (omega arith)));
    }

-- the last of a list
pub last_of : (l : List ℕ) (a i : ℕ) → i ≡ length l → get_or (l ++ a ∷ []) i 0 ≡ a
last_of l a i e = get_or_push l a 0 i (sym e)

-- one before the last
pub before_last : (l : List ℕ) (a i : ℕ) → i < length l → get_or (l ++ a ∷ []) i 0 ≡ get_or l i 0
before_last l a i h = get_or_append_left l (a ∷ []) 0 i h
