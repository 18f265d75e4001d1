-- What a walk gains, round by round, and the meaning of its result.
use Rattle.std.proofs.Common.{inl, inr, ◌≡◌, ◌⊎◌, ℕ, ◌+◌, ◌<◌, ◌≤◌, List, [], ◌∷◌, ◌++◌, length, refl, sym, ap, subst, ◌∙◌, arith, append_assoc, append-nil}
use Rattle.std.proofs.lemmas.List.{length_push}
use Rattle.pop_model.specs.Families.{IsEvent}
use Rattle.pop_model.specs.Logs.{LogRecord}
use Rattle.claim_words.specs.Maps.{Pairs, In}
use Rattle.claim_words.specs.Steps.{Drawn}
use Rattle.claim_words.specs.declared.opening.Opening.{Opening}
use Rattle.claim_words.specs.declared.view.View.{View}
use Rattle.claim_words.proofs.Totals.{each-append}
use Rattle.event_finders.specs.declared.tried.Tried.{Tried}
use Rattle.event_finders.specs.declared.tried.Tried.TheVariants.{Popped, Busy, OutOfMemory}
use Rattle.event_finders.specs.Gains.{Stays, Rises}
use Rattle.event_finders.specs.Walks.{KeepsKnown, GainsTickets, AreCounted, Closes, CloseAll, PopsCycles, IsWalkAnswer}
use Rattle.event_finders.specs.WalkSteps.{Same, PopsLoop, Says, EndsAt}
use Rattle.event_finders.proofs.WalkTraces.{close_all_on, close_all_more}

-- what stays in two turns stays
pub stays_then : (d e f : View) → Stays d e → Stays e f → Stays d f
stays_then d e f a b = record {
  share = b.share ∙ a.share;
  moves = b.moves ∙ a.moves;
  taken = b.taken ∙ a.taken;
  owed = b.owed ∙ a.owed;
  changes = b.changes ∙ a.changes;
}

-- claims in two turns
pub same_then : (d e f : View) → Same d e → Same e f → Same d f
same_then d e f a b = record {
  stays = stays_then d e f a.stays b.stays;
  mine = b.mine ∙ a.mine;
  known = λ p i. b.known p (a.known p i);
}

-- what was known before is known after claims
pub known_from : (d c e : View) → c ≡ d → Same c e → KeepsKnown d e
known_from d c e is same p i = same.known p (subst (λ (v : View). In p v.settled) (sym is) i)

-- tickets that rise behind others
rises_then : (before a b : List Drawn) → Rises before a → Rises (before ++ a) b → Rises before (a ++ b)
rises_then before [] b one two = subst (λ (l : List Drawn). Rises l b) (append-nil before) two
rises_then before (r ∷ a) b one two = (
  one.0,
  rises_then (before ++ r ∷ []) a b one.1
      (subst (λ (l : List Drawn). Rises l b) (sym (append_assoc before (r ∷ []) a)) two),
)

-- nothing was gained
pub gains_none : (k : Opening) (d f : View) → f.mine ≡ d.mine → GainsTickets k d f []
gains_none k d f same = record { mine = same ∙ sym (append-nil d.mine); events = tt; rise = tt }

-- the ticket of a popped loop was gained
pub gains_one : (k : Opening) (d e f g : View) (path : Pairs) (place t : ℕ) → e.mine ≡ d.mine
    → (p : PopsLoop k e f path place t) → g.mine ≡ f.mine → GainsTickets k d g ((t, p.popped) ∷ [])
gains_one k d e f g path place t a p is = record {
  mine = is ∙ p.mine ∙ ap (λ (l : List Drawn). l ++ (t, p.popped) ∷ []) a;
  events = (p.event, tt);
  rise = (λ q i. p.newer q (subst (In q) (sym a) i), tt);
}

-- gains in two turns
pub gains_then : (k : Opening) (d e f : View) (a b : List Drawn) → GainsTickets k d e a → GainsTickets k e f b
    → GainsTickets k d f (a ++ b)
gains_then k d e f a b one two = record {
  mine = two.mine ∙ ap (λ (l : List Drawn). l ++ b) one.mine ∙ append_assoc d.mine a b;
  events = each-append (λ (r : Drawn). IsEvent k.instance.value.family r.1.event) a b one.events two.events;
  rise = rises_then d.mine a b one.rise (subst (λ (l : List Drawn). Rises l b) one.mine two.rise);
}

-- what was gained in so many rounds; the last ticket
pub record Gained (k : Opening) (d e : View) (n last start : ℕ) : Type 0 where
  pub added : List Drawn
  pub gains : GainsTickets k d e added
  pub closed : CloseAll k 0 d e start added
  pub many : length added ≡ n
  pub ends : (n ≡ 0) ⊎ ((before : List Drawn) × (r : LogRecord) × (added ≡ before ++ (last, r) ∷ []))

-- one round more
pub gained_more : (k : Opening) (d e f : View) (n last t start : ℕ) (r : LogRecord) (seen : Pairs)
    → Gained k d e n last start → GainsTickets k e f ((t, r) ∷ []) → f.seen ≡ e.seen ++ seen
    → Closes k n d f start r → Gained k d f (n + 1) t start
gained_more k d e f n last t start r seen g more is closes = record {
  added = g.added ++ (t, r) ∷ [];
  gains = gains_then k d e f g.added ((t, r) ∷ []) g.gains more;
  closed = close_all_more k 0 n d f start g.added (t, r) (close_all_on k 0 d e f start g.added seen g.closed is)
      (omega (arith, g.many)) closes;
  many = omega (arith, length_push g.added (t, r), g.many);
  ends = inr (g.added, r, refl);
}

-- a walk that ends behind them popped as many cycles, as its answer says
pub over_mine : (k : Opening) (d e f : View) (n last start pops : ℕ) (answer : Tried) (v : ℕ) (seen : Pairs)
    → Gained k d e n last start → GainsTickets k e f [] → f.seen ≡ e.seen ++ seen → n < pops → Says f v answer
    → PopsCycles k d f pops start answer
over_mine k d e f n last start pops answer v seen g none is less says = (
  g.added ++ [],
  gains_then k d e f g.added [] g.gains none,
  few answer says,
  subst (CloseAll k 0 d f start) (sym (append-nil g.added)) (close_all_on k 0 d e f start g.added seen g.closed is),
)
  where
    fewer : length (g.added ++ []) < pops
    fewer = omega (arith, ap length (append-nil g.added), g.many, less)

    few : (a : Tried) → Says f v a → AreCounted pops (g.added ++ []) a
    few (Popped t) s = absurd s
    few a s = fewer

-- a walk that popped as many as were asked for ends behind them, once all is released
pub end_mine : (k : Opening) (d e f : View) (n last start pops : ℕ) → Gained k d e n last start → f.mine ≡ e.mine
    → f.seen ≡ e.seen → n ≡ pops → 1 ≤ pops → PopsCycles k d f pops start (Popped last)
end_mine k d e f n last start pops g mine seen all some = (
  g.added,
  record { mine = mine ∙ g.gains.mine; events = g.gains.events; rise = g.gains.rise },
  counted g.ends,
  close_all_on k 0 d e f start g.added [] g.closed (seen ∙ sym (append-nil e.seen)),
)
  where
    counted : (n ≡ 0) ⊎ ((before : List Drawn) × (r : LogRecord) × (g.added ≡ before ++ (last, r) ∷ []))
        → AreCounted pops g.added (Popped last)
    counted (inl none) = absurd (omega (arith, none, all, some))
    counted (inr more) = (more.0, more.1, more.2, g.many ∙ all)

-- what the last round says of the walk
pub over_answer : (k : Opening) (n : ℕ) (d e : View) (start pops : ℕ) (answer : Tried) → n < pops
    → e.share ≡ d.share → Says e start answer → EndsAt k n d e start answer → IsWalkAnswer k d e pops start answer
over_answer k n d e start pops (Popped t) less share says ends = absurd says
over_answer k n d e start pops (Busy v w) less share says ends =
    (says.0, inr (n, less, ends), (λ sole. says.1 (share ∙ sole)), says.2)
over_answer k n d e start pops OutOfMemory less share says ends = tt
over_answer k n d e start pops answer less share says ends = says
