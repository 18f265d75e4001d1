-- On an extremal instance any two legal logs from the same cursors to ends are reorderings of one another. An event
-- that is poppable at the start is popped in each such log. No event before that pop shares a variable with it, so its
-- record can be moved to the front.
use Rattle.std.proofs.Common.{inl, inr, ◌≡◌, ◌≢◌, ℕ, List, [], ◌∷◌, sym, ap, subst, ◌∙◌}
use Rattle.pop_model.specs.Popping.{IsPoppable, pop}
use Rattle.pop_model.specs.Families.{Event, IsEvent}
use Rattle.pop_model.specs.Instances.{Instance}
use Rattle.pop_model.specs.Extremal.{IsExtremal, Share}
use Rattle.pop_model.specs.Logs.{LogRecord, IsLegal, replay}
use Rattle.pop_model.specs.Runs.{IsEnd}
use Rattle.pop_model.proofs.PopLemmas.{entries_agree}
use Rattle.pop_model.proofs.Diamond.{Apart, apart_unless_shared, occur_together, poppable_apart, cursor_apart}
use Rattle.pop_model.proofs.UniqueEnd.{same_event, made, record_of}
use Rattle.pop_log.specs.Layers.{Depend}
use Rattle.pop_log.proofs.Reordering.{IsReordered, reordered_cons, reordered_trans}
use Rattle.pop_log.proofs.Reordering.IsReordered.{same, exchanged}
use Rattle.pop_log.proofs.Exchanges.{legal_reordered, replay_reordered}

-- a log from here, reordered so that this event is popped first
pub record PopsFirst (c : List ℕ) (e : Event) (log : List LogRecord) : Type 0 where
  pub rest : List LogRecord
  pub moved : IsReordered Depend log (record_of c e ∷ rest)

-- different events that occur together share no variable
no_share : (i : Instance) → IsExtremal i.family → (c : List ℕ) (e f : Event) → IsEvent i.family e
    → IsEvent i.family f → e ≢ f → IsPoppable i.stacks c e.cube → IsPoppable i.stacks c f.cube
    → Share e.cube f.cube → ⊥
no_share i extremal c e f is is' differ pop_e pop_f shared =
    occur_together i.stacks c e.cube f.cube pop_e.occurs pop_f.occurs (extremal e f is is' differ shared)

-- the event is popped first already
at_front : (i : Instance) (c : List ℕ) (e : Event) (r : LogRecord) (log : List LogRecord) → r.event ≡ e
    → IsLegal i c (r ∷ log) → PopsFirst c e (r ∷ log)
at_front i c e r log equal legal =
    let is : r ≡ record_of c e = ap (made r.event) legal.0.entries ∙ ap (record_of c) equal in
    record {
      rest = log;
      moved = subst (λ x. IsReordered Depend (r ∷ log) (x ∷ log)) is (same (r ∷ log));
    }

-- an event that is popped behind one with which it shares no variable may be popped before it
behind : (c : List ℕ) (e : Event) (r : LogRecord) (log : List LogRecord) → (Share r.event.cube e.cube → ⊥)
    → PopsFirst (pop c r.event.cube) e log → PopsFirst c e (r ∷ log)
behind c e r log none p =
    let later = pop c r.event.cube in
    let apart : Apart r.event.cube e.cube = apart_unless_shared r.event.cube e.cube none in
    let same_record : record_of later e ≡ record_of c e =
    ap (made e) (sym (entries_agree c later e.cube (cursor_apart c r.event.cube e.cube apart))) in
    record {
      rest = r ∷ p.rest;
      moved = subst (λ x. IsReordered Depend (r ∷ log) (x ∷ r ∷ p.rest)) same_record
          (reordered_trans Depend (r ∷ log) (r ∷ record_of later e ∷ p.rest) (record_of later e ∷ r ∷ p.rest)
          (reordered_cons Depend r log (record_of later e ∷ p.rest) p.moved)
          (exchanged [] p.rest r (record_of later e) (record_of later e ∷ r ∷ p.rest) none
          (same (record_of later e ∷ r ∷ p.rest))));
    }

-- a legal log to an end pops each event that is poppable at its start, and that pop may as well come first
pops_first : (i : Instance) → IsExtremal i.family → (c : List ℕ) (e : Event) → IsEvent i.family e
    → IsPoppable i.stacks c e.cube → (log : List LogRecord) → IsLegal i c log → IsEnd i (replay c log)
    → PopsFirst c e log
pops_first i extremal c e is pop_e [] legal end = absurd (end e is pop_e)
pops_first i extremal c e is pop_e (r ∷ log) legal end = elim (same_event r.event e) [
  | inl equal ↦ at_front i c e r log equal legal
  | inr differ ↦
      let none = no_share i extremal c r.event e legal.0.event is differ legal.0.poppable pop_e in
      let apart = apart_unless_shared r.event.cube e.cube none in
      behind c e r log none
      (pops_first i extremal (pop c r.event.cube) e is (poppable_apart i.stacks c r.event.cube e.cube apart pop_e) log
      legal.1 end)
]

-- any two legal logs from one vector to ends
pub one_trace : (i : Instance) → IsExtremal i.family → (c : List ℕ) (log other : List LogRecord) → IsLegal i c log
    → IsLegal i c other → IsEnd i (replay c log) → IsEnd i (replay c other) → IsReordered Depend other log
one_trace i extremal c [] [] legal legal' end end' = same []
one_trace i extremal c [] (r ∷ other) legal legal' end end' = absurd (end r.event legal'.0.event legal'.0.poppable)
one_trace i extremal c (r ∷ log) other legal legal' end end' =
    let first = pops_first i extremal c r.event legal.0.event legal.0.poppable other legal' end' in
    let is : record_of c r.event ≡ r = ap (made r.event) (sym legal.0.entries) in
    let moved : IsReordered Depend other (r ∷ first.rest) =
    subst (λ x. IsReordered Depend other (x ∷ first.rest)) is first.moved in
    let legal'' : IsLegal i c (r ∷ first.rest) = legal_reordered i c other (r ∷ first.rest) moved legal' in
    let one : replay c (r ∷ first.rest) ≡ replay c other = replay_reordered c other (r ∷ first.rest) moved in
    let rest : IsReordered Depend first.rest log =
    one_trace i extremal (pop c r.event.cube) log first.rest legal.1 legal''.1 end (subst (IsEnd i) (sym one) end') in
    reordered_trans Depend other (r ∷ first.rest) (r ∷ log) moved (reordered_cons Depend r first.rest log rest)
