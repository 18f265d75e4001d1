-- On an extremal instance all legal logs from one vector to an end have one replay, one length and the same records.
use Rattle.std.proofs.Common.{inl, inr, ◌≡◌, ◌≢◌, ◌⊎◌, ℕ, suc, List, [], ◌∷◌, length, refl, sym, ap, ap₂, subst, ◌∙◌, arith, IsPermutation}
use Rattle.std.proofs.lemmas.Bool.{cases_eq}
use Rattle.std.proofs.lemmas.List.Sorted.{IsPermutation-refl, IsPermutation-sym, IsPermutation-cons, IsPermutation-trans, IsPermutation-swap}
use Rattle.pop_model.specs.Popping.{Cube, IsPoppable, pop}
use Rattle.pop_model.specs.Families.{Event, IsEvent}
use Rattle.pop_model.specs.Instances.{Instance}
use Rattle.pop_model.specs.Extremal.{IsExtremal}
use Rattle.pop_model.specs.Logs.{LogRecord, IsLegal, replay, entries_at}
use Rattle.pop_model.specs.Runs.{IsEnd}
use Rattle.pop_model.proofs.PopLemmas.{pop_comm, entries_agree}
use Rattle.pop_model.proofs.Diamond.{Apart, apart_if_extremal, poppable_apart, legal_apart, cursor_apart}

-- events are equal or not
same_pair : (p q : ℕ × ℕ) → (p ≡ q) ⊎ (p ≢ q)
same_pair p q = elim (cases_eq p.0 q.0) [
  | inl a ↦ elim (cases_eq p.1 q.1) [ inl b ↦ inl (ap₂ (λ (m n : ℕ). (m, n)) a b) | inr b ↦ inr (λ h. b (ap (λ (r : ℕ × ℕ). r.1) h)) ]
  | inr a ↦ inr (λ h. a (ap (λ (r : ℕ × ℕ). r.0) h))
]

-- two cubes are equal or not
same_cube : (e f : Cube) → (e ≡ f) ⊎ (e ≢ f)
same_cube [] [] = inl refl
same_cube [] (q ∷ f) = inr (λ h. cc)
same_cube (p ∷ e) [] = inr (λ h. cc)
same_cube (p ∷ e) (q ∷ f) = elim (same_pair p q) [
  | inl a ↦ elim (same_cube e f) [ inl b ↦ inl (cc) | inr b ↦ inr (λ h. b (cc)) ]
  | inr a ↦ inr (λ h. a (cc))
]

-- the event of a cube, under its unit
event_of : ℕ → Cube → Event
event_of u e = record { unit = u; cube = e }

-- two events are equal or not
pub same_event : (e f : Event) → (e ≡ f) ⊎ (e ≢ f)
unfolding event_of
same_event e f = elim (cases_eq e.unit f.unit) [
  | inl a ↦ elim (same_cube e.cube f.cube) [ inl b ↦ inl (ap₂ event_of a b) | inr b ↦ inr (λ h. b (ap (λ (x : Event). x.cube) h)) ]
  | inr a ↦ inr (λ h. a (ap (λ (x : Event). x.unit) h))
]

-- the record of an event that is popped at these cursors
abbrev pub made : Event → List ℕ → LogRecord
made e entries = record { event = e; entries = entries }

-- the record of an event that is popped here, with its variables' entries at these cursors
abbrev pub record_of : List ℕ → Event → LogRecord
record_of c e = made e (entries_at c e.cube)

-- a log from here, with this event popped first
pub record PopsFirst (i : Instance) (c : List ℕ) (e : Event) (log : List LogRecord) : Type 0 where
  pub rest : List LogRecord
  pub legal : IsLegal i (pop c e.cube) rest
  pub end : replay (pop c e.cube) rest ≡ replay c log
  pub size : length log ≡ suc (length rest)
  pub same : IsPermutation log (record_of c e ∷ rest)

-- one record in front, and then the other
swapped : {X : Type 0} (a b : X) (xs : List X) → IsPermutation (a ∷ b ∷ xs) (b ∷ a ∷ xs)
swapped a b xs = IsPermutation-swap (a ∷ b ∷ xs) (b ∷ a ∷ xs) 0 1 (omega arith) (omega arith) refl

-- the event is popped first already
at_front : (i : Instance) (c : List ℕ) (e : Event) (r : LogRecord) (log : List LogRecord) → r.event ≡ e
    → IsLegal i c (r ∷ log) → PopsFirst i c e (r ∷ log)
at_front i c e r log same legal =
    let is : r ≡ record_of c e = ap₂ made refl legal.0.entries ∙ ap (record_of c) same in
    record {
      rest = log;
      legal = subst (λ (x : Event). IsLegal i (pop c x.cube) log) same legal.1;
      end = ap (λ (x : Event). replay (pop c x.cube) log) (sym same);
      size = refl;
      same = subst (λ x. IsPermutation (r ∷ log) (x ∷ log)) is (IsPermutation-refl (r ∷ log));
    }

-- an event that is popped behind an apart one may be popped before it
behind : (i : Instance) (c : List ℕ) (e : Event) (r : LogRecord) (log : List LogRecord) → IsLegal i c (r ∷ log)
    → Apart e.cube r.event.cube → Apart r.event.cube e.cube
    → PopsFirst i (pop c r.event.cube) e log → PopsFirst i c e (r ∷ log)
behind i c e r log legal apart apart' p =
    let later = pop c r.event.cube in
    let both = pop_comm c r.event.cube e.cube in
    let same_record : record_of later e ≡ record_of c e =
    ap (made e) (sym (entries_agree c later e.cube (cursor_apart c r.event.cube e.cube apart'))) in
    record {
      rest = r ∷ p.rest;
      legal = (legal_apart i c e.cube r apart legal.0, subst (λ d. IsLegal i d p.rest) both p.legal);
      end = ap (λ d. replay d p.rest) (sym both) ∙ p.end;
      size = ap suc p.size;
      same = subst (λ x. IsPermutation (r ∷ log) (x ∷ r ∷ p.rest)) same_record
          (IsPermutation-trans (r ∷ log) (r ∷ record_of later e ∷ p.rest) (record_of later e ∷ r ∷ p.rest)
          (IsPermutation-cons r log (record_of later e ∷ p.rest) p.same) (swapped r (record_of later e) p.rest));
    }

-- A legal log to an end pops each event that is poppable at its start; that pop may as well come first.
pub pops_first : (i : Instance) → IsExtremal i.family → (c : List ℕ) (e : Event) → IsEvent i.family e
    → IsPoppable i.stacks c e.cube
    → (log : List LogRecord) → IsLegal i c log → IsEnd i (replay c log) → PopsFirst i c e log
pops_first i extremal c e is pop_e [] legal end = absurd (end e is pop_e)
pops_first i extremal c e is pop_e (r ∷ log) legal end = elim (same_event r.event e) [
  | inl same ↦ at_front i c e r log same legal
  | inr differ ↦
      let apart : Apart e.cube r.event.cube =
      apart_if_extremal i extremal c e r.event is legal.0.event (λ h. differ (sym h)) pop_e.occurs legal.0.poppable.occurs in
      let apart' : Apart r.event.cube e.cube =
      apart_if_extremal i extremal c r.event e legal.0.event is differ legal.0.poppable.occurs pop_e.occurs in
      behind i c e r log legal apart apart'
      (pops_first i extremal (pop c r.event.cube) e is (poppable_apart i.stacks c r.event.cube e.cube apart' pop_e) log legal.1 end)
]

-- the ends of two legal logs from one vector
pub record SameRun (c : List ℕ) (log other : List LogRecord) : Type 0 where
  pub end : replay c log ≡ replay c other
  pub size : length log ≡ length other
  pub records : IsPermutation log other

-- any two legal logs from one vector to ends
pub unique_run : (i : Instance) → IsExtremal i.family → (c : List ℕ) (log other : List LogRecord) → IsLegal i c log
    → IsLegal i c other → IsEnd i (replay c log) → IsEnd i (replay c other) → SameRun c log other
unique_run i extremal c [] [] legal legal' end end' =
    record { end = refl; size = refl; records = IsPermutation-refl [] }
unique_run i extremal c [] (r ∷ other) legal legal' end end' = absurd (end r.event legal'.0.event legal'.0.poppable)
unique_run i extremal c (r ∷ log) other legal legal' end end' =
    let first = pops_first i extremal c r.event legal.0.event legal.0.poppable other legal' end' in
    let rest = unique_run i extremal (pop c r.event.cube) log first.rest legal.1 first.legal end (subst (IsEnd i) (sym first.end) end') in
    let is : record_of c r.event ≡ r = ap (made r.event) (sym legal.0.entries) in
    record {
      end = rest.end ∙ first.end;
      size = ap suc rest.size ∙ sym first.size;
      records = IsPermutation-trans (r ∷ log) (r ∷ first.rest) other (IsPermutation-cons r log first.rest rest.records)
          (IsPermutation-sym other (r ∷ first.rest) (subst (λ x. IsPermutation other (x ∷ first.rest)) is first.same));
    }
