-- On an extremal instance each legal log to an end can be rearranged into the one-thread run: the poppable event of
-- least unit is popped somewhere in the log, and may as well be popped first.
use Rattle.std.proofs.Common.{inl, inr, ◌≡◌, ◌⊎◌, ℕ, zero, suc, ◌+◌, ◌<◌, ◌≤◌, List, [], ◌∷◌, length, refl, sym, ap, subst, ◌∙◌, arith, Contains, All}
use Rattle.std.proofs.lemmas.Bool.{cases_eq, cases_lt}
use Rattle.std.proofs.lemmas.List.Sorted.{Contains-permutation, IsPermutation-sym}
use Rattle.std.proofs.lemmas.List.Elements.{All-cons}
use Rattle.pop_model.specs.Stacks.{StackTable, value_at, height_of}
use Rattle.pop_model.specs.Popping.{Cube, IsPoppable, cursor, pop}
use Rattle.pop_model.specs.Families.{IsEvent}
use Rattle.pop_model.specs.Instances.{Instance}
use Rattle.pop_model.specs.Extremal.{IsExtremal}
use Rattle.pop_model.specs.Logs.{LogRecord, IsLegalAt, IsLegal, replay}
use Rattle.pop_model.specs.Runs.{IsEnd, IsFirstPoppable, IsFirstRun}
use Rattle.pop_model.proofs.UniqueEnd.{record_of, pops_first}

-- a number is less than another or not
pub less_or_not : (m n : ℕ) → (m < n) ⊎ (m < n → ⊥)
less_or_not m n = elim (cases_lt m n) [ inl less ↦ inl less | inr more ↦ inr (λ h. absurd (omega arith)) ]

-- what can be told of each pair can be told of all
pub all_or_not : (P : ℕ × ℕ → Type 0) → ((p : ℕ × ℕ) → P p ⊎ (P p → ⊥)) → (e : Cube) → All P e ⊎ (All P e → ⊥)
all_or_not P each [] = inl (λ k d h. absurd (omega (arith, h)))
all_or_not P each (p ∷ e) = elim (each p) [
  | inr not ↦ inr (λ all. not (all 0 p (omega arith)))
  | inl here ↦ elim (all_or_not P each e) [
    | inr not ↦ inr (λ all. not (λ k d h. all (suc k) d (omega (arith, h))))
    | inl rest ↦ inl (All-cons P p e here rest)
  ]
]

-- a cube is poppable or not
pub poppable_or_not : (s : StackTable) (c : List ℕ) (e : Cube) → IsPoppable s c e ⊎ (IsPoppable s c e → ⊥)
poppable_or_not s c e =
    elim (all_or_not (λ p. value_at s p.0 (cursor c p.0) ≡ p.1) (λ p. cases_eq (value_at s p.0 (cursor c p.0)) p.1) e) [
      | inr not ↦ inr (λ h. not h.occurs)
      | inl occurs ↦ elim (all_or_not (λ p. cursor c p.0 + 1 < height_of s p.0) (λ p. less_or_not (cursor c p.0 + 1) (height_of s p.0)) e) [
        | inr not ↦ inr (λ h. not h.next)
        | inl next ↦ inl (record { occurs = occurs; next = next })
      ]
    ]

-- the record of a log that is poppable now and has the least unit of such
record LeastIn (i : Instance) (c : List ℕ) (log : List LogRecord) : Type 0 where
  one : LogRecord
  has : Contains log one
  poppable : IsPoppable i.stacks c one.event.cube
  least : (q : LogRecord) → Contains log q → IsPoppable i.stacks c q.event.cube → one.event.unit ≤ q.event.unit

-- what holds of the first record and of the others holds of each member
member : (r : LogRecord) (log : List LogRecord) (P : LogRecord → Type 0) → P r
    → ((q : LogRecord) → Contains log q → P q) → (q : LogRecord) → Contains (r ∷ log) q → P q
member r log P here rest q (zero, below, is) = subst P is here
member r log P here rest q (suc k, below, is) = rest q (k, omega (arith, below), is)

-- a member stays one behind another record
further : (r q : LogRecord) (log : List LogRecord) → Contains log q → Contains (r ∷ log) q
further r q log (k, below, is) = (suc k, omega (arith, below), is)

-- a log has a poppable event of least unit, or none that is poppable
least_in : (i : Instance) (c : List ℕ) (log : List LogRecord)
    → LeastIn i c log ⊎ ((q : LogRecord) → Contains log q → IsPoppable i.stacks c q.event.cube → ⊥)
least_in i c [] = inr (λ q h. absurd (omega (arith, h.1)))
least_in i c (r ∷ log) = elim (poppable_or_not i.stacks c r.event.cube) [
  | inr not ↦ elim (least_in i c log) [
    | inr none ↦ inr (λ q h. member r log (λ x. IsPoppable i.stacks c x.event.cube → ⊥) not none q h)
    | inl old ↦ inl (record {
      one = old.one;
      has = further r old.one log old.has;
      poppable = old.poppable;
      least = λ q h. member r log (λ x. IsPoppable i.stacks c x.event.cube → old.one.event.unit ≤ x.event.unit) (λ p. absurd (not p)) old.least q h;
    })
  ]
  | inl is ↦ elim (least_in i c log) [
    | inr none ↦ inl (record {
      one = r;
      has = (0, omega arith, refl);
      poppable = is;
      least = λ q h. member r log (λ x. IsPoppable i.stacks c x.event.cube → r.event.unit ≤ x.event.unit) (λ p. omega arith) (λ x has p. absurd (none x has p)) q h;
    })
    | inl old ↦ elim (cases_lt old.one.event.unit r.event.unit) [
      | inl less ↦ inl (record {
        one = old.one;
        has = further r old.one log old.has;
        poppable = old.poppable;
        least = λ q h. member r log (λ x. IsPoppable i.stacks c x.event.cube → old.one.event.unit ≤ x.event.unit) (λ p. omega arith) old.least q h;
      })
      | inr more ↦ inl (record {
        one = r;
        has = (0, omega arith, refl);
        poppable = is;
        least = λ q h. member r log (λ x. IsPoppable i.stacks c x.event.cube → r.event.unit ≤ x.event.unit) (λ p. omega arith) (λ x has p. let low = old.least x has p in omega (arith, low, more)) q h;
      })
    ]
  ]
]

-- the records of a legal log have events of the family
pub legal_event : (i : Instance) (c : List ℕ) (log : List LogRecord) → IsLegal i c log → (q : LogRecord)
    → Contains log q → IsEvent i.family q.event
legal_event i c [] legal q h = absurd (omega (arith, h.1))
legal_event i c (r ∷ log) legal q h =
    member r log (λ x. IsEvent i.family x.event) legal.0.event (legal_event i (pop c r.event.cube) log legal.1) q h

-- a one-thread run that ends alike
pub record FirstRunOf (i : Instance) (c : List ℕ) (log : List LogRecord) : Type 0 where
  pub first : List LogRecord
  pub run : IsFirstRun i c first
  pub end : replay c first ≡ replay c log
  pub size : length first ≡ length log

-- a log of this length that is legal and leads to an end has a one-thread run to the same end
by_length : (n : ℕ) (i : Instance) → IsExtremal i.family → (c : List ℕ) (log : List LogRecord) → length log ≡ n
    → IsLegal i c log → IsEnd i (replay c log) → FirstRunOf i c log
by_length n i extremal c [] same legal end = record { first = []; run = end; end = refl; size = refl }
by_length zero i extremal c (r ∷ log) same legal end = absurd (omega arith)
by_length (suc n) i extremal c (r ∷ log) same legal end = elim (least_in i c (r ∷ log)) [
  | inr none ↦ absurd (none r (0, omega arith, refl) legal.0.poppable)
  | inl one ↦
      let e = one.one.event in
      let event = legal_event i c (r ∷ log) legal one.one one.has in
      let first : IsFirstPoppable i c e = record {
        event = event;
        poppable = one.poppable;
        least = λ f is_f pop_f.
            let at = pops_first i extremal c f is_f pop_f (r ∷ log) legal end in
            one.least (record_of c f) (Contains-permutation (record_of c f ∷ at.rest) (r ∷ log) (record_of c f) (IsPermutation-sym (r ∷ log) (record_of c f ∷ at.rest) at.same) (0, omega arith, refl)) pop_f;
      } in
      let moved = pops_first i extremal c e event one.poppable (r ∷ log) legal end in
      let rest = by_length n i extremal (pop c e.cube) moved.rest (omega (arith, moved.size, same)) moved.legal (subst (IsEnd i) (sym moved.end) end) in
      let here : IsLegalAt i c (record_of c e) = record { event = event; poppable = one.poppable; entries = refl } in
      record {
        first = record_of c e ∷ rest.first;
        run = (first, here, rest.run);
        end = rest.end ∙ moved.end;
        size = ap suc rest.size ∙ sym moved.size;
      }
]

-- the one-thread run from these cursors
pub first_run : (i : Instance) → IsExtremal i.family → (c : List ℕ) (log : List LogRecord) → IsLegal i c log
    → IsEnd i (replay c log) → FirstRunOf i c log
first_run i extremal c log legal end = by_length (length log) i extremal c log refl legal end
