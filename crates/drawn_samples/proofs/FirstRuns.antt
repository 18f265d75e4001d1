-- The one-thread run of an extremal instance is one log, and it is that of all stacks with the same entries below its
-- end, where no event occurs there: an event that is poppable on the way is popped on the way, so its entries lie below.
use Rattle.std.proofs.Common.{inl, inr, ◌≡◌, ℕ, zero, suc, ◌+◌, ◌<◌, List, [], ◌∷◌, length, get_or, Some, slice_get, refl, sym, ap, ap₂, subst, ◌∙◌, arith, Contains}
use Rattle.std.proofs.lemmas.List.{get_or-map}
use Rattle.std.proofs.lemmas.List.Sorted.{Contains-permutation, IsPermutation-sym}
use Rattle.std.proofs.lemmas.Option.{same_Some}
use Rattle.pop_model.specs.Stacks.{StackTable, height_of, value_at}
use Rattle.pop_model.specs.Popping.{AreWithin, Cube, IsPoppable, cursor, pop}
use Rattle.pop_model.specs.Cycles.{first_of}
use Rattle.pop_model.specs.Families.{Event, Family, IsEvent}
use Rattle.pop_model.specs.Families.Family.{Listed, Cycles}
use Rattle.pop_model.specs.Instances.{FamilyFits, Instance}
use Rattle.pop_model.specs.Extremal.{IsExtremal}
use Rattle.pop_model.specs.Logs.{IsLegal, LogRecord, entries_at, replay}
use Rattle.pop_model.specs.Runs.{IsEnd, IsFinished, IsFirstPoppable, IsFirstRun, start_of}
use Rattle.pop_model.proofs.Diamond.{named, occur_together}
use Rattle.pop_model.proofs.UniqueEnd.{PopsFirst, made, pops_first, record_of, same_event}
use Rattle.pop_model.proofs.OneRun.{first_run_legal}
use Rattle.pop_model.proofs.CycleFamily.{first_named}
use Rattle.pop_samples.specs.Finishing.{AgreeBelow, FinishesBy, with_stacks}
use Rattle.pop_samples.proofs.Finishing.{finishes_moved}

-- an event under its unit
event_of : ℕ → Cube → Event
event_of u e = record { unit = u; cube = e }

-- events of a unit that occur together are the same
same_unit : (s : StackTable) (family : Family) → IsExtremal family → (c : List ℕ) (e f : Event) → IsEvent family e
    → IsEvent family f → IsPoppable s c e.cube → IsPoppable s c f.cube → e.unit ≡ f.unit → e ≡ f
unfolding event_of
same_unit s (Listed rows) extremal c e f is is' pop pop' same =
    let there : slice_get rows f.unit ≡ Some (is.0, e.cube) = ap (slice_get rows) (sym same) ∙ is.1 in
    let both : ◌≡◌ {A = ℕ × Cube} (is.0, e.cube) (is'.0, f.cube) =
    same_Some (is.0, e.cube) (is'.0, f.cube) (sym there ∙ is'.1) in
    ap₂ event_of same (ap (λ (q : ℕ × Cube). q.1) both)
same_unit s (Cycles heads) extremal c e f is is' pop pop' same = elim (same_event e f) [
  | inl it ↦ it
  | inr differ ↦
      let v : ℕ = first_of e.cube in
      let at : v ≡ first_of f.cube = sym is.1 ∙ same ∙ is'.1 in
      let x = named e.cube v (first_named e.cube is.0.cube) in
      let y = named f.cube (first_of f.cube) (first_named f.cube is'.0.cube) in
      let there : Contains f.cube (v, y.0) = subst (λ (u : ℕ). Contains f.cube (u, y.0)) (sym at) y.1 in
      absurd (occur_together s c e.cube f.cube pop.occurs pop'.occurs
      (extremal e f is is' differ (v, x.0, y.0, x.1, there)))
]

-- so the one-thread run is one log
pub one_first_log : (i : Instance) → IsExtremal i.family → (c : List ℕ) (log other : List LogRecord) → IsFirstRun i c log
    → IsFirstRun i c other → log ≡ other
one_first_log i extremal c [] [] run run' = refl
one_first_log i extremal c [] (r ∷ other) run run' = absurd (run r.event run'.1.event run'.1.poppable)
one_first_log i extremal c (r ∷ log) [] run run' = absurd (run' r.event run.1.event run.1.poppable)
one_first_log i extremal c (r ∷ log) (q ∷ other) run run' =
    let le = run.0.least q.event run'.0.event run'.0.poppable in
    let ge = run'.0.least r.event run.0.event run.0.poppable in
    let same : r.event ≡ q.event =
    same_unit i.stacks i.family extremal c r.event q.event run.0.event run'.0.event run.0.poppable run'.0.poppable
    (omega (arith, le, ge)) in
    let first : r ≡ q =
    ap₂ made refl run.1.entries ∙ ap (record_of c) same ∙ sym (ap₂ made refl run'.1.entries) in
    let rest : log ≡ other =
    one_first_log i extremal (pop c r.event.cube) log other run.2
    (subst (λ (e : Event). IsFirstRun i (pop c e.cube) other) (sym same) run'.2) in
    ap₂ (λ (a : LogRecord) (b : List LogRecord). a ∷ b) first rest

-- a record of a legal log was poppable at some cursors, whose entries it used
record WasPoppable (i : Instance) (q : LogRecord) : Type 0 where
  at : List ℕ
  poppable : IsPoppable i.stacks at q.event.cube
  entries : q.entries ≡ entries_at at q.event.cube

was_poppable : (i : Instance) (c : List ℕ) (log : List LogRecord) → IsLegal i c log → (q : LogRecord) → Contains log q
    → WasPoppable i q
was_poppable i c [] legal q has = absurd (omega (arith, has.1))
was_poppable i c (r ∷ log) legal q (zero, below, is) =
    subst (WasPoppable i) is (record { at = c; poppable = legal.0.poppable; entries = legal.0.entries })
was_poppable i c (r ∷ log) legal q (suc k, below, is) =
    was_poppable i (pop c r.event.cube) log legal.1 q (k, omega (arith, below), is)

-- what was poppable at the same entries is poppable
poppable_at : (s : StackTable) (c d : List ℕ) (e : Cube) → entries_at c e ≡ entries_at d e → IsPoppable s c e
    → IsPoppable s d e
poppable_at s c d e same is =
    let at : (k : ℕ) (z : ℕ × ℕ) → k < length e → cursor c (get_or e k z).0 ≡ cursor d (get_or e k z).0 =
    λ k z less.
    sym (get_or-map (λ (p : ℕ × ℕ). cursor c p.0) e k z 0 less)
    ∙ ap (λ (ns : List ℕ). get_or ns k 0) same
    ∙ get_or-map (λ (p : ℕ × ℕ). cursor d p.0) e k z 0 less in
    record {
      occurs = λ k z less.
          subst (λ (n : ℕ). value_at s (get_or e k z).0 n ≡ (get_or e k z).1) (at k z less) (is.occurs k z less);
      next = λ k z less. subst (λ (n : ℕ). n + 1 < height_of s (get_or e k z).0) (at k z less) (is.next k z less);
    }

-- a one-thread run is that of other stacks on which it is legal to an end
pub moved_first : (i : Instance) (t : StackTable) → IsExtremal i.family → (c : List ℕ) (log : List LogRecord)
    → IsFirstRun i c log → IsLegal (with_stacks i t) c log → IsEnd (with_stacks i t) (replay c log)
    → IsFirstRun (with_stacks i t) c log
moved_first i t extremal c [] run legal end = end
moved_first i t extremal c (r ∷ log) run legal end =
    let other : Instance = with_stacks i t in
    let first : IsFirstPoppable other c r.event = record {
      event = legal.0.event;
      poppable = legal.0.poppable;
      least = λ f is pop_f.
          let at : PopsFirst other c f (r ∷ log) = pops_first other extremal c f is pop_f (r ∷ log) legal end in
          let q : LogRecord = record_of c f in
          let has : Contains (r ∷ log) q =
          Contains-permutation (q ∷ at.rest) (r ∷ log) q (IsPermutation-sym (r ∷ log) (q ∷ at.rest) at.same)
          (0, omega arith, refl) in
          let was : WasPoppable i q = was_poppable i c (r ∷ log) (first_run_legal i c (r ∷ log) run) q has in
          run.0.least f is (poppable_at i.stacks was.at c f.cube (sym was.entries) was.poppable);
    } in
    (first, legal.0, moved_first i t extremal (pop c r.event.cube) log run.2 legal.1 end)

-- so it is that of stacks with the same entries below its end, where no event occurs there
pub first_run_moved : (i : Instance) (t : StackTable) → IsExtremal i.family → FamilyFits i.stacks i.family
    → (log : List LogRecord) → IsFirstRun i (start_of i) log → IsFinished i (replay (start_of i) log)
    → AgreeBelow (replay (start_of i) log) i.stacks t → AreWithin t (replay (start_of i) log)
    → IsFinished (with_stacks i t) (replay (start_of i) log)
    → start_of i ≡ start_of (with_stacks i t) → IsFirstRun (with_stacks i t) (start_of i) log
first_run_moved i t extremal fits log run finished agree within there starts =
    let c : List ℕ = replay (start_of i) log in
    let by : FinishesBy i log c =
    record { legal = first_run_legal i (start_of i) log run; leads = refl; finished = finished } in
    let to : FinishesBy (with_stacks i t) log c = finishes_moved i t fits log c by agree within there in
    moved_first i t extremal (start_of i) log run
    (subst (λ (d : List ℕ). IsLegal (with_stacks i t) d log) (sym starts) to.legal)
    (λ e is pop. there e is pop.occurs)
