-- Walks as a whole: each begins at a variable that isn't settled and settles what it met; where every variable is settled
-- those that were noted are all that occur.
use Rattle.std.proofs.Common.{inl, inr, ◌≡◌, ℕ, ◌<◌, List, [], length, get_or, replicate, refl, sym, ap, subst, ◌∙◌, arith, Contains}
use Rattle.std.specs.List.Sorted.{IsPermutation, IsNonDecreasingBy}
use Rattle.std.proofs.lemmas.List.{length-replicate, get_or-replicate, get_or_past}
use Rattle.std.proofs.lemmas.List.Sorted.{Contains-permutation, IsPermutation-sym}
use Rattle.std.proofs.lemmas.Bool.{cases_lt}
use Rattle.pop_model.specs.Stacks.{value_at}
use Rattle.pop_model.specs.Popping.{Occurs, HasNext, cursor}
use Rattle.pop_model.specs.Families.{Event, IsEvent}
use Rattle.pop_model.specs.Cycles.{first_of}
use Rattle.pop_model.specs.Runs.{IsEnd, IsStuckList}
use Rattle.pop_model.proofs.CycleFamily.{first_named}
use Rattle.pop_model.proofs.TreeEnd.{find, stays_at, head_within}
use Rattle.confluence_core.specs.Stuck.{event_of}
use Rattle.confluence_core.specs.CycleTables.{CycleTable, cycles}
use Rattle.confluence_core.specs.Loops.{Marks}
use Rattle.confluence_core.specs.Walks.{settled, IsSettled, IsMet, AreDone, HasRoom}
use Rattle.confluence_core.specs.LoopErasedWalks.{IsSized, Stands, SettlesPath, begun_at}
use Rattle.confluence_core.specs.Steps.{Ends}
use Rattle.confluence_core.specs.declared.walk.Walk.{Walk}
use Rattle.confluence_core.proofs.SortedKeys.{rises_sorted}
use Rattle.confluence_core.proofs.PathsLemmas.{at_place}
use Rattle.confluence_core.proofs.DoneVariables.{done_same}
use Rattle.confluence_core.proofs.WalkSteps.{sized_same}

module _ {path : List ℕ} {n : ℕ} {marks new : List ℕ} (are : Marks path n settled marks new) where
  -- what was met is settled
  met_settled : (v : ℕ) → IsMet marks path n v → IsSettled new v
  met_settled v met = elim (find (at_place path) v n) [
    | inl (k, less, same) ↦ subst (IsSettled new) same (are.marked k less)
    | inr none ↦ elim met [
      | inl at ↦ are.kept v none ∙ at
      | inr (k, less, same) ↦ absurd (none k less same)
    ]
  ]

  -- and nothing else
  settled_met : (v : ℕ) → IsSettled new v → IsMet marks path n v
  settled_met v at = elim (find (at_place path) v n) [
    | inl on ↦ inr on
    | inr none ↦ inl (sym (are.kept v none) ∙ at)
  ]

-- a walk that is over, once the variables of its path are settled
module _ {old w m : Walk} (ends : Ends old w) (settles : SettlesPath w m) where
  -- what holds between two walks holds again
  pub ended_stands : Stands m
  ended_stands = subst Stands (sym settles.others) (record {
    sized = sized_same settles.marks.count refl ends.over.sized;
    done = done_same (met_settled settles.marks) (settled_met settles.marks) ends.over.done;
    last = ends.over.last;
    room = ends.over.room;
  })

  -- the variable where the walk began is settled
  pub ended_settles : IsSettled m.marks.items (begun_at old)
  ended_settles = met_settled settles.marks (begun_at old) (inr (0, omega arith, ends.begun))

  -- and all that were settled before
  pub ended_keeps : (v : ℕ) → IsSettled w.marks.items v → IsSettled m.marks.items v
  ended_keeps v at = met_settled settles.marks v (inl at)

-- so many zeros
zeros : ℕ → List ℕ
zeros n = replicate n 0

-- a zero at each place and behind them
zeros_at : (n v : ℕ) → get_or (zeros n) v 0 ≡ 0
unfolding zeros
zeros_at n v = elim (cases_lt v n) [
  | inl below ↦ get_or-replicate n v 0 0 below
  | inr past ↦
      let size : length (zeros n) ≡ n = length-replicate {A = ℕ} n 0 in get_or_past (zeros n) v 0 (omega arith)
]

-- before the first walk no variable has a mark, and none is done
pub walks_begin : {w : Walk} (n : ℕ) → IsSized w → w.marks.items ≡ replicate n 0 → w.walked.stuck ≡ []
    → HasRoom w.current w.walked → Stands w
unfolding zeros
walks_begin {w} n sized are none room =
    let unsettled : (v : ℕ) → IsSettled w.marks.items v → ⊥ = λ v at.
    let big : settled ≡ 0 = sym at ∙ ap (λ xs. get_or xs v 0) are ∙ zeros_at n v in
    absurd (omega arith) in
    let size = ap length none in
    let unnoted : (e : Event) → Contains w.walked.stuck e → ⊥ = λ e has. absurd (omega (arith, size, has.1)) in
    record {
      sized = sized;
      done = record {
        closed = λ v w at. absurd (unsettled v at);
        found = λ v e at. absurd (unsettled v at);
        are_stuck = λ e has. absurd (unnoted e has);
        differ = λ i j d less below. absurd (omega (arith, size));
      };
      last = λ few e has. absurd (unnoted e has);
      room = room;
    }

module _ {t : CycleTable} {c : List ℕ} (marks : List ℕ) {stuck : List Event}
    (done : AreDone t c (IsSettled marks) stuck) (all : (v : ℕ) → v < length t.heads → IsSettled marks v) where
  -- each cycle that occurs is noted
  noted : (e : Event) → IsEvent (cycles t).family e → Occurs t.stacks c e.cube → Contains stuck e
  noted e is occurs =
      let a = first_of e.cube in
      let there = first_named e.cube is.0.cube in
      let on = stays_at t.heads t.stacks c e.cube a is.0 occurs there in
      let below = head_within t.heads a (value_at t.stacks a (cursor c a)) on.next on.leads in
      subst (Contains stuck) (ap (λ u. event_of (u, e.cube)) (sym is.1))
      (done.found a e.cube (all a below) is.0 there occurs)

  -- so none can be popped, where no noted one can
  pub walks_end : ((e : Event) → Contains stuck e → HasNext t.stacks c e.cube → ⊥) → IsEnd (cycles t) c
  walks_end last e is poppable = last e (noted e is poppable.occurs) poppable.next

  -- and sorted by their units they are the stuck list
  pub walks_stuck : (sorted : List Event) → IsPermutation stuck sorted
      → IsNonDecreasingBy (λ (e : Event). e.unit) sorted → IsStuckList (cycles t) c sorted
  walks_stuck sorted moved up = record {
    rising = rises_sorted (λ (e : Event). e.unit) stuck sorted moved up done.differ;
    exact = λ e. (
      λ has.
          let s = done.are_stuck e (Contains-permutation sorted stuck e (IsPermutation-sym stuck sorted moved) has) in
          (s.event, s.occurs),
      λ (is, occurs). Contains-permutation stuck sorted e moved (noted e is occurs),
    );
  }
