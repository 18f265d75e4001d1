-- Each instance of which it can be found whether an event is poppable has a legal log to an end, since a pop takes from
-- the room.
use Rattle.std.proofs.Common.{inl, inr, ◌≡◌, ◌⊎◌, ℕ, zero, suc, ◌<◌, ◌≤◌, List, [], ◌∷◌, length, get_or, Some, slice_get, refl, sym, subst, ◌∙◌, arith}
use Rattle.std.proofs.lemmas.List.Elements.{Contains-get_or}
use Rattle.std.proofs.lemmas.Option.{same_Some}
use Rattle.pop_model.specs.Stacks.{StackTable, variables_of}
use Rattle.pop_model.specs.Popping.{Cube, IsPoppable, NamesBelow, pop}
use Rattle.pop_model.specs.Families.{Event, IsEvent, IsFamily}
use Rattle.pop_model.specs.Families.Family.{Listed}
use Rattle.pop_model.specs.Instances.{Instance, FamilyFits}
use Rattle.pop_model.specs.Logs.{LogRecord, IsLegal, replay, entries_at}
use Rattle.pop_model.specs.Runs.{IsEnd}
use Rattle.pop_model.proofs.Diamond.{names_it}
use Rattle.pop_model.proofs.PopLemmas.{length-pop}
use Rattle.pop_model.proofs.Room.{left_from, room_falls}
use Rattle.pop_model.proofs.FirstRun.{poppable_or_not}
use Rattle.confluence_core.proofs.EventVariables.{event_cube}
use Rattle.pop_samples.proofs.MovedLogs.{known_variable}

-- some event is poppable, or none
abbrev pub Found : Instance → List ℕ → Type 0
Found i c = ((e : Event) × IsEvent i.family e × IsPoppable i.stacks c e.cube) ⊎ IsEnd i c

-- a legal log to an end
pub record Ends (i : Instance) (c : List ℕ) : Type 0 where
  pub log : List LogRecord
  pub legal : IsLegal i c log
  pub end : IsEnd i (replay c log)

-- a pop takes from the room
pub taken : (i : Instance) → IsFamily i.family → FamilyFits i.stacks i.family → (c : List ℕ)
    → length c ≡ variables_of i.stacks → (e : Event) → IsEvent i.family e → IsPoppable i.stacks c e.cube
    → left_from i.stacks 0 (pop c e.cube) < left_from i.stacks 0 c
taken i family fits c size e is poppable =
    let low : NamesBelow e.cube (length c) = λ k d h.
    let p : ℕ × ℕ = get_or e.cube k d in
    let less = known_variable i.stacks i.family fits e is p.0 (names_it e.cube p (Contains-get_or e.cube k d h)) in
    omega (arith, less, size) in
    room_falls i.stacks c e.cube (event_cube i.family e family is) low poppable.next

-- with room for at most n pops
by_room : (n : ℕ) (i : Instance) → IsFamily i.family → FamilyFits i.stacks i.family → ((d : List ℕ) → Found i d)
    → (c : List ℕ) → length c ≡ variables_of i.stacks → left_from i.stacks 0 c ≤ n → Ends i c
by_room zero i family fits find c size room = elim (find c) [
  | inr none ↦ record { log = []; legal = tt; end = none }
  | inl found ↦ absurd (let less = taken i family fits c size found.0 found.1 found.2 in omega (arith, less, room))
]
by_room (suc n) i family fits find c size room = elim (find c) [
  | inr none ↦ record { log = []; legal = tt; end = none }
  | inl found ↦
      let e : Event = found.0 in
      let less = taken i family fits c size e found.1 found.2 in
      let rest : Ends i (pop c e.cube) =
      by_room n i family fits find (pop c e.cube) (length-pop c e.cube ∙ size) (omega (arith, less, room)) in
      record {
        log = record { event = e; entries = entries_at c e.cube } ∷ rest.log;
        legal = (record { event = found.1; poppable = found.2; entries = refl }, rest.legal);
        end = rest.end;
      }
]

-- from any cursors, where it can be found at each
pub run_to_end : (i : Instance) → IsFamily i.family → FamilyFits i.stacks i.family → ((d : List ℕ) → Found i d)
    → (c : List ℕ) → length c ≡ variables_of i.stacks → Ends i c
run_to_end i family fits find c size = by_room (left_from i.stacks 0 c) i family fits find c size (omega arith)

-- the listed event at a place
abbrev pub IsAt : List (ℕ × Cube) → ℕ → ℕ → Cube → Type 0
IsAt rows unit number cube = slice_get rows unit ≡ Some (number, cube)

-- a listed event of which this holds
pub record OneIs (Is : Cube → Type 0) (rows : List (ℕ × Cube)) : Type 0 where
  pub unit : ℕ
  pub number : ℕ
  pub cube : Cube
  pub at : IsAt rows unit number cube
  pub is : Is cube

-- it holds of none
abbrev pub NoneIs : (Cube → Type 0) → List (ℕ × Cube) → Type 0
NoneIs Is rows = (u n : ℕ) (e : Cube) → IsAt rows u n e → Is e → ⊥

-- the first listed event of which this holds, or none, where it is found of each
pub tried : (Is : Cube → Type 0) (rows : List (ℕ × Cube))
    → ((u n : ℕ) (e : Cube) → IsAt rows u n e → Is e ⊎ (Is e → ⊥)) → OneIs Is rows ⊎ NoneIs Is rows
tried Is [] test = inr (λ u n e at is. absurd (cc))
tried Is (r ∷ rows) test = elim (test 0 r.0 r.1 refl) [
  | inl is ↦ inl (record { unit = 0; number = r.0; cube = r.1; at = refl; is = is })
  | inr not ↦ elim (tried Is rows (λ u n e at. test (suc u) n e at)) [
    | inl old ↦ inl (record { unit = suc old.unit; number = old.number; cube = old.cube; at = old.at; is = old.is })
    | inr none ↦ inr (never r rows not none)
  ]
]
  where
    never : (r : ℕ × Cube) (rows : List (ℕ × Cube)) → (Is r.1 → ⊥) → NoneIs Is rows → NoneIs Is (r ∷ rows)
    never r rows not none zero n e at is =
        let same : ◌≡◌ {A = ℕ × Cube} r (n, e) = same_Some r (n, e) at in
        not (subst (λ (q : ℕ × Cube). Is q.1) (sym same) is)
    never r rows not none (suc u) n e at is = none u n e at is

-- so it is found of all listed events
pub found_listed : (s : StackTable) (rows : List (ℕ × Cube)) (c : List ℕ)
    → Found (record { stacks = s; family = Listed rows }) c
found_listed s rows c = elim (tried (IsPoppable s c) rows (λ u n e at. poppable_or_not s c e)) [
  | inl some ↦ inl (record { unit = some.unit; cube = some.cube }, (some.number, some.at), some.is)
  | inr none ↦ inr (λ e is pop. none e.unit is.0 e.cube is.1 pop)
]
