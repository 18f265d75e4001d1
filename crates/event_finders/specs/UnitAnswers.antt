-- The results of a try at the event of a unit. In this file d is the view of the pass before the
-- call, and e the view after it.
use Rattle.std.specs.Prelude.{◌≡◌, ◌≢◌, ℕ, ◌<◌, ◌≤◌, true, List, [], ◌∷◌, ◌++◌, ⊤}
use Rattle.pop_model.specs.Stacks.{value_at}
use Rattle.pop_model.specs.Popping.{Cube, names}
use Rattle.pop_model.specs.Families.{IsEvent}
use Rattle.pop_model.specs.Instances.{Instance}
use Rattle.pop_model.specs.Places.{IsLeast}
use Rattle.claim_words.specs.declared.view.View.{View}
use Rattle.claim_words.specs.declared.opening.Opening.{Opening}
use Rattle.claim_words.specs.declared.claim.Claim.TheVariants.{Mine, Busy as Refused}
use Rattle.claim_words.specs.Words.{mark_of}
use Rattle.claim_words.specs.Maps.{Each, In, times}
use Rattle.claim_words.specs.Openings.{count_in}
use Rattle.claim_words.specs.Changes.{Change}
use Rattle.claim_words.specs.Steps.{Drawn, record_held, sharing}
use Rattle.claim_words.specs.Tells.{SoleKnows, NonePoppable}
use Rattle.event_finders.specs.Gains.{gained, SeesWithin, Entered}
use Rattle.event_finders.specs.OwedMarks.{SetsJust}
use Rattle.event_finders.specs.UnitLooks.{found_at, HasMore, IsAtLast}
use Rattle.event_finders.specs.declared.tried.Tried.{Tried}
use Rattle.event_finders.specs.declared.tried.Tried.TheVariants.{Popped, Cleared, Stuck, Busy, Idle, OutOfMemory}

-- each variable of the cube was claimed in this call, and the cube occurs at the cursors that were
-- found
pub record OccursFound (i : Instance) (d e : View) (cube : Cube) : Type 0 where
  pub claimed : Each (λ p. Entered (gained d e) p.0 (Mine (found_at e p.0))) cube
  pub occurs : Each (λ p. value_at i.stacks p.0 (found_at e p.0) ≡ p.1) cube

-- The event was poppable at the cursors that were found. `mine` has one more record: that of the
-- event with these cursors, under a ticket above all earlier ones.
pub record Pops (i : Instance) (d e : View) (u : ℕ) (cube : Cube) (t : ℕ) : Type 0 where
  pub occurs : OccursFound i d e cube
  pub next : Each (HasMore i e) cube
  pub mine : e.mine ≡ d.mine ++ (t, record_held u cube e.found) ∷ []
  pub newer : (q : Drawn) → In q d.mine → q.0 < t

-- v was claimed in this call at cursor c, and has another value there than the event demands
pub record RulesOutAt (i : Instance) (d e : View) (cube : Cube) (v c : ℕ) : Type 0 where
  pub value : ℕ
  pub demanded : In (v, value) cube
  pub claimed : Entered (gained d e) v (Mine c)
  pub known : 1 ≤ times v e.found
  pub found : found_at e v ≡ c
  pub differs : value_at i.stacks v c ≢ value

-- the event occurs at the cursors that were found, and v is its lowest variable that is at its
-- last entry there, which is entry c
pub record SticksAt (i : Instance) (d e : View) (cube : Cube) (v c : ℕ) : Type 0 where
  pub occurs : OccursFound i d e cube
  pub least : IsLeast (IsAtLast i e cube) v
  pub found : found_at e v ≡ c

-- v is a variable of the event, and its claim in this call found it busy; this never happens to a
-- pass that is the only one
pub record IsRefused (d e : View) (cube : Cube) (v w : ℕ) : Type 0 where
  pub named : names cube v ≡ true
  pub refused : Entered (gained d e) v (Refused w)
  pub shared : d.share ≢ 64

-- what the result says about the event with this cube
abbrev pub Says : Instance → View → View → ℕ → Cube → Tried → Type 0
Says i d e u cube (Popped t) = Pops i d e u cube t
Says i d e u cube (Cleared v c) = RulesOutAt i d e cube v c
Says i d e u cube (Stuck v c) = SticksAt i d e cube v c
Says i d e u cube (Busy v w) = IsRefused d e cube v w
Says i d e u cube Idle = ⊤
Says i d e u cube OutOfMemory = ⊤

-- what the result says about the event of the unit
abbrev pub IsTried : Instance → View → View → ℕ → Tried → Type 0
IsTried i d e u answer =
    (cube : Cube) × IsEvent i.family (record { unit = u; cube = cube }) × Says i d e u cube answer

-- the records change only by a pop
abbrev pub KeepsRecords : View → View → Tried → Type 0
KeepsRecords d e (Popped t) = ⊤
KeepsRecords d e answer = e.mine ≡ d.mine

-- The mark of u was taken first. `Idle` means that it was 0, and that nothing else was looked at.
-- If memory ran out, nothing was looked at.
abbrev pub FindsMark : View → View → ℕ → Tried → Type 0
FindsMark d e u Idle = gained d e ≡ (mark_of (count_in d.opening) u, 0) ∷ []
FindsMark d e u OutOfMemory = e ≡ d
FindsMark d e u answer = In (mark_of (count_in d.opening) u, 1) (gained d e)

-- The changes of marks by the try. The mark of the unit was taken; if it was set, it is 0 after
-- that, unless the unit is marked again. A pop sets the mark of each unit with an event that
-- shares a variable with the popped one, and no others.
abbrev pub ChangesMarks : Instance → View → View → ℕ → Cube → Tried → Type 0
ChangesMarks i d e u cube (Popped t) = (cs : List Change) × (e.changes ≡ d.changes ++ ((u, 1, 0) ∷ cs))
    × SetsJust (sharing i.family cube) cs
ChangesMarks i d e u cube (Cleared v c) = e.changes ≡ d.changes ++ (u, 1, 0) ∷ []
ChangesMarks i d e u cube (Stuck v c) = e.changes ≡ d.changes ++ (u, 1, 0) ∷ []
ChangesMarks i d e u cube (Busy v w) =
    (x : ℕ) × (e.changes ≡ d.changes ++ ((u, 1, 0) ∷ (u, x, 1) ∷ []))
ChangesMarks i d e u cube Idle = e.changes ≡ d.changes ++ (u, 0, 0) ∷ []
ChangesMarks i d e u cube OutOfMemory = e.changes ≡ d.changes

-- the changes of marks by the try at the event of the unit
abbrev pub LeavesMarks : Instance → View → View → ℕ → Tried → Type 0
LeavesMarks i d e u answer =
    (cube : Cube) × IsEvent i.family (record { unit = u; cube = cube }) × ChangesMarks i d e u cube answer

-- What a pass that is the only one learns. If it pops, its records are a legal log. If it finds
-- the event cleared, stuck or not marked, that event is not poppable at its vector.
abbrev pub SoleLearns : Opening → View → ℕ → Tried → Type 0
SoleLearns k e u (Popped t) = SoleKnows e
SoleLearns k e u (Cleared v c) = e.share ≡ 64 → NonePoppable k e u
SoleLearns k e u (Stuck v c) = e.share ≡ 64 → NonePoppable k e u
SoleLearns k e u Idle = e.share ≡ 64 → NonePoppable k e u
SoleLearns k e u answer = ⊤

-- Everything about a try at the event with this cube: the pass is idle again, and what the result
-- says about the event, the marks and the records.
pub record Tries (k : Opening) (i : Instance) (d e : View) (u : ℕ) (cube : Cube) (answer : Tried) : Type 0 where
  pub idle : (e.held ≡ []) × (e.taken ≡ []) × (e.owed ≡ [])
  pub share : e.share ≡ d.share
  pub moves : e.moves ≡ d.moves
  pub seen : SeesWithin 1 d e
  pub records : KeepsRecords d e answer
  pub mark : FindsMark d e u answer
  pub marks : ChangesMarks i d e u cube answer
  pub says : Says i d e u cube answer
  pub sole : SoleLearns k e u answer
