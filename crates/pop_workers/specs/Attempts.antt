-- The results of searches for events. In this file d is the view of the pass before them, and e
-- the view after them.
use Rattle.std.specs.Prelude.{◌≡◌, ℕ, Bool, true, false, ◌<◌, ◌≤◌, List, length, ⊤, Option, Some, None}
use Rattle.pop_model.specs.Stacks.{variables_of}
use Rattle.pop_model.specs.Instances.{Instance}
use Rattle.pop_stacks.specs.Readers.{ReaderOf, Belongs}
use Rattle.claim_words.specs.declared.opening.Opening.{Opening}
use Rattle.claim_words.specs.declared.view.View.{View}
use Rattle.claim_words.specs.Openings.{is_listed}
use Rattle.claim_words.specs.Tells.{NonePoppable}
use Rattle.claim_words.specs.TicketLogs.{IsLegalFrom}
use Rattle.event_finders.specs.Trails.{Trail, resting}
use Rattle.event_finders.specs.UnitConditions.{Indexes}
use Rattle.event_finders.specs.declared.tried.Tried.{Tried}
use Rattle.event_finders.specs.declared.tried.Tried.TheVariants.{Popped as Pops, Cleared, Stuck, Busy, Idle, OutOfMemory}
use Rattle.pop_workers.specs.declared.found.Found.{Found}
use Rattle.pop_workers.specs.declared.found.Found.TheVariants.{Popped, Done, Met, NoMemory}

-- the index is that of the events of a listed family, and a cycle family has none
abbrev pub IsIndexed : Instance → Option (List (List ℕ)) → Type 0
IsIndexed i (Some index) = Indexes i index
IsIndexed i None = is_listed i.family ≡ false

-- a walker between walks, if the family is one of cycles
abbrev pub IsWalker : Instance → Option Trail → Type 0
IsWalker i (Some walker) = walker ≡ resting (variables_of i.stacks)
IsWalker i None = is_listed i.family ≡ true

-- a reader of the instance's stacks, and its walker
abbrev pub AreTools : Instance → ReaderOf → Option Trail → Type 0
AreTools i reader walker = Belongs i.stacks reader × IsWalker i walker

-- pops were added, or none, and the share is the same
pub record Goes (d e : View) : Type 0 where
  pub share : e.share ≡ d.share
  pub more : length d.mine ≤ length e.mine

-- the result of a search by that of its finder
abbrev pub found_in : Tried → Found
found_in (Pops t) = Popped
found_in (Cleared v c) = Done
found_in (Stuck v c) = Done
found_in (Busy v w) = Met
found_in Idle = Done
found_in OutOfMemory = NoMemory

-- what a pass that is the only one found at a unit, by walks that pop at most this many cycles
abbrev pub FindsAlone : Opening → View → View → ℕ → ℕ → Found → Type 0
FindsAlone k d e unit pops Popped = (length d.mine < length e.mine) × IsLegalFrom k e.mine
FindsAlone k d e unit pops Done =
    NonePoppable k e unit × (IsLegalFrom k d.mine → IsLegalFrom k e.mine)
    × (pops ≡ 1 → e.mine ≡ d.mine)
FindsAlone k d e unit pops Met = ⊥
FindsAlone k d e unit pops NoMemory = ⊤

-- A round of a pass that is the only one, over the units below n, and whether it popped nothing.
-- If so, the records are unchanged, and no event below n is poppable. Otherwise there are more
-- records, and they are a legal log.
abbrev pub IsRound : Opening → View → View → ℕ → Bool → Type 0
IsRound k d e n true = (e.mine ≡ d.mine) × ((u : ℕ) → u < n → NonePoppable k e u)
IsRound k d e n false = (length d.mine < length e.mine) × IsLegalFrom k e.mine
