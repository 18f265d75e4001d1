-- The state of a run at its cursors, a run so far, and a run that is stopped after a number of
-- pops.
use Rattle.std.specs.Prelude.{◌≡◌, ◌≢◌, ◌↔◌, ℕ, ◌<◌, ◌≤◌, true, List, length}
use Rattle.pop_model.specs.Popping.{IsPoppable}
use Rattle.pop_model.specs.Families.{Event, IsEvent}
use Rattle.pop_model.specs.Instances.{Instance}
use Rattle.pop_model.specs.Runs.{IsFinished, IsStuckList, start_of}
use Rattle.confluence_core.specs.Stretches.{LeadsOn, before_pops, logged}
use Rattle.run_cert.specs.declared.look_kind.Look.{Look}
use Rattle.run_cert.specs.declared.look_kind.Look.TheVariants.{Finished, Open}
use Rattle.run_cert.specs.declared.seen.Seen.{Seen}
use Rattle.run_cert.specs.declared.part.Part.{Part}

-- some event is poppable
abbrev pub HasPoppable : Instance → List ℕ → Type 0
HasPoppable i c = (e : Event) × IsEvent i.family e × IsPoppable i.stacks c e.cube

-- open exactly if some event is poppable, finished exactly if none occurs, and otherwise exhausted
pub record IsLook (i : Instance) (c : List ℕ) (look : Look) : Type 0 where
  pub open_is : (look ≡ Open) ↔ HasPoppable i c
  pub finished_is : (look ≡ Finished) ↔ IsFinished i c

-- the state of a run at these cursors, and the events that occur there
pub record IsSeen (i : Instance) (c : List ℕ) (seen : Seen) : Type 0 where
  pub look : IsLook i c seen.look
  pub stuck_list : IsStuckList i c seen.stuck

-- a legal log from zeros leads to the cursors, and this is the state there
pub record IsSoFar (i : Instance) (part : Part) : Type 0 where
  pub leads : LeadsOn i (before_pops (start_of i) true) (logged part.cursors part.log)
  pub seen : IsSeen i part.cursors part.seen

-- it has as many records as the limit, or fewer if no event is poppable at its cursors
pub record IsStopped (i : Instance) (limit : ℕ) (part : Part) : Type 0 where
  pub run : IsSoFar i part
  pub most : length part.log ≤ limit
  pub fewer : length part.log < limit → part.seen.look ≢ Open
