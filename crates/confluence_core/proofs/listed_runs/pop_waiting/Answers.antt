use Rattle.std.proofs.Common.{◌≡◌, ◌<◌, ◌+◌, ◌∷◌, [], ℕ, List, length, refl, sym, subst, ◌∙◌, arith}
use Rattle.std.proofs.lemmas.Bool.{lt-ltb, ltb-true}
use Rattle.pop_model.specs.Stacks.{StackTable, variables_of}
use Rattle.pop_model.specs.Popping.{Cube, NamesBelow, pop}
use Rattle.pop_model.specs.Instances.{IsInstance}
use Rattle.pop_model.proofs.PopLemmas.{length-pop}
use Rattle.pop_model.proofs.Room.{within_pop}
use Rattle.pop_stacks.specs.Readers.{Belongs}
use Rattle.pop_instance.specs.Events.{cube_at}
use Rattle.pop_instance.proofs.ListedEvents.{index_units}
use Rattle.confluence_core.specs.Records.{record_at}
use Rattle.confluence_core.specs.Stretches.{with_more}
use Rattle.confluence_core.specs.Waiting.{PopsListed}
use Rattle.confluence_core.specs.WorkList.{GainsSharing}
use Rattle.confluence_core.specs.declared.reached.Reached.{Reached}
use Rattle.confluence_core.proofs.Places.{listed, event_at, event_from, legal_at}
use Rattle.confluence_core.proofs.EventVariables.{event_known, listed_falls, next_low}
use Rattle.confluence_core.proofs.Covering.{covers_pop}
use Rattle.confluence_core.proofs.Reaching.{leads_pop, leads_then}
use Rattle.confluence_core.proofs.listed_runs.pop_waiting.Goals as goal

-- the cube of a listed event names variables that have cursors
cube_known : {s : StackTable} {rows : List (ℕ × Cube)} (at : List ℕ) (place : ℕ) {e : Cube} → IsInstance (listed s rows)
    → variables_of s ≡ length at → place < length rows → e ≡ cube_at rows place → NamesBelow e (length at)
cube_known {s} {rows} at place is count within same =
    subst (λ f. NamesBelow f (length at)) (sym same)
    (event_known (listed s rows) (event_at rows place) at is.fits (event_from rows (event_at rows place) within refl)
    count)

pub keep_record-requires : goal.keep_record-requires
keep_record-requires c = record {
  known = cube_known c.pops.reached.cursors c.in-Some.place c.requires.instance c.pops.invariant.popped.count
      c.in-Some.ensures.next.1.within c.cube-cube.ensures;
}

pub pop-requires-clause-known : goal.pop-requires-clause-known
pop-requires-clause-known c =
    cube_known c.pops.reached.cursors c.in-Some.place c.requires.instance c.pops.invariant.popped.count
    c.in-Some.ensures.next.1.within c.cube-cube.ensures

pub pop-requires-clause-room : goal.pop-requires-clause-room
pop-requires-clause-room c =
    rw c.cube-cube.ensures (next_low c.args.stacks.now c.pops.reached.cursors
    (cube_at c.args.listed.events.now c.in-Some.place) c.requires.instance.table c.in-Some.ensures.next.1.poppable.next)

pub overflow_add-reached : goal.overflow_add-reached
overflow_add-reached c = let room = c.pops.invariant.popped.room in omega (arith, room)

pub add_sharing-requires-clause-units : goal.add_sharing-requires-clause-units
add_sharing-requires-clause-units c v below =
    let units : length c.args.listed.events.now ≡ c.next_below.new.work.units =
    sym (c.in-Some.ensures.units ∙ c.pops.invariant.popped.units) in
    rw (← units) (index_units c.args.listed.events.now c.args.listed.index.now c.requires.index v below)

pub pops-smaller : goal.pops-smaller
pops-smaller c =
    let next = c.in-Some.ensures.next.1 in
    rw c.pop.ensures (rw c.cube-cube.ensures (listed_falls c.args.stacks.now c.pops.reached.cursors
    c.args.listed.events.now c.in-Some.place next.within next.poppable.next c.requires.instance.family
    c.requires.instance.fits c.pops.invariant.popped.count))

pub pops-preserved : goal.pops-preserved
pops-preserved c =
    let s = c.args.stacks.now in
    let was : Reached = c.pops.reached in
    let at = was.cursors in
    let rows = c.args.listed.events.now in
    let i = listed s rows in
    let place : ℕ = c.in-Some.place in
    let cube : Cube = cube_at rows place in
    let next = c.in-Some.ensures.next.1 in
    let old = c.pops.invariant.popped in
    let falls = listed_falls s at rows place next.within next.poppable.next c.requires.instance.family
    c.requires.instance.fits old.count in
    let after = c.add_sharing.new.self in
    let gains : GainsSharing c.next_below.new.work after c.args.listed.index.now cube =
    rw c.cube-cube.ensures at c.in_ok-add_sharing.ensures in
    let now : Reached = record was {
      cursors = pop at cube;
      pops = was.pops + 1;
      log = with_more was.log (record_at place cube at ∷ []);
    } in
    let popped : PopsListed s rows c.args.limit c.args.reached.now now after = record {
      leads = leads_then i c.args.reached.now was now old.leads
          (leads_pop i at was.pops was.log was.suspects was.suspects (record_at place cube at)
          (legal_at s at rows place next.within next.poppable));
      count = old.count ∙ sym (length-pop at cube);
      within = within_pop s at cube old.count next.poppable.next old.within;
      most = λ most. let below = ltb-true was.pops c.args.limit c.in-Some.ensures.next.0 in omega (arith, below);
      room = omega (arith, falls, old.room);
      units = gains.units ∙ c.in-Some.ensures.units ∙ old.units;
      covers = covers_pop place c.requires.instance.family c.requires.index next gains;
    } in
    record {
      popped = rw c.in_ok-keep_record.ensures (rw c.pop.ensures (rw c.cube-cube.ensures popped));
      belongs = subst (Belongs s) (sym c.in-Some.ensures.reader) c.pops.invariant.belongs;
      reader = c.in-Some.ensures.reader ∙ c.pops.invariant.reader;
    }

pub returns : goal.returns
returns c =
    let old = c.pops.invariant.popped in
    let none = c.in_default.ensures in
    record {
      popped = record {
        leads = old.leads;
        count = old.count;
        within = old.within;
        most = old.most;
        room = old.room;
        units = none.units ∙ old.units;
        covers = none.next.1;
      };
      end = λ few. none.next.0 (lt-ltb c.pops.reached.pops c.args.limit few);
      reader = none.reader ∙ c.pops.invariant.reader;
    }
