-- What a run leaves that was stopped, or came to an end, from the cursors at which it began: where it has come, a legal
-- log leads. On an extremal instance such a log to an end has the records of the one-thread run from there.
use Rattle.std.proofs.Common.{◌≡◌, ◌<◌, ◌≤◌, ◌^◌, ℕ, false, IsTrue, IfOk, Result, Ok, Err, List, [], ◌∷◌, length, refl, sym, ap, subst, ◌∙◌, arith, Contains}
use Rattle.std.specs.Prelude.{Option, None, Some}
use Rattle.std.specs.List.{range_with_len}
use Rattle.pop_model.specs.Stacks.{Origin, variables_of, height_from, height_of, origin_for, stacks_for}
use Rattle.pop_model.specs.Stacks.Origin.{Given, Keyed}
use Rattle.pop_model.specs.Popping.{AreValuesAt, AreWithin}
use Rattle.pop_model.specs.Families.{Event, units_of}
use Rattle.pop_model.specs.Instances.{Instance, IsInstance, instance_for}
use Rattle.pop_model.specs.Extremal.{IsExtremal}
use Rattle.pop_model.specs.Logs.{LogRecord, IsLegal, replay}
use Rattle.pop_model.specs.Runs.{IsEnd, IsStuckList, start_of}
use Rattle.pop_model.proofs.FirstRun.{first_run}
use Rattle.confluence_core.specs.declared.end.End.{End}
use Rattle.confluence_core.specs.declared.reached.Reached.{Reached}
use Rattle.confluence_core.specs.Stretches.{IsReached, before_pops}
use Rattle.confluence_core.proofs.Reaching.{reached_opening, reached_starting}
use Rattle.pop_batch.specs.Batches.{IsSampleEnd}
use Rattle.pop_batch.specs.declared.part.Part.{Part}
use Rattle.pop_batch.specs.Parts.{CanStart, IsEndFrom, IsOpen, IsPart, IsPartEnd, IsStopFrom, start_at}

-- the first record of a legal log is poppable where the log begins
first_open : (i : Instance) (c : List ℕ) (log : List LogRecord) → IsLegal i c log → 0 < length log → IsOpen i c
first_open i c [] legal some = absurd (omega (arith, some))
first_open i c (r ∷ log) legal some = (r.event, legal.0.event, legal.0.poppable)

-- a log without records ends where it begins
still_end : (i : Instance) (c : List ℕ) (log : List LogRecord) → length log ≡ 0 → IsEnd i (replay c log) → IsEnd i c
still_end i c [] none end = end
still_end i c (r ∷ log) none end = absurd (omega (arith, none))

-- where a run from these cursors made a pop, an event is poppable at them
pub open_by_pop : (i : Instance) (c : List ℕ) (left : Reached) → IsReached i c false left → 0 < left.pops → IsOpen i c
open_by_pop i c left is some = first_open i c is.leads.log is.leads.legal (omega (arith, some, is.leads.pops_are))

-- and where it came to an end without a pop, none is
pub end_by_none : (i : Instance) (c : List ℕ) (left : Reached) → IsReached i c false left → left.pops ≡ 0
    → IsEnd i left.cursors → IsEnd i c
end_by_none i c left is none end =
    still_end i c is.leads.log (omega (arith, none, is.leads.pops_are)) (subst (IsEnd i) is.leads.cursors_are end)

-- where no event occurs, none is poppable
pub end_by_list : (i : Instance) (c : List ℕ) (stuck : List Event) → IsStuckList i c stuck → length stuck ≡ 0
    → IsEnd i c
end_by_list i c stuck is none e event poppable =
    let has : Contains stuck e = (is.exact e).1 (event, poppable.occurs) in
    absurd (omega (arith, has.1, none))

-- where a run stands that has come so far
abbrev pub stands_at : Reached → List Event → List ℕ → End
stands_at left stuck values =
    record { cursors = left.cursors; pops = left.pops; stuck = stuck; values = values }

-- a run that was stopped
pub stop_of : (i : Instance) (start : List ℕ) (left : Reached) (stuck : List Event) (values : List ℕ)
    → IsReached i start false left → IsStuckList i left.cursors stuck → AreValuesAt i.stacks left.cursors values
    → IsOpen i left.cursors → IsStopFrom i start (stands_at left stuck values)
stop_of i start left stuck values is list are poppable = record {
  log = is.leads.log;
  legal = is.leads.legal;
  cursors_are = is.leads.cursors_are;
  pops_are = omega (arith, is.leads.pops_are);
  stuck_list = list;
  over = record { count = is.can.count; within = is.can.within; values = are };
  poppable = poppable;
}

-- a run that came to an end
pub end_of : (i : Instance) (start : List ℕ) (left : Reached) (stuck : List Event) (values : List ℕ)
    → IsExtremal i.family → IsReached i start false left → IsStuckList i left.cursors stuck
    → AreValuesAt i.stacks left.cursors values → IsEnd i left.cursors → IsEndFrom i start (stands_at left stuck values)
end_of i start left stuck values extremal is list are end =
    let leads = is.leads in
    let first = first_run i extremal start leads.log leads.legal (subst (IsEnd i) leads.cursors_are end) in
    record {
      log = first.first;
      run = first.run;
      cursors_are = leads.cursors_are ∙ sym first.end;
      pops_are = omega (arith, leads.pops_are, first.size);
      stuck_list = list;
      over = record { count = is.can.count; within = is.can.within; values = are };
    }

-- stacks are as high for another sample
same_height : (j : ℕ) (o : Origin) (v : ℕ) → height_from (origin_for j o) v ≡ height_from o v
same_height j (Given rows) v = refl
same_height j (Keyed key sample height) v = refl

-- so a run of another sample may begin at the same cursors
pub can_start_for : (i : Instance) (j : ℕ) (from : Option (List ℕ)) → CanStart i from → CanStart (instance_for j i) from
can_start_for i j None can = tt
can_start_for i j (Some c) can = (
  can.0,
  λ v below. (let less = can.1 v below in let same = same_height j i.stacks.origin v in omega (arith, less, same)),
)

-- an end from where a sample begins is the sample's
pub part_end : (i : Instance) (j : ℕ) (from : Option (List ℕ)) (end : End)
    → IsEndFrom (instance_for j i) (start_at (instance_for j i) from) end → IsPartEnd i j from end
part_end i j None end is = record {
  first = record { run = (is.log, is.run, is.cursors_are, is.pops_are); stuck_list = is.stuck_list };
  over = is.over;
}
part_end i j (Some c) end is = is

-- and the other way round
pub end_at : (i : Instance) (j : ℕ) (from : Option (List ℕ)) (end : End) → IsPartEnd i j from end
    → IsEndFrom (instance_for j i) (start_at (instance_for j i) from) end
end_at i j None end is = record {
  log = is.first.run.0;
  run = is.first.run.1;
  cursors_are = is.first.run.2;
  pops_are = is.first.run.3;
  stuck_list = is.first.stuck_list;
  over = is.over;
}
end_at i j (Some c) end is = is

-- a run before its first pop, from given cursors
pub begun_given : (i : Instance) (from : Option (List ℕ)) (given cursors suspects : List ℕ) (reached : Reached)
    → from ≡ Some given → cursors ≡ given → CanStart i from → suspects ≡ range_with_len 0 (units_of i.family)
    → reached ≡ record (before_pops cursors false) { suspects = suspects }
    → IsReached i (start_at i from) false reached
begun_given i from given cursors suspects reached is same can all are =
    let at : CanStart i (Some given) = subst (CanStart i) is can in
    let here = reached_starting i false given suspects at.0 at.1 all in
    subst (λ f. IsReached i (start_at i f) false reached) (sym is)
    (subst (IsReached i given false) (ap (λ c. record (before_pops c false) { suspects = suspects }) (sym same) ∙ sym are)
    here)

-- and from zeros
pub begun_zeros : (i : Instance) (from : Option (List ℕ)) (cursors suspects : List ℕ) (reached : Reached)
    → IsInstance i → from ≡ None → cursors ≡ start_of i → suspects ≡ range_with_len 0 (units_of i.family)
    → reached ≡ record (before_pops cursors false) { suspects = suspects }
    → IsReached i (start_at i from) false reached
begun_zeros i from cursors suspects reached instance is zeros all are =
    subst (λ f. IsReached i (start_at i f) false reached) (sym is)
    (subst (IsReached i (start_of i) false) (sym are)
    (reached_opening i false cursors suspects instance zeros all))

-- a part of a run over the stacks of a sample is one of the sample
pub part_for : {E : Type 0} (r : Result Part E) (x i : Instance) (j : ℕ) (from : Option (List ℕ)) (limit : ℕ)
    → x ≡ instance_for j i
    → IfOk r (λ (part : Part). IsTrue part.is_open → IsStopFrom x (start_at x from) part.at × (part.at.pops ≡ limit))
    → IfOk r (λ (part : Part). (IsTrue part.is_open → ⊥) → IsEndFrom x (start_at x from) part.at)
    → IfOk r (λ (part : Part). part.at.pops ≤ limit) → IfOk r (λ (part : Part). part.at.pops < 2 ^ 63)
    → IfOk r (IsPart i j from limit)
part_for (Err e) x i j from limit is stopped ended most few = tt
part_for (Ok part) x i j from limit is stopped ended most few = record {
  stopped = λ open_here. subst (λ (y : Instance). IsStopFrom y (start_at y from) part.at × (part.at.pops ≡ limit)) is
      (stopped open_here);
  ended = λ closed. part_end i j from part.at
      (subst (λ (y : Instance). IsEndFrom y (start_at y from) part.at) is (ended closed));
  most = most;
  few = few;
}
