use Rattle.std.proofs.Common.{◌≡◌, ◌+◌, ◌≤◌, take, length, get_or, refl, ap, subst, ◌∙◌, sym, arith}
use Rattle.std.specs.Vec.{with_items}
use Rattle.std.proofs.lemmas.Bool.{MatchBool-at_true, MatchBool-at_false}
use Rattle.std.proofs.lemmas.List.{with_items_is, length-take-le, get_or-take, get_or_default}
use Rattle.confluence_core.specs.Loops.{Marks}
use Rattle.confluence_core.specs.Walks.{settled, IsSettled}
use Rattle.confluence_core.specs.LoopErasedWalks.{IsOver, SettlesPath}
use Rattle.confluence_core.specs.Steps.{GoesTo, Ends}
use Rattle.confluence_core.specs.declared.walk.Walk.{Walk}
use Rattle.confluence_core.proofs.PathsLemmas.{path_fits}
use Rattle.confluence_core.proofs.WalkSteps.{marks_front}
use Rattle.confluence_core.proofs.WholeWalks.{ended_stands, ended_settles, ended_keeps}
use Rattle.confluence_core.proofs.Runnings.{runs_then}
use Rattle.confluence_core.proofs.walk.Walk.settle.Goals as goal

-- a walk that is over met no more variables than there are places
met_fits : {w : Walk} → IsOver w → w.depth + 1 ≤ length w.path.items
met_fits over = let fits = path_fits over.trail in omega (arith, fits, over.sized.places_are)

pub walk-preserved : goal.walk-preserved
walk-preserved c =
    let old = c.walk.invariant in
    let step = c.in_ok-advance.ensures in
    let goes : GoesTo c.walk.self c.advance.new.self = MatchBool-at_true _ _ c.if-branch.true step.next in
    record {
      walks = goes.walks;
      begun = goes.begun ∙ old.begun;
      runs = runs_then old.current old.runs step.runs;
      stay = λ v at. step.settled v (old.stay v at);
      current = step.current ∙ old.current;
      reader = c.advance.ensures.reader ∙ old.reader;
    }

pub overflow_add-self : goal.overflow_add-self
overflow_add-self c =
    let ends : Ends c.walk.self c.advance.new.self =
    MatchBool-at_false _ _ c.if-branch.false c.in_ok-advance.ensures.next in
    let fits = met_fits ends.over in
    let units = ends.over.sized.instance.units in
    omega (arith, fits, units, ends.over.sized.places_are)

pub slice_bounds-mark_all-end : goal.slice_bounds-mark_all-end
slice_bounds-mark_all-end c =
    let ends : Ends c.walk.self c.advance.new.self =
    MatchBool-at_false _ _ c.if-branch.false c.in_ok-advance.ensures.next in
    let fits = met_fits ends.over in
    let w = c.advance.new.self in
    let end : w.depth + 1 ≤ length c.deref.result.now = omega (arith, fits, ap length c.deref.ensures.value) in
    sym (length-take-le (w.depth + 1) c.deref.result.now end)

pub mark_all-requires : goal.mark_all-requires
mark_all-requires c =
    let w = c.advance.new.self in
    let ends : Ends c.walk.self w = MatchBool-at_false _ _ c.if-branch.false c.in_ok-advance.ensures.next in
    let fits = met_fits ends.over in
    let all = c.deref.result.now in
    let size : length (take (w.depth + 1) all) ≡ w.depth + 1 =
    length-take-le (w.depth + 1) all (omega (arith, fits, ap length c.deref.ensures.value)) in
    record {
      known = λ k d less.
          let at : get_or (take (w.depth + 1) all) k d ≡ get_or w.path.items k 0 =
          get_or_default (take (w.depth + 1) all) k d 0 less ∙ get_or-take (w.depth + 1) all k 0 (omega (arith, size))
          ∙ ap (λ p. get_or p k 0) c.deref.ensures.value in
          let below = ends.over.trail.below k (omega (arith, size)) in
          omega (arith, at, below, ends.over.sized.marks_are, ap length c.deref_mut.ensures.value);
    }

pub returns : goal.returns
returns c =
    let w = c.advance.new.self in
    let old = c.walk.invariant in
    let step = c.in_ok-advance.ensures in
    let ends : Ends c.walk.self w = MatchBool-at_false _ _ c.if-branch.false step.next in
    let path = c.deref.result.now in
    let marks = with_items w.marks c.mark_all.new.marks in
    let same : marks.items ≡ c.mark_all.new.marks =
    with_items_is w.marks c.mark_all.new.marks (c.mark_all.auto.marks ∙ c.deref_mut.ensures.len) in
    let fits : w.depth + 1 ≤ length path =
    let most = met_fits ends.over in omega (arith, most, ap length c.deref.ensures.value) in
    let front : Marks path (w.depth + 1) settled c.deref_mut.result.now c.mark_all.new.marks =
    marks_front path (w.depth + 1) fits c.mark_all.ensures in
    let settles : SettlesPath w (record w { marks = marks }) = record {
      marks = rw same (rw c.deref.ensures.value at (rw c.deref_mut.ensures.value at front));
      others = refl;
    } in
    record {
      stands = ended_stands ends settles;
      runs = runs_then old.current old.runs step.runs;
      settled = subst (IsSettled marks.items) old.begun (ended_settles ends settles);
      stay = λ v at. ended_keeps ends settles v (step.settled v (old.stay v at));
      current = step.current ∙ old.current;
      reader = c.advance.ensures.reader ∙ old.reader;
    }
