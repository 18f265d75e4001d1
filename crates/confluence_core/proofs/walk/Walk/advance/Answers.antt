use Rattle.std.proofs.Common.{rules, ◌≡◌, ◌+◌, ◌^◌, ◌<◌, ◌≤◌, length, get_or, sym, ap, subst, ◌∙◌, arith}
use Rattle.std.specs.List.{slice_range}
use Rattle.std.proofs.lemmas.List.{get_or_default}
use Rattle.confluence_core.specs.Loops.{AreMembers}
use Rattle.confluence_core.specs.Steps.{RunsOn, GoesTo}
use Rattle.confluence_core.specs.declared.walk.Walk.{Walk}
use Rattle.confluence_core.proofs.Advancing.{advances_on, advances_rests, extended_sized, goes_back, ends_back}
use Rattle.confluence_core.proofs.PathsLemmas.{path_fits, places_few}
use Rattle.confluence_core.proofs.Runnings.{runs_none}
use Rattle.confluence_core.proofs.WalkSteps.{closes_here, closes_short}
use Rattle.confluence_core.proofs.walk.Walk.advance.Goals as goal

pub overflow_add-self : goal.overflow_add-self
overflow_add-self c =
    let few = places_few c.requires.walks.sized c.requires.walks.goes_on in
    omega (arith, few, ap (λ (x : Walk). x.depth) c.extend.ensures.extends.others)

pub returns-in-On-clause-next : goal.returns-in-On-clause-next
returns-in-On-clause-next c =
    advances_on c.requires.walks c.extend.ensures.extends c.in-On.variable c.in-On.ensures.leads

pub returns-in-Rests-clause-next : goal.returns-in-Rests-clause-next
returns-in-Rests-clause-next c = advances_rests c.requires.walks c.extend.ensures.extends c.in-Rests.ensures.leads

pub returns-in-Rests-clause-runs : goal.returns-in-Rests-clause-runs
returns-in-Rests-clause-runs c =
    let w = c.args.self.now in
    subst (λ (x : Walk). RunsOn w.current w.walked x.walked) (sym c.extend.ensures.extends.others)
    (runs_none w.walked.stuck)

pub overflow_add-members : goal.overflow_add-members
overflow_add-members c =
    let fits = path_fits c.in-Back.ensures.leads.trail in
    let units = (extended_sized c.requires.walks c.extend.ensures.extends).instance.units in
    omega (arith, fits, units)

pub offset_bounds-deref-place : goal.offset_bounds-deref-place
offset_bounds-deref-place c =
    let fits = path_fits c.in-Back.ensures.leads.trail in
    let units = (extended_sized c.requires.walks c.extend.ensures.extends).instance.units in
    let order = c.in-Back.ensures.leads.order in
    omega (arith, fits, units, order)

pub slice_bounds-members-end : goal.slice_bounds-members-end
slice_bounds-members-end c =
    let n = c.extend.new.self in
    let fits = path_fits c.in-Back.ensures.leads.trail in
    let sized = extended_sized c.requires.walks c.extend.ensures.extends in
    let h : n.depth + 1 ≤ length n.path.items = omega (arith, fits, sized.places_are) in
    search rules

pub pop_or_note-requires-clause-members : goal.pop_or_note-requires-clause-members
pop_or_note-requires-clause-members c =
    let n = c.extend.new.self in
    let sized = extended_sized c.requires.walks c.extend.ensures.extends in
    subst (λ p. AreMembers n.current (slice_range p c.in-Back.place (n.depth + 1))) (sym c.deref.ensures.value)
    (closes_here sized c.in-Back.ensures.leads).members

pub pop_or_note-requires-clause-cursors : goal.pop_or_note-requires-clause-cursors
pop_or_note-requires-clause-cursors c = (extended_sized c.requires.walks c.extend.ensures.extends).cursors

pub pop_or_note-requires-clause-short : goal.pop_or_note-requires-clause-short
pop_or_note-requires-clause-short c =
    let n = c.extend.new.self in
    let sized = extended_sized c.requires.walks c.extend.ensures.extends in
    subst (λ p. length (slice_range p c.in-Back.place (n.depth + 1)) < 2 ^ 31) (sym c.deref.ensures.value)
    (closes_short sized c.in-Back.ensures.leads)

pub returns-then-not-is_popped : goal.returns-then-not-is_popped
returns-then-not-is_popped c =
    let ends = ends_back c.requires.walks c.extend.ensures.extends c.in-Back.place c.in-Back.ensures.leads
    c.pop_or_note.new.self c.in_ok-is_popped-in-Back.is_popped
    (rw c.deref.ensures.value at c.in_ok-is_popped-in-Back.ensures.closed) c.if-not-is_popped.true in
    record {
      next = ends.next;
      runs = ends.runs;
      settled = ends.stay;
      current = ends.current;
      reader = c.pop_or_note.ensures.reader ∙ c.extend.ensures.reader;
    }

pub index-requires : goal.index-requires
index-requires c =
    let n = c.extend.new.self in
    let fits = path_fits c.in-Back.ensures.leads.trail in
    let sized = extended_sized c.requires.walks c.extend.ensures.extends in
    let order = c.in-Back.ensures.leads.order in
    let h : c.in-Back.place < length n.path.items = omega (arith, fits, sized.places_are, order) in
    search rules

pub returns-else-not-is_popped : goal.returns-else-not-is_popped
returns-else-not-is_popped c =
    let w = c.args.self.now in
    let n = c.extend.new.self in
    let left = c.pop_or_note.new.self in
    let place = c.in-Back.place in
    let back = goes_back c.requires.walks c.extend.ensures.extends place c.in-Back.ensures.leads left
    c.in_ok-is_popped-in-Back.is_popped (rw c.deref.ensures.value at c.in_ok-is_popped-in-Back.ensures.closed)
    c.if-not-is_popped.false in
    let read : c.index.result.now ≡ get_or n.path.items place 0 =
    c.index.ensures ∙ get_or_default n.path.items place c.index.result.now 0 back.next.within in
    record {
      next = subst (λ a. GoesTo w (record n { walked = left; depth = place; at = a })) (sym read) back.next.goes;
      runs = back.runs;
      settled = back.stay;
      current = back.current;
      reader = c.pop_or_note.ensures.reader ∙ c.extend.ensures.reader;
    }
