use Rattle.std.proofs.Common.{inl, inr, rules, ℕ, Option, ◌≡◌, ◌+◌, ◌<◌, Some, length, get_or, set, sym, ap, subst, ◌∙◌, arith, length-set}
use Rattle.std.proofs.lemmas.List.{get_or_default}
use Rattle.std.proofs.lemmas.Option.{none-some, same_Some}
use Rattle.pop_model.specs.Stacks.{value_at}
use Rattle.pop_model.specs.Popping.{cursor}
use Rattle.pop_model.specs.Cycles.{head_of}
use Rattle.confluence_core.specs.CycleTables.{current_head}
use Rattle.confluence_core.specs.Walks.{IsSettled}
use Rattle.confluence_core.specs.LoopErasedWalks.{Walks}
use Rattle.confluence_core.specs.declared.walk.Walk.{Walk}
use Rattle.confluence_core.proofs.PathsLemmas.{room_for_more, pushed, step_rests, step_on, step_back, step_below}
use Rattle.confluence_core.proofs.WalkSteps.{sized_same}
use Rattle.confluence_core.proofs.walk.Walk.extend.Goals as goal

-- the arrow at the entry of its cursor is the current one
head_here : (w : Walk) {k : ℕ} {r : Option ℕ} → k ≡ cursor w.walked.cursors w.at
    → r ≡ head_of w.current.heads w.at (value_at w.current.stacks w.at k)
    → r ≡ current_head w.current w.walked.cursors w.at
head_here w here is = is ∙ ap (λ k. head_of w.current.heads w.at (value_at w.current.stacks w.at k)) here

-- the mark that is read, of a variable to which the new arrow leads
mark_at : {w : Walk} → Walks w → (v m : ℕ) → current_head w.current w.walked.cursors w.at ≡ Some v
    → m ≡ get_or (set w.marks.items w.at (w.depth + 1)) v m → m ≡ get_or (set w.marks.items w.at (w.depth + 1)) v 0
mark_at {w} walks v m leads read =
    let below = step_below walks.sized walks.goes_on v leads in
    read ∙ get_or_default (set w.marks.items w.at (w.depth + 1)) v m 0
    (omega (arith, below, walks.sized.marks_are, length-set w.marks.items w.at (w.depth + 1)))

pub index_mut-requires : goal.index_mut-requires
index_mut-requires c =
    let w = c.args.self.now in
    let room = room_for_more c.requires.walks.sized c.requires.walks.goes_on in
    let h : w.depth < length w.path.items = omega (arith, room, c.requires.walks.sized.places_are) in
    search rules

pub overflow_cast-depth : goal.overflow_cast-depth
overflow_cast-depth c =
    let room = room_for_more c.requires.walks.sized c.requires.walks.goes_on in
    let units = c.requires.walks.sized.instance.units in
    omega (arith, room, units)

pub overflow_add-depth : goal.overflow_add-depth
overflow_add-depth c =
    let room = room_for_more c.requires.walks.sized c.requires.walks.goes_on in
    let units = c.requires.walks.sized.instance.units in
    omega (arith, room, units)

pub returns-in_default-clause-leads : goal.returns-in_default-clause-leads
returns-in_default-clause-leads c =
    step_rests c.requires.walks.sized c.requires.walks.goes_on
    (λ w on. absurd (none-some w (sym c.in_default.is ∙ head_here c.args.self.now c.get-entry.ensures c.head_at.ensures.head ∙ on)))

pub returns-then-mark-clause-leads : goal.returns-then-mark-clause-leads
returns-then-mark-clause-leads c =
    let w = c.args.self.now in
    let leads = sym (head_here c.args.self.now c.get-entry.ensures c.head_at.ensures.head) ∙ c.in-Some.is in
    let read = mark_at c.requires.walks c.in-Some.w c.index-mark.result.now leads c.index-mark.ensures in
    step_rests c.requires.walks.sized c.requires.walks.goes_on
    (λ v on. subst (IsSettled (set w.marks.items w.at (w.depth + 1))) (same_Some c.in-Some.w v (sym leads ∙ on))
    (sym read ∙ c.if-mark.true))

pub place_of-requires-clause-sized : goal.place_of-requires-clause-sized
place_of-requires-clause-sized c =
    let w = c.args.self.now in
    sized_same (length-set w.marks.items w.at (w.depth + 1)) (length-set w.path.items w.depth w.at)
    c.requires.walks.sized

pub place_of-requires-clause-trail : goal.place_of-requires-clause-trail
place_of-requires-clause-trail c = pushed c.requires.walks.sized c.requires.walks.goes_on

pub place_of-requires-clause-known : goal.place_of-requires-clause-known
place_of-requires-clause-known c =
    step_below c.requires.walks.sized c.requires.walks.goes_on c.in-Some.w (sym (head_here c.args.self.now c.get-entry.ensures c.head_at.ensures.head) ∙ c.in-Some.is)

pub returns-in-Some-place_of-clause-leads : goal.returns-in-Some-place_of-clause-leads
returns-in-Some-place_of-clause-leads c =
    let found = c.in-Some-place_of.ensures in
    step_back c.requires.walks.sized c.requires.walks.goes_on c.in-Some.w (sym (head_here c.args.self.now c.get-entry.ensures c.head_at.ensures.head) ∙ c.in-Some.is)
    c.in-Some-place_of.place found.0 found.1

pub returns-in-None-clause-leads : goal.returns-in-None-clause-leads
returns-in-None-clause-leads c =
    let leads = sym (head_here c.args.self.now c.get-entry.ensures c.head_at.ensures.head) ∙ c.in-Some.is in
    let read = mark_at c.requires.walks c.in-Some.w c.index-mark.result.now leads c.index-mark.ensures in
    step_on c.requires.walks.sized c.requires.walks.goes_on c.in-Some.w leads (λ met. elim met [
      | inl at ↦ c.if-mark.false (read ∙ at)
      | inr on ↦ c.in-None.ensures on
    ])
