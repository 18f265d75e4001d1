use Rattle.std.proofs.Common.{◌≡◌, ◌+◌, ◌<◌, ℕ, List, length, get_or, refl, ap, ap₂, subst, arith}
use Rattle.std.proofs.lemmas.Bool.{false≢true}
use Rattle.pop_model.specs.Stacks.{height_of}
use Rattle.pop_model.specs.Popping.{cursor, pop}
use Rattle.confluence_core.specs.Loops.{Raises}
use Rattle.confluence_core.specs.Steps.{with_record}
use Rattle.confluence_core.specs.declared.walked.Walked.{Walked}
use Rattle.confluence_core.proofs.LoopCubes.{cube_all, loop_all, raises_pop}
use Rattle.confluence_core.proofs.walked.Walked.pop_or_note.Goals as goal

pub returns-then-not-is_to_pop-clause-closed : goal.returns-then-not-is_to_pop-clause-closed
returns-then-not-is_to_pop-clause-closed c e is =
    let t = c.args.current.now in
    let w = c.args.self.now in
    record {
      last = λ few next. false≢true (c.if-not-is_to_pop.ensures.1 (
        few,
        loop_all t w.cursors c.args.members.now e is (λ v. cursor w.cursors v + 1 < height_of t.stacks v) next,
      ));
      noted = c.in_ok-note.ensures.noted e is;
    }

pub raise-requires-clause-known : goal.raise-requires-clause-known
raise-requires-clause-known c k d less =
    let same = ap (λ (w : Walked). length w.cursors) c.in_ok-keep_record.ensures.others in
    let known = c.requires.members.known k d less in
    omega (arith, known, c.requires.cursors.count, same)

pub raise-requires-clause-room : goal.raise-requires-clause-room
raise-requires-clause-room c k d less =
    let v = get_or c.args.members.now k d in
    let next = (c.if-not-is_to_pop.ensures.0 refl).1 k d less in
    let height = c.count-count.ensures.instance.table.heights v in
    let here = ap (λ (w : Walked). cursor w.cursors v) c.in_ok-keep_record.ensures.others in
    omega (arith, next, height, here)

pub overflow_add-self : goal.overflow_add-self
overflow_add-self c =
    let same = ap (λ (w : Walked). w.pops) c.in_ok-keep_record.ensures.others in
    omega (arith, c.requires.room, same)

pub returns-clause-closed : goal.returns-clause-closed
returns-clause-closed c e is =
    let t = c.args.current.now in
    let w = c.args.self.now in
    let members = c.args.members.now in
    let to_pop = c.if-not-is_to_pop.ensures.0 refl in
    let kept : c.keep_record.new.self ≡ with_record w e = c.in_ok-keep_record.ensures.kept e is in
    let raised : Raises members (length members) w.cursors c.raise.new.cursors =
    subst (λ (a : Walked). Raises members (length members) a.cursors c.raise.new.cursors) kept c.raise.ensures in
    let popped : c.raise.new.cursors ≡ pop w.cursors e =
    raises_pop t w.cursors members e is c.raise.new.cursors raised in
    record {
      few = to_pop.0;
      next = cube_all t w.cursors members e is (λ v. cursor w.cursors v + 1 < height_of t.stacks v) to_pop.1;
      popped = ap₂ (λ (a : Walked) (xs : List ℕ). record a { cursors = xs; pops = a.pops + 1 }) kept popped;
    }
