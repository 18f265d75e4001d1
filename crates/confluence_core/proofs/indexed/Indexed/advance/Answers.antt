use Rattle.std.proofs.Common.{IfOk, sym, ap, subst, ◌∙◌, arith}
use Rattle.pop_model.specs.Stacks.{StackTable}
use Rattle.pop_model.specs.Instances.{Instance, IsInstance}
use Rattle.pop_model.specs.Runs.{IsStuckList}
use Rattle.pop_stacks.specs.Readers.{Belongs}
use Rattle.confluence_core.specs.Indexes.{AreIndexed, family_in}
use Rattle.confluence_core.specs.Stretches.{CanGoOn, GoesOn, HasCome}
use Rattle.confluence_core.specs.declared.indexed.IndexedFamily.{IndexedFamily}
use Rattle.confluence_core.proofs.Reaching.{come_can, come_room, goes_nowhere}
use Rattle.confluence_core.proofs.indexed.Indexed.advance.Goals as goal

-- the instance of stacks and a family
abbrev over : StackTable → IndexedFamily → Instance
over s family = record { stacks = s; family = family_in family }

pub stuck-requires-clause-can : goal.stuck-requires-clause-can
stuck-requires-clause-can c = come_can c.args.self.now c.args.reached c.requires.reached

pub returns-then-is_empty-clause-on : goal.returns-then-is_empty-clause-on
returns-then-is_empty-clause-on c =
    goes_nowhere c.args.self.now c.args.reached (come_can c.args.self.now c.args.reached c.requires.reached)

pub returns-then-is_empty-clause-few : goal.returns-then-is_empty-clause-few
returns-then-is_empty-clause-few c =
    let room = come_room c.args.self.now c.args.reached c.stacks-stacks.ensures.instance c.requires.reached in
    omega (arith, room)

pub pop_listed-requires : goal.pop_listed-requires
pop_listed-requires c =
    let same = sym c.self.view_is ∙ ap (over c.self.inside.stacks.now) c.in-Listed.is in
    record {
      instance = subst IsInstance same c.stacks-stacks.ensures.instance;
      index = subst AreIndexed c.in-Listed.is c.self.invariant.indexed;
      belongs = subst (λ (x : Instance). Belongs x.stacks c.args.reader.now) same c.requires.belongs;
      reached = subst (λ x. HasCome x c.args.reached) same c.requires.reached;
    }

pub stuck-requires-in-Listed-clause-can : goal.stuck-requires-in-Listed-clause-can
stuck-requires-in-Listed-clause-can c =
    subst (λ x. CanGoOn x c.in_ok-left-in-Listed.left)
    (ap (over c.self.inside.stacks.now) (sym c.in-Listed.is) ∙ c.self.view_is) c.in_ok-left-in-Listed.ensures.on.can

pub returns-in_ok-stuck-in-Listed-clause-on : goal.returns-in_ok-stuck-in-Listed-clause-on
returns-in_ok-stuck-in-Listed-clause-on c =
    subst (λ x. GoesOn x c.args.reached c.in_ok-left-in-Listed.left)
    (ap (over c.self.inside.stacks.now) (sym c.in-Listed.is) ∙ c.self.view_is) c.in_ok-left-in-Listed.ensures.on

pub pop_cycles-requires : goal.pop_cycles-requires
pop_cycles-requires c =
    let same = sym c.self.view_is ∙ ap (over c.self.inside.stacks.now) c.in-Cycles.is in
    let instance = subst IsInstance same c.stacks-stacks.ensures.instance in
    record {
      fits = instance.fits;
      belongs = subst (λ (x : Instance). Belongs x.stacks c.args.reader.now) same c.requires.belongs;
      reached = subst (λ x. HasCome x c.args.reached) same c.requires.reached;
    }

pub returns-in-Cycles-clause-on : goal.returns-in-Cycles-clause-on
returns-in-Cycles-clause-on c =
    subst (λ x. IfOk c.pop_cycles.result (λ left. GoesOn x c.args.reached left.0))
    (ap (over c.self.inside.stacks.now) (sym c.in-Cycles.is) ∙ c.self.view_is) c.pop_cycles.ensures.on

pub returns-in-Cycles-clause-stuck_list : goal.returns-in-Cycles-clause-stuck_list
returns-in-Cycles-clause-stuck_list c =
    subst (λ x. IfOk c.pop_cycles.result (λ left. IsStuckList x left.0.cursors left.1))
    (ap (over c.self.inside.stacks.now) (sym c.in-Cycles.is) ∙ c.self.view_is) c.pop_cycles.ensures.stuck_list
