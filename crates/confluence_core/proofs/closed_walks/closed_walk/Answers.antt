use Rattle.std.proofs.Common.{◌++◌, ◌∷◌, [], Some, sym, ap, subst, ◌∙◌, arith}
use Rattle.confluence_core.specs.ArrowWalks.{IsWay, IsClosedWalk}
use Rattle.confluence_core.proofs.ClosedWalks.{way_more, none_at_root, none_at_lesser, way_closed, none_longer}
use Rattle.confluence_core.proofs.closed_walks.closed_walk.Goals as goal

pub returns-in_default-clause-walk : goal.returns-in_default-clause-walk
returns-in_default-clause-walk c =
    none_at_root c.arrows.members.items c.arrows.v c.arrows.invariant.way (sym c.head.ensures.head ∙ c.in_default.is)

pub returns-then-w-start-clause-walk : goal.returns-then-w-start-clause-walk
returns-then-w-start-clause-walk c =
    subst (IsClosedWalk c.args.current.now c.args.cursors.now c.args.low c.args.start) (sym c.in_ok-push.ensures.items)
    (way_closed c.arrows.members.items c.arrows.v c.arrows.invariant.way
    (sym c.head.ensures.head ∙ c.in-Some.is ∙ ap (λ u. Some u) c.if-w-start.true))

pub returns-then-w-low-clause-walk : goal.returns-then-w-low-clause-walk
returns-then-w-low-clause-walk c =
    none_at_lesser c.arrows.members.items c.arrows.v c.arrows.invariant.way c.in-Some.w
    (sym c.head.ensures.head ∙ c.in-Some.is) c.if-w-low.true

pub arrows-preserved : goal.arrows-preserved
arrows-preserved c =
    let leads = sym c.head.ensures.head ∙ c.in-Some.is in
    let below = c.count-count.ensures.instance.family.below _ _ c.in-Some.w leads in
    record {
      way = subst (λ xs. IsWay c.args.current.now c.args.cursors.now c.args.low c.args.start (xs ++ c.in-Some.w ∷ []))
          (sym c.in_ok-push.ensures.items)
          (way_more c.arrows.members.items c.arrows.v c.arrows.invariant.way c.in-Some.w leads c.if-w-start.false
          (omega (arith, c.if-w-low.false)) below);
      reader = c.head.ensures.reader ∙ c.arrows.invariant.reader;
    }

pub returns-clause-walk : goal.returns-clause-walk
returns-clause-walk c =
    none_longer c.arrows.members.items c.arrows.v c.arrows.invariant.way
    (omega (arith, c.arrows-test.false, c.count-count.ensures.count, c.len.ensures))
