use Rattle.std.proofs.Common.{◌≡◌, List, ℕ, false, ap, subst, sym, arith}
use Rattle.pop_model.specs.Stacks.{StackTable}
use Rattle.pop_model.specs.Popping.{AreValuesAt}
use Rattle.confluence_core.specs.declared.end.End.{End}
use Rattle.confluence_core.specs.declared.run.Run.{Run}
use Rattle.confluence_core.specs.Stretches.{IsReached, before_pops}
use Rattle.confluence_core.proofs.Reaching.{goes_then}
use Rattle.pop_batch.specs.Parts.{IsEndFrom, IsStopFrom, start_at}
use Rattle.pop_batch.proofs.StoppedRuns.{end_of, stands_at, stop_of}
use Rattle.pop_batch.proofs.stopping.part_of.Goals as goal

pub returns-clause-stopped : goal.returns-clause-stopped
returns-clause-stopped c =
    let i = c.args.sample.now in
    let start = start_at i c.args.from in
    let left = c.in_ok-left.left in
    let stuck = c.in_ok-left.stuck in
    let values = c.in_ok-values.values in
    let whole : IsReached i start false left =
    goes_then i (before_pops start false) c.in_ok-begun.begun left c.in_ok-begun.ensures.reached
    c.in_ok-left.ensures.on in
    let are : AreValuesAt i.stacks left.cursors values =
    subst (λ (s : StackTable). AreValuesAt s left.cursors values) c.stacks.ensures.stacks c.in_ok-values.ensures.values in
    let at : c.told-at.result.end ≡ stands_at left stuck values = ap (λ (run : Run). run.end) c.told-at.ensures in
    let pops = ap (λ (e : End). e.pops) at in
    let most = c.in_ok-left.ensures.most (omega (arith, c.in_ok-begun.ensures.none)) in
    λ is. (
      subst (IsStopFrom i start) (sym at)
          (stop_of i start left stuck values whole c.in_ok-left.ensures.stuck_list are (c.in_ok-is_open.ensures.poppable is)),
      (let least = c.in_ok-is_open.ensures.limit is in omega (arith, pops, most, least)),
    )

pub returns-clause-ended : goal.returns-clause-ended
returns-clause-ended c =
    let i = c.args.sample.now in
    let start = start_at i c.args.from in
    let left = c.in_ok-left.left in
    let stuck = c.in_ok-left.stuck in
    let values = c.in_ok-values.values in
    let whole : IsReached i start false left =
    goes_then i (before_pops start false) c.in_ok-begun.begun left c.in_ok-begun.ensures.reached
    c.in_ok-left.ensures.on in
    let are : AreValuesAt i.stacks left.cursors values =
    subst (λ (s : StackTable). AreValuesAt s left.cursors values) c.stacks.ensures.stacks c.in_ok-values.ensures.values in
    let at : c.told-at.result.end ≡ stands_at left stuck values = ap (λ (run : Run). run.end) c.told-at.ensures in
    λ closed. subst (IsEndFrom i start) (sym at)
    (end_of i start left stuck values c.requires.extremal whole c.in_ok-left.ensures.stuck_list are
    (c.in_ok-is_open.ensures.end closed))
