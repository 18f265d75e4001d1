use Rattle.std.proofs.Common.{subst, sym, arith}
use Rattle.pop_model.specs.Instances.{Instance}
use Rattle.pop_model.specs.Runs.{start_of}
use Rattle.confluence_core.specs.Kept.{keeps_log}
use Rattle.pop_workers.specs.Serving.{Serves}
use Rattle.confluence_core.specs.Stretches.{before_pops}
use Rattle.confluence_core.proofs.Reaching.{goes_then}
use Rattle.pop_workers.proofs.Serving.{serves_raised}
use Rattle.pop_workers.specs.Stages.{StagesLead}
use Rattle.pop_workers.proofs.StageTurns.{first_grown, lower, nearer, next_grown, next_made, next_opens, still_keyed}
use Rattle.pop_workers.proofs.growing.all_stages.Goals as goal

pub stages-init : goal.stages-init
stages-init g c =
    let reached = goes_then c.args.instance.now (before_pops (start_of c.args.instance.now) (keeps_log c.args.keep))
    c.in_ok-opening.opening c.in_ok-end.end.0 c.in_ok-opening.ensures.reached c.in_ok-end.ensures.on in
    record {
      grown = first_grown c.args.last c.args.instance.now (keeps_log c.args.keep) c.requires.keyed c.requires.higher;
      made = record {
        staged = StagesLead.one c.in_ok-end.end.0 c.in_ok-end.end.1 reached c.in_ok-end.ensures.end;
        reached = reached;
        end = c.in_ok-end.ensures.end;
      };
      serves = subst (Serves c.args.instance.now) (sym c.in_ok-end.ensures.made_for) c.requires.serves;
    }

pub height_to_come-requires-clause-stuck : goal.height_to_come-requires-clause-stuck
height_to_come-requires-clause-stuck g c = (c.stages.end.0.cursors, c.stages.invariant.made.end.stuck_list)

pub height_to_come-requires-clause-keyed : goal.height_to_come-requires-clause-keyed
height_to_come-requires-clause-keyed g c = still_keyed _ _ _ c.requires.keyed _ c.stages.invariant.grown

pub height_to_come-requires-clause-higher : goal.height_to_come-requires-clause-higher
height_to_come-requires-clause-higher g c =
    lower _ _ _ c.requires.keyed _ c.stages.invariant.grown c.args.last c.stages.invariant.grown.low

pub raise-requires-clause-higher : goal.raise-requires-clause-higher
raise-requires-clause-higher g c =
    lower _ _ _ c.requires.keyed _ c.stages.invariant.grown c.in-Some.height
    (omega (arith, c.in-Some.ensures.height.higher))

pub returns-in_err-reached-clause-grown : goal.returns-in_err-reached-clause-grown
returns-in_err-reached-clause-grown g c =
    next_grown _ _ _ c.requires.keyed _ c.stages.invariant.grown _ _ c.stages.invariant.made c.in-Some.height
    c.raise.new.self c.in-Some.ensures.height c.raise.ensures

pub stage-requires-in-Some-clause-reached : goal.stage-requires-in-Some-clause-reached
stage-requires-in-Some-clause-reached g c κs within = (
  start_of c.args.instance.now,
  keeps_log c.args.keep,
  next_opens _ _ _ c.requires.keyed _ c.stages.invariant.grown _ _ c.stages.invariant.made c.in-Some.height
      c.raise.new.self c.in-Some.ensures.height c.raise.ensures _ c.height_to_come.ensures.instance
      c.in_ok-reached.ensures,
)

pub returns-in_err-end-2-clause-grown : goal.returns-in_err-end-2-clause-grown
returns-in_err-end-2-clause-grown g c =
    next_grown _ _ _ c.requires.keyed _ c.stages.invariant.grown _ _ c.stages.invariant.made c.in-Some.height
    c.raise.new.self c.in-Some.ensures.height c.raise.ensures

pub stages-smaller : goal.stages-smaller
stages-smaller g c =
    nearer _ _ _ c.requires.keyed _ c.stages.invariant.grown _ _ c.stages.invariant.made c.in-Some.height
    c.raise.new.self c.in-Some.ensures.height c.raise.ensures

pub stages-preserved : goal.stages-preserved
stages-preserved g c =
    let inv = c.stages.invariant in
    let k : Instance = c.raise.new.self in
    record {
      grown = next_grown _ _ _ c.requires.keyed _ inv.grown _ _ inv.made c.in-Some.height k c.in-Some.ensures.height
          c.raise.ensures;
      made = next_made _ _ _ c.requires.keyed _ inv.grown _ _ inv.made c.in-Some.height k c.in-Some.ensures.height
          c.raise.ensures c.in_ok-reached.field-0 c.height_to_come.ensures.instance c.in_ok-reached.ensures
          c.in_ok-end-2.end.0 c.in_ok-end-2.end.1 c.in_ok-end-2.ensures.on c.in_ok-end-2.ensures.end;
      serves = subst (Serves k) (sym c.in_ok-end-2.ensures.made_for)
          (subst (λ (x : Instance). Serves x c.stages.makers) (sym c.raise.ensures)
          (serves_raised c.stages.instance c.stages.makers c.in-Some.height inv.serves));
    }
