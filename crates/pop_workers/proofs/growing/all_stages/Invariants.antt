use Rattle.std.proofs.Common.{◌-◌}
use Rattle.confluence_core.specs.Kept.{keeps_log}
use Rattle.pop_workers.specs.Serving.{Serves}
use Rattle.pop_workers.specs.Stages.{height, AreMade, HasGrown}
use Rattle.pop_workers.proofs.growing.all_stages.Given as goal

-- the stages up to here were made, and those who make them serve the instance as it is
abbrev pub invariant-stages : goal.invariant-stages
invariant-stages g l = record {
  grown : HasGrown l.last l.initial.instance (keeps_log l.fn.keep) l.instance;
  made : AreMade l.last l.initial.instance (keeps_log l.fn.keep) l.instance l.end.0 l.end.1;
  serves : Serves l.instance l.makers;
}

-- how far the height is below the last
abbrev pub decreases-stages : goal.decreases-stages
decreases-stages g l = l.last - height l.instance
