use Rattle.std.proofs.Common.{sym, subst}
use Rattle.confluence_core.specs.Loops.{IsCubeOf}
use Rattle.confluence_core.proofs.loops.cube_of.Goals as goal

pub unreachable-requires : goal.unreachable-requires
unreachable-requires c = c.in_default.ensures c.in_ok-pairs.ensures.cube.cube

pub returns-clause-cube : goal.returns-clause-cube
returns-clause-cube c =
    subst (IsCubeOf c.args.current.now c.args.cursors.now c.args.members.now) (sym c.in-Some.ensures)
    c.in_ok-pairs.ensures.cube
