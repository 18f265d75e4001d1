use Rattle.std.proofs.Common.{sym, ap, ◌∙◌}
use Rattle.std.specs.Ordering.{is_eq}
use Rattle.pop_instance.proofs.Order.{cube_eq}
use Rattle.pop_instance.proofs.cube.CubePartialEq.eq.Goals as goal

pub returns-clause-same : goal.returns-clause-same
returns-clause-same c =
    let is = c.is_eq.ensures ∙ ap is_eq c.cmp.ensures in
    let both = cube_eq c.args.self.now c.args.other.now in
    (λ yes'. both.0 (sym is ∙ yes'), λ same. is ∙ both.1 same)
