use Rattle.std.proofs.Common.{◌≡◌, ◌++◌, ◌∷◌, [], sym, ap, ◌∙◌}
use Rattle.pop_model.proofs.Members.{first_read}
use Rattle.confluence_core.specs.Stuck.{event_of}
use Rattle.confluence_core.specs.Walks.{cycle_event}
use Rattle.confluence_core.proofs.LoopCubes.{one_cube}
use Rattle.confluence_core.proofs.walked.Walked.note.Goals as goal

pub returns-clause-noted : goal.returns-clause-noted
returns-clause-noted c e is =
    let w = c.args.self.now in
    let cube = c.in_ok-cube.cube in
    let same : e ≡ cube = one_cube c.args.current.now w.cursors c.args.members.now e cube is
    c.in_ok-cube.ensures.cube in
    let event : event_of (c.pair-unit.result.0, cube) ≡ cycle_event e =
    ap (λ u. event_of (u, cube)) (sym (first_read cube c.pair-unit.result c.pair-unit.ensures))
    ∙ ap cycle_event (sym same) in
    ap (λ events. record w { stuck = events }) (c.in_ok-push.ensures.pushed ∙ ap (λ f. w.stuck ++ f ∷ []) event)
