use Rattle.std.proofs.Common.{sym, subst, arith}
use Rattle.std.proofs.lemmas.Result.{IfOk-weaker}
use Rattle.confluence_core.specs.Stretches.{GoesOn, HasCome}
use Rattle.confluence_core.proofs.Reaching.{goes_then, joined_come, joined_goes, joined_room}
use Rattle.pop_workers.proofs.makers.Makers.end_behind.Goals as goal

pub join-requires : goal.join-requires
join-requires g c =
    let room = joined_room c.args.instance.now c.args.reached c.args.more c.units-units.ensures.instance c.requires.reached
    c.requires.more in
    record { room = omega (arith, room) }

pub end-requires-clause-reached : goal.end-requires-clause-reached
end-requires-clause-reached g c =
    subst (HasCome c.args.instance.now) (sym c.in_ok-joined.ensures)
    (joined_come c.args.instance.now c.args.reached c.args.more c.requires.reached c.requires.more)

pub returns-clause-on : goal.returns-clause-on
returns-clause-on g c =
    let i = c.args.instance.now in
    let joins = subst (GoesOn i c.args.reached) (sym c.in_ok-joined.ensures)
    (joined_goes i c.args.reached c.args.more c.requires.more) in
    IfOk-weaker c.end.result _ _
    (λ stage on. goes_then i c.args.reached c.in_ok-joined.joined stage.0 joins on) c.end.ensures.on
