use Rattle.std.proofs.Common.{sym, subst}
use Rattle.told_runs.specs.Outcomes.{IsTextStatus}
use Rattle.top_call.specs.Resumes.{IsResumed}
use Rattle.top_call.specs.Answers.{ComesOf}
use Rattle.top_call.proofs.Carrying.{refused_result}
use Rattle.top_call.proofs.ByCommand.{cert_refused, is_replay}
use Rattle.top_call.proofs.ReplayedCerts.{read_accepted, replay_told, same_fault}
use Rattle.top_call.proofs.ResumedCerts.{resumed_told}
use Rattle.top_call.proofs.Statuses.{look_status_is, told_is}
use Rattle.top_call.proofs.answer.answer_cert.Goals as goal

-- the text is refused
pub returns-in_err-accepted-clause-answer : goal.returns-in_err-accepted-clause-answer
returns-in_err-accepted-clause-answer g c text known failed =
    refused_result _ c.from_residual.result c.in_err-accepted.field-0.0 c.from_residual.ensures.1
    (cert_refused c.args.job.now.command c.args.job.now _ text c.in_err-accepted.field-0.0 c.requires.cert
    (c.in_err-accepted.ensures.refused text known
    (λ is. failed (same_fault c.from_residual.result c.in_err-accepted.field-0.0 c.from_residual.ensures.1 is))))

-- or its run goes on, and is told
pub returns-in-Resume-clause-answer : goal.returns-in-Resume-clause-answer
returns-in-Resume-clause-answer g c text known failed =
    rw c.in-Resume.is (resumed_told _ text c.in_ok-accepted.accepted c.in_ok-go_on.field-0.status
    c.in_ok-go_on.field-0.text.items
    (read_accepted (g.S.Source.left c.args.source.now) (g.S.Source.left c.read_accepted.new.source) text
    c.in_ok-accepted.accepted known c.in_ok-accepted.ensures.accepted) c.in_ok-go_on.ensures)

pub returns-in-Resume-clause-status : goal.returns-in-Resume-clause-status
returns-in-Resume-clause-status g c =
    let (bytes, read, accepted) = c.in_ok-accepted.ensures.accepted in
    told_is (IsResumed ComesOf _ accepted.cert) _ _ (λ r h. absurd h.goes_on)
    (c.in_ok-go_on.ensures accepted.cert accepted.held)

-- or it is told where it stands
pub tell_accepted-told-requires : goal.tell_accepted-told-requires
tell_accepted-told-requires g c =
    let (bytes, read, accepted) = c.in_ok-accepted.ensures.accepted in accepted.held.run.can

pub returns-clause-answer : goal.returns-clause-answer
returns-clause-answer g c text known failed =
    rw (is_replay c.args.job.now.command c.requires.cert c.in_default.not-Resume)
    (replay_told text c.in_ok-accepted.accepted c.in_ok-told.field-0.status c.in_ok-told.field-0.text.items
    (read_accepted (g.S.Source.left c.args.source.now) (g.S.Source.left c.read_accepted.new.source) text
    c.in_ok-accepted.accepted known c.in_ok-accepted.ensures.accepted) c.in_ok-told.ensures)

pub returns-clause-status : goal.returns-clause-status
returns-clause-status g c =
    let told = c.in_ok-told.ensures in
    subst IsTextStatus (sym told.status_is) (look_status_is told.look)
