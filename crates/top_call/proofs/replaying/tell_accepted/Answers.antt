use Rattle.top_call.proofs.ReplayedCerts.{look_told}
use Rattle.top_call.proofs.replaying.tell_accepted.Goals as goal

pub returns : goal.returns
returns c =
    let a = c.args.accepted.now in
    look_told a.instance a.reached c.in_ok-seen.seen.look c.tell_look.result c.in_ok-seen.ensures.seen.look
    c.tell_look.ensures.status c.tell_look.ensures.text
