use Rattle.std.proofs.Common.{arith, ap, length}
use Rattle.std.proofs.lemmas.List.{length_push}
use Rattle.std.proofs.lemmas.List.Elements.{All-push, All-same}
use Rattle.pop_workers.specs.AtWork.{IsBeside}
use Rattle.pop_workers.proofs.jobs.hand_out.Goals as goal

pub loop-own-preserved : goal.loop-own-preserved
loop-own-preserved g c =
    let inv = c.loop-own.invariant in
    let items = c.push_reserved.ensures.items in
    let more = ap length items in
    let size = length_push c.loop-own.jobs.items c.job_for.result in
    let gone = length_push c.loop-own.yielded c.in-Some.own in
    let room = c.push_reserved.ensures.capacity in
    let share = c.job_for.ensures.share in (
      tt,
      tt,
      c.job_for.ensures.pass,
      omega (arith, more, size, share, inv.3),
      omega (arith, more, size, gone, inv.4),
      omega (arith, room, inv.5),
      All-same (λ job. IsBeside c.args.board.now job.0 job.2) _ _ items
          (All-push (λ job. IsBeside c.args.board.now job.0 job.2) c.loop-own.jobs.items c.job_for.result inv.6
          c.job_for.ensures.job),
    )
