use Rattle.std.proofs.Common.{Some, ap, length, ◌∙◌, arith}
use Rattle.std.proofs.lemmas.List.{length_push}
use Rattle.std.proofs.lemmas.List.Elements.{All-pop}
use Rattle.pop_workers.specs.AtWork.{IsBeside}
use Rattle.pop_workers.proofs.jobs.take_back.Goals as goal

pub take_one-requires-clause-job : goal.take_one-requires-clause-job
take_one-requires-clause-job g c =
    (All-pop (λ job. IsBeside c.args.board.now job.0 job.2) c.loop-job.jobs.items c.pop.new.self.items
    (Some c.in-Some.job) c.in-Some.ensures.items c.loop-job.invariant.2).1

pub loop-job-preserved : goal.loop-job-preserved
loop-job-preserved g c =
    let inv = c.loop-job.invariant in
    let share = c.in_ok-take_one.ensures.share in
    let longer = ap length c.in-Some.ensures.items ∙ length_push c.pop.new.self.items c.in-Some.job in (
      c.take_one.ensures.pass,
      omega (arith, share, longer, inv.1),
      (All-pop (λ job. IsBeside c.args.board.now job.0 job.2) c.loop-job.jobs.items c.pop.new.self.items
          (Some c.in-Some.job) c.in-Some.ensures.items inv.2).0,
      c.in_ok-take_one.ensures.readers,
    )
