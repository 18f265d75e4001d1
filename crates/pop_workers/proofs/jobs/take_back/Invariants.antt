use Rattle.std.proofs.Common.{◌≡◌, ◌+◌, length, All}
use Rattle.pop_stacks.specs.Readers.{Belongs}
use Rattle.claim_words.specs.Passes.{view, instance_of}
use Rattle.pop_workers.specs.AtWork.{IsIdleOn, IsBeside}
use Rattle.pop_workers.proofs.jobs.take_back.Given as goal

-- how many jobs are left
abbrev pub decreases-loop-job : goal.decreases-loop-job
decreases-loop-job g l = length l.jobs.items

-- the pass has one share more for each job that was taken; those that are left are helpers; readers are of the stacks
abbrev pub invariant-loop-job : goal.invariant-loop-job
invariant-loop-job g l =
    IsIdleOn l.board l.pass
    × ((view l.pass).share + length l.jobs.items ≡ (view l.initial.pass).share + length l.initial.jobs.items)
    × All (λ job. IsBeside l.board job.0 job.2) l.jobs.items
    × All (Belongs (instance_of l.board).stacks) l.readers.items
