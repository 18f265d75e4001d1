use Rattle.std.proofs.Common.{◌≡◌, ◌+◌, ◌≤◌, length, All, vec_capacity}
use Rattle.claim_words.specs.Passes.{view}
use Rattle.pop_workers.specs.AtWork.{IsIdleOn, IsBeside}
use Rattle.pop_workers.proofs.jobs.hand_out.Given as goal

-- as many passes of share 1 were split off as deques were gone over, and there is room for all
abbrev pub invariant-loop-own : goal.invariant-loop-own
invariant-loop-own g l =
    (goal.iterator-loop-own g).can_next l.own-iterator
    × (goal.iterator-loop-own g).is_finite l.own-iterator
    × IsIdleOn l.board l.pass
    × ((view l.pass).share + length l.jobs.items ≡ (view l.initial.pass).share)
    × (length l.jobs.items ≡ length l.yielded)
    × (length l.fn.deques.items ≤ vec_capacity l.jobs)
    × All (λ job. IsBeside l.board job.0 job.2) l.jobs.items
