use Rattle.told_runs.proofs.running.tell_sampled.Goals as goal

-- the watchers receive nothing
pub returns-then-are_told_in_full-clause-ended : goal.returns-then-are_told_in_full-clause-ended
returns-then-are_told_in_full-clause-ended g c = c.tell_sample-told.ensures.ended _

pub returns-then-are_told_in_full-clause-history : goal.returns-then-are_told_in_full-clause-history
returns-then-are_told_in_full-clause-history g c = c.tell_sample-told.ensures.history _
