use Rattle.told_runs.proofs.rounding.round_and_tell.Goals as goal

-- the instance as it was raised is the same
pub returns : goal.returns
returns g c = rw c.raised-instance.ensures at c.tell_rounds-told.ensures
