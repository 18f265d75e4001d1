use Rattle.pop_model.specs.Families.{units_of}
use Rattle.pop_workers.proofs.makers.Makers.work_on.Given as goal

-- the hints are units of the instance
abbrev pub ghosts-work_by : goal.ghosts-work_by
ghosts-work_by g a = record { units = units_of a.instance.now.family }
