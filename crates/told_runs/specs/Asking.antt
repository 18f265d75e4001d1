-- What a job requests of its run.
use Rattle.std.specs.Prelude.{Bool, true, false}
use Rattle.pop_words.specs.declared.command.Command.{Command}
use Rattle.pop_words.specs.declared.command.Command.TheVariants.{Resample}
use Rattle.pop_words.specs.declared.job.Job.{Job}
use Rattle.told_runs.specs.declared.asked.Asked.{Asked}

-- the pops of a command may be made in any order
abbrev pub has_free_order : Command → Bool
has_free_order Resample = true
has_free_order command = false

-- what a job requests in addition to the end
abbrev pub asked_by : Job → Asked
asked_by job = record {
  log = job.log;
  witness = job.witness;
  reports = job.reports;
  free = has_free_order job.command;
  count = job.count;
  pops = job.pops;
}
