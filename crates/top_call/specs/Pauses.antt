-- Runs that stop after a number of pops.
use Rattle.std.specs.Prelude.{◌≡◌, ℕ, List, [], length, Contains, None, Some}
use Rattle.pop_model.specs.Instances.{Instance}
use Rattle.pop_model.specs.Logs.{IsLegal, replay}
use Rattle.pop_model.specs.Runs.{start_of}
use Rattle.pop_log.specs.Layers.{Placed}
use Rattle.pop_log.specs.Layered.{AreInLayers}
use Rattle.pop_words.specs.declared.job.Job.{Job}
use Rattle.pop_words.specs.Options.{paused}
use Rattle.pop_print.specs.declared.facts.Facts.{Facts}
use Rattle.run_cert.specs.Looks.{HasPoppable}
use Rattle.told_runs.specs.Tellings.{records_of}
use Rattle.told_runs.specs.Outcomes.{Outcome}
use Rattle.told_runs.specs.Outcomes.Outcome.{Paused}

-- a legal log of exactly this many pops, in layered order, with an event that is poppable after it
pub record IsPause (i : Instance) (pops : ℕ) (placed : List Placed) : Type 0 where
  pub legal : IsLegal i (start_of i) (records_of placed)
  pub layered : AreInLayers [] placed
  pub count : length placed ≡ pops
  pub poppable : HasPoppable i (replay (start_of i) (records_of placed))

-- the outcome is a pause of the run of a job and its input
abbrev pub IsPausedAt : Job → List ℕ → Facts → Instance → ℕ → Outcome → Type 0
IsPausedAt job input facts i pops (Paused told read also j placed) =
    (told ≡ job) × (read ≡ input) × (also ≡ facts) × (j ≡ i) × IsPause i pops placed
IsPausedAt job input facts i pops o = ⊥

-- The job's run may stop before its end. The command has such runs, and requests neither a number
-- of samples nor stacks that grow.
pub record MayStop (job : Job) : Type 0 where
  pub command : Contains paused job.command
  pub once : job.count ≡ None
  pub level : job.grow ≡ None

-- the job's run may stop, and the outcome says that it stopped after as many pops as the job says
pub record Pauses (job : Job) (input : List ℕ) (facts : Facts) (i : Instance) (o : Outcome)
    : Type 0 where
  pub may : MayStop job
  pub pops : ℕ
  pub asked : job.pops ≡ Some pops
  pub at : IsPausedAt job input facts i pops o
