-- Theorems about the grammar of arguments: it is unambiguous, and its jobs are within their
-- limits.
use Rattle.std.specs.Prelude.{◌≡◌, ◌⊎◌, ℕ, ◌^◌, ◌<◌, ◌≤◌, List, None, Some, IfSome}
use Rattle.pop_stacks.specs.declared.stack_spec.StackSpec.TheVariants.{Given}
use Rattle.pop_words.specs.declared.command.Command.TheVariants.{Make}
use Rattle.pop_words.specs.declared.job.Job.{Job}
use Rattle.pop_words.specs.Options.{default_job}
use Rattle.pop_words.specs.CommandLines.{Asks, AreWords, IsBadPlace}

-- a list of arguments specifies at most one job
abbrev pub OneJob : Type 0
OneJob = (words : List (List ℕ)) (a b : Job) → Asks words a → Asks words b → a ≡ b

-- a list of arguments has at most one first invalid place
abbrev pub OneBadPlace : Type 0
OneBadPlace = (words : List (List ℕ)) (p q : ℕ) → IsBadPlace words p → IsBadPlace words q → p ≡ q

-- a list of arguments specifies a job or has an invalid place
abbrev pub JobOrBadPlace : Type 0
JobOrBadPlace = (words : List (List ℕ)) → AreWords words ⊎ ((p : ℕ) × IsBadPlace words p)

-- the height of a job is one that keyed stacks may have
abbrev pub HeightInRange : Type 0
HeightInRange = (words : List (List ℕ)) (job : Job) → Asks words job
    → (0 < job.height) × (job.height < 2 ^ 31)

-- the last height of a job is one that keyed stacks may have
abbrev pub GrowInRange : Type 0
GrowInRange = (words : List (List ℕ)) (job : Job) → Asks words job
    → IfSome job.grow (λ last. (0 < last) × (last < 2 ^ 31))

-- the number of samples of a job is from 1 to 65536
abbrev pub CountInRange : Type 0
CountInRange = (words : List (List ℕ)) (job : Job) → Asks words job
    → IfSome job.count (λ count. (0 < count) × (count ≤ 65536))

-- the number of pops of a job is at least 1, and fits 32 bits
abbrev pub PopsInRange : Type 0
PopsInRange = (words : List (List ℕ)) (job : Job) → Asks words job
    → IfSome job.pops (λ pops. (0 < pops) × (pops < 2 ^ 32))

-- if rows are given, the job has no last height and no number of samples
abbrev pub GivenAlone : Type 0
GivenAlone = (words : List (List ℕ)) (job : Job) → Asks words job
    → (rows : List (List ℕ)) → job.stacks ≡ Given rows
    → (job.grow ≡ None) × (job.count ≡ None)

-- a job with a number of pops has no other options than its stacks, their height and a root
abbrev pub PausedAlone : Type 0
PausedAlone = (words : List (List ℕ)) (job : Job) → Asks words job
    → (pops : ℕ) → job.pops ≡ Some pops
    → job ≡ record (default_job job.command) {
      stacks = job.stacks;
      height = job.height;
      pops = Some pops;
      root = job.root;
    }

-- the number of threads of a job is from 1 to 64
abbrev pub WorkersInRange : Type 0
WorkersInRange = (words : List (List ℕ)) (job : Job) → Asks words job
    → (0 < job.workers) × (job.workers ≤ 64)

-- the root of a job is at least 1, and fits 32 bits
abbrev pub RootInRange : Type 0
RootInRange = (words : List (List ℕ)) (job : Job) → Asks words job
    → (0 < job.root) × (job.root < 2 ^ 32)

-- the size of a job is one that a grid may have, and at least 1 if a grid is made
abbrev pub SizeInRange : Type 0
SizeInRange = (words : List (List ℕ)) (job : Job) → Asks words job
    → (job.size ≤ 2048) × (job.command ≡ Make → 0 < job.size)
