-- The command lines: the lists of arguments in the grammar, and the job that each specifies.
use Rattle.std.specs.Prelude.{◌≡◌, ◌≢◌, ℕ, true, List, [], ◌∷◌, ◌++◌, map, flat_map, Contains, IsSome, unwrap_or, ⊤}
use Rattle.pop_model.specs.Languages.{IsFirstBad}
use Rattle.pop_words.specs.declared.command.Command.{Command}
use Rattle.pop_words.specs.declared.job.Job.{Job}
use Rattle.pop_words.specs.declared.fault.WordFault.{WordFault}
use Rattle.pop_words.specs.declared.fault.WordFault.TheVariants.{Usage, OutOfMemory}
use Rattle.pop_words.specs.Options.{command_word, NamedOption, options, value_of, default_job}

-- an option with the argument that is its value
abbrev pub Choice : Type 0
Choice = NamedOption × List ℕ

-- the options without their values
abbrev pub options_of : List Choice → List NamedOption
options_of chosen = map (λ p. p.0) chosen

-- the arguments of these options: the name of each, followed by its value
abbrev pub words_of : List Choice → List (List ℕ)
words_of chosen = flat_map (λ p. p.0.name ∷ p.1 ∷ []) chosen

-- two options can be combined in one command line
pub record AreCompatible (a b : NamedOption) : Type 0 where
  pub different : a.name ≢ b.name
  pub keeps : Contains a.excludes b.name → ⊥
  pub kept_by : Contains b.excludes a.name → ⊥

-- it is an option of the table, and is allowed after these
pub record MayFollow (command : Command) (before : List NamedOption) (option : NamedOption)
    : Type 0 where
  pub listed : Contains options option
  pub allowed : Contains option.commands command
  pub compatible : (other : NamedOption) → Contains before other → AreCompatible other option

-- each option is allowed after those before it, and its argument is a value of it
abbrev pub AreOptions : Command → List NamedOption → List Choice → Type 0
AreOptions command before [] = ⊤
AreOptions command before (p ∷ chosen) =
    MayFollow command before p.0
    × IsSome (value_of p.0.field p.1)
    × AreOptions command (before ++ p.0 ∷ []) chosen

-- no required option is missing
abbrev pub AreComplete : Command → List NamedOption → Type 0
AreComplete command chosen =
    (option : NamedOption) → Contains options option → Contains option.commands command
    → option.needed ≡ true → Contains chosen option

-- the job with an option set
abbrev pub set_option : Job → Choice → Job
set_option job p = unwrap_or (value_of p.0.field p.1) (λ j. j) job

-- the job with options set, one after another
abbrev pub job_from : Job → List Choice → Job
job_from job [] = job
job_from job (p ∷ chosen) = job_from (set_option job p) chosen

-- the arguments are a command line, which specifies this job
pub record Asks (words : List (List ℕ)) (job : Job) : Type 0 where
  pub command : Command
  pub chosen : List Choice
  pub words_are : words ≡ command_word command ∷ words_of chosen
  pub options : AreOptions command [] chosen
  pub complete : AreComplete command (options_of chosen)
  pub job_is : job ≡ job_from (default_job command) chosen

-- the arguments are a command line
abbrev pub AreWords : List (List ℕ) → Type 0
AreWords words = (job : Job) × Asks words job

-- The first invalid argument, from 1: the smallest n such that no command line begins with the
-- first n arguments. If arguments are missing at the end, it is their number plus 1.
abbrev pub IsBadPlace : List (List ℕ) → ℕ → Type 0
IsBadPlace words place = IsFirstBad AreWords words place

-- why arguments are rejected: the place of the first invalid argument; memory may run out at any
-- place
abbrev pub IsWordFault : List (List ℕ) → WordFault → Type 0
IsWordFault words (Usage place) = IsBadPlace words place
IsWordFault words OutOfMemory = ⊤
