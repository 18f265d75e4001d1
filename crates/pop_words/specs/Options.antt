-- The commands, and the table of options. A new command or option is another row here.
use Rattle.std.specs.Prelude.{ℕ, ◌-◌, ◌^◌, Bool, true, false, List, [], ◌∷◌, replicate, Option, None, Some, option_map, codes}
use Rattle.pop_stacks.specs.declared.stack_spec.StackSpec.TheVariants.{Key as KeyedStacks, Given as GivenStacks}
use Rattle.pop_words.specs.declared.command.Command.{Command}
use Rattle.pop_words.specs.declared.command.Command.TheVariants.{Formula, Orient, Tree, Resample, Check, Make, Rounds, Replay, Resume}
use Rattle.pop_words.specs.declared.command.Input.{Input}
use Rattle.pop_words.specs.declared.command.Input.TheVariants.{Formula as OfFormula, Graph as OfGraph, Nothing as OfNothing, Certificate as OfCertificate}
use Rattle.pop_words.specs.declared.board_kind.BoardKind.TheVariants.{Words}
use Rattle.pop_words.specs.declared.field.Field.{Field}
use Rattle.pop_words.specs.declared.field.Field.TheVariants.{Stacks, Key, Height, Grow, Count, Pops, Workers, Board, Log, Root, Witness, Reports as ReportKinds, Size}
use Rattle.pop_words.specs.declared.job.Job.{Job}
use Rattle.pop_words.specs.Values.{number_between, rows_in, key_in, board_in, switch_in, pair_in, no_reports, reports_in}

-- the properties of a command
pub record NamedCommand : Type 0 where
  -- its name on the command line
  pub word : List ℕ
  -- the kind of input that it reads
  pub input : Input
  -- whether it prints its log by default
  pub log : Bool

-- every command
abbrev pub commands : List Command
commands = Formula ∷ Orient ∷ Tree ∷ Resample ∷ Check ∷ Make ∷ Rounds ∷ Replay ∷ Resume ∷ []

-- the table of commands
abbrev pub command_row : Command → NamedCommand
command_row Formula = record { word = codes "formula"; input = OfFormula; log = false }
command_row Orient = record { word = codes "orient"; input = OfGraph; log = false }
command_row Tree = record { word = codes "tree"; input = OfGraph; log = false }
command_row Resample = record { word = codes "resample"; input = OfFormula; log = true }
command_row Check = record { word = codes "check"; input = OfFormula; log = false }
command_row Make = record { word = codes "make"; input = OfNothing; log = false }
command_row Rounds = record { word = codes "rounds"; input = OfFormula; log = false }
command_row Replay = record { word = codes "replay"; input = OfCertificate; log = false }
command_row Resume = record { word = codes "resume"; input = OfCertificate; log = false }

-- the name of a command on the command line
abbrev pub command_word : Command → List ℕ
command_word command = (command_row command).word

-- the kind of input that a command reads
abbrev pub input_of : Command → Input
input_of command = (command_row command).input

-- The job of a command without options: the defaults. The key is 32 bytes 0.
abbrev pub default_job : Command → Job
default_job command =
    record {
      command = command;
      stacks = KeyedStacks (replicate 32 0);
      height = 1048576;
      grow = None;
      count = None;
      pops = None;
      workers = 1;
      board = Words;
      root = 1;
      log = (command_row command).log;
      witness = None;
      reports = no_reports;
      size = 0;
    }

-- What an argument sets in the job as the value of an option that sets this field, or None if it
-- is not a value of it.
abbrev pub value_of : Field → List ℕ → Option (Job → Job)
value_of Stacks word =
    option_map (λ rows job. record job { stacks = GivenStacks rows }) (rows_in word)
value_of Key word = option_map (λ key job. record job { stacks = KeyedStacks key }) (key_in word)
value_of Height word =
    option_map (λ n job. record job { height = n }) (number_between 1 (2 ^ 31 - 1) word)
value_of Grow word =
    option_map (λ n job. record job { grow = Some n }) (number_between 1 (2 ^ 31 - 1) word)
value_of Count word =
    option_map (λ n job. record job { count = Some n }) (number_between 1 65536 word)
value_of Pops word =
    option_map (λ n job. record job { pops = Some n }) (number_between 1 (2 ^ 32 - 1) word)
value_of Workers word = option_map (λ n job. record job { workers = n }) (number_between 1 64 word)
value_of Board word = option_map (λ board job. record job { board = board }) (board_in word)
value_of Log word = option_map (λ log job. record job { log = log }) (switch_in word)
value_of Root word =
    option_map (λ n job. record job { root = n }) (number_between 1 (2 ^ 32 - 1) word)
value_of Witness word = option_map (λ pair job. record job { witness = Some pair }) (pair_in word)
value_of ReportKinds word =
    option_map (λ kinds job. record job { reports = kinds }) (reports_in word)
value_of Size word = option_map (λ n job. record job { size = n }) (number_between 1 2048 word)

-- the properties of an option
pub record NamedOption : Type 0 where
  -- its name on the command line
  pub name : List ℕ
  -- the field of the job that it sets, which determines the grammar of its value
  pub field : Field
  -- the commands that allow it
  pub commands : List Command
  -- the names of the options that conflict with it
  pub excludes : List (List ℕ)
  -- whether every command that allows it requires it
  pub needed : Bool

-- the commands that sample
abbrev pub sampling : List Command
sampling = Formula ∷ Orient ∷ Tree ∷ Resample ∷ Make ∷ Rounds ∷ []

-- the commands that pop one event after another: those that sample, except `rounds`
abbrev pub popping : List Command
popping = Formula ∷ Orient ∷ Tree ∷ Resample ∷ Make ∷ []

-- the commands with pops that several threads may share: those above, and `resume`, which
-- continues their runs
abbrev pub shared : List Command
shared = Formula ∷ Orient ∷ Tree ∷ Resample ∷ Make ∷ Resume ∷ []

-- the commands with runs that may be stopped before their end
abbrev pub paused : List Command
paused = Formula ∷ Orient ∷ Tree ∷ Resample ∷ []

-- the commands that may draw a batch of samples
abbrev pub batched : List Command
batched = Formula ∷ Orient ∷ Tree ∷ []

-- the commands that pop and do not print a log by default
abbrev pub quiet : List Command
quiet = Formula ∷ Orient ∷ Tree ∷ Make ∷ []

-- the names of the options that say how one run is made to its end, and what is printed of it
abbrev pub of_one_run : List (List ℕ)
of_one_run =
    codes "--workers" ∷ codes "--board" ∷ codes "--log" ∷ codes "--witness" ∷ codes "--report"
    ∷ codes "--grow" ∷ []

-- an option of these commands that conflicts with none and is not required
abbrev pub free_option : List ℕ → Field → List Command → NamedOption
free_option name field commands =
    record { name = name; field = field; commands = commands; excludes = []; needed = false }

-- the table of options
abbrev pub options : List NamedOption
options =
    record {
      name = codes "--stacks";
      field = Stacks;
      commands = sampling;
      excludes = codes "--key" ∷ codes "--height" ∷ codes "--grow" ∷ [];
      needed = false;
    }
    ∷ free_option (codes "--key") Key sampling
    ∷ free_option (codes "--height") Height sampling
    ∷ free_option (codes "--grow") Grow popping
    ∷ record {
      name = codes "--count";
      field = Count;
      commands = batched;
      excludes = codes "--stacks" ∷ of_one_run;
      needed = false;
    }
    ∷ record {
      name = codes "--pops";
      field = Pops;
      commands = paused;
      excludes = codes "--count" ∷ of_one_run;
      needed = false;
    }
    ∷ free_option (codes "--workers") Workers shared
    ∷ free_option (codes "--board") Board shared
    ∷ free_option (codes "--log") Log quiet
    ∷ free_option (codes "--root") Root (Tree ∷ [])
    ∷ free_option (codes "--witness") Witness popping
    ∷ free_option (codes "--report") ReportKinds popping
    ∷ record {
      name = codes "grid";
      field = Size;
      commands = Make ∷ [];
      excludes = [];
      needed = true;
    }
    ∷ []
