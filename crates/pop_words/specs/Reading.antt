-- The reading of arguments, once and from left to right, as a function on lists. For every list it
-- gives the job that the arguments specify, or the place of the first invalid argument
-- (proofs/ReadingLemmas.antt).
use Rattle.std.specs.Prelude.{◌≡◌, ℕ, ◌+◌, Bool, not, ◌&&◌, ◌||◌, List, [], ◌∷◌, ◌++◌, drop, map, Option, None, Some, Result, Ok, Err, ⊤, if◌then◌else◌}
use Rattle.std.specs.List.{list_all, list_any, find}
use Rattle.std.specs.Str.{bytes_eq}
use Rattle.pop_words.specs.declared.command.Command.{Command}
use Rattle.pop_words.specs.declared.option.OptionRow.{OptionRow}
use Rattle.pop_words.specs.declared.job.Job.{Job}
use Rattle.pop_words.specs.declared.fault.WordFault.{WordFault}
use Rattle.pop_words.specs.declared.fault.WordFault.TheVariants.{Usage, OutOfMemory}
use Rattle.pop_words.specs.Values.{only_if}
use Rattle.pop_words.specs.Options.{commands, command_word, NamedOption, options, value_of, default_job}

-- the command with this name
abbrev pub command_named : List ℕ → Option Command
command_named word = find (λ command. bytes_eq (command_word command) word) commands

-- the option with this name
abbrev pub option_named : List ℕ → Option NamedOption
option_named word = find (λ option. bytes_eq option.name word) options

-- a row of the code's table, as contracts see it
abbrev pub seen : OptionRow → NamedOption
seen row =
    record {
      name = row.name.now;
      field = row.field;
      commands = row.commands.now;
      excludes = map (λ name. name.now) row.excludes.now;
      needed = row.needed;
    }

-- whether two options have the same name
abbrev pub same_name : NamedOption → NamedOption → Bool
same_name a b = bytes_eq a.name b.name

-- whether two commands have the same name
abbrev pub same_word : Command → Command → Bool
same_word a b = bytes_eq (command_word a) (command_word b)

-- whether a command allows an option
abbrev pub allows : NamedOption → Command → Bool
allows option command = list_any (same_word command) option.commands

-- whether an option conflicts with a name
abbrev pub excludes : NamedOption → List ℕ → Bool
excludes option name = list_any (bytes_eq name) option.excludes

-- whether two options can be combined in one command line
abbrev pub compatible : NamedOption → NamedOption → Bool
compatible a b = not (same_name a b) && not (excludes a b.name) && not (excludes b a.name)

-- whether the option is allowed after these
abbrev pub may_follow : Command → List NamedOption → NamedOption → Bool
may_follow command before option =
    allows option command && list_all (λ other. compatible other option) before

-- whether an option is given, if it is required
abbrev pub stands_if_needed : Command → List NamedOption → NamedOption → Bool
stands_if_needed command chosen option =
    not (allows option command && option.needed) || list_any (same_name option) chosen

-- whether no required option is missing
abbrev pub is_complete : Command → List NamedOption → Bool
is_complete command chosen = list_all (stands_if_needed command chosen) options

-- the option with this name, if it is allowed after these
abbrev pub option_next : Command → List NamedOption → List ℕ → Option NamedOption
option_next command before name = only_if (may_follow command before) (option_named name)

-- reads on with what was found; if nothing was found, the place is invalid
abbrev pub read_on : {X : Type 0} → ℕ → Option X → (X → Result Job ℕ) → Result Job ℕ
read_on place None next = Err place
read_on place (Some x) next = next x

-- what is read after this many arguments, with these options and this job so far
abbrev pub read_from : Command → List NamedOption → Job → ℕ → List (List ℕ) → Result Job ℕ
read_from command before job place [] =
    if is_complete command before then Ok job else Err (place + 1)
read_from command before job place (name ∷ []) =
    read_on (place + 1) (option_next command before name) (λ option. Err (place + 2))
read_from command before job place (name ∷ word ∷ rest) =
    read_on (place + 1) (option_next command before name)
    (λ option. read_on (place + 2) (value_of option.field word)
    (λ set. read_from command (before ++ option ∷ []) (set job) (place + 2) rest))

-- what is read after the command
abbrev pub behind : Command → List (List ℕ) → Result Job ℕ
behind command words = read_from command [] (default_job command) 1 (drop 1 words)

-- the job that the arguments specify, or the place of the first invalid argument
abbrev pub reading : List (List ℕ) → Result Job ℕ
reading [] = Err 1
reading (word ∷ rest) =
    read_on 1 (command_named word) (λ command. read_from command [] (default_job command) 1 rest)

-- the fault is the expected one, or memory ran out
abbrev pub IsFault : Result Job ℕ → WordFault → Type 0
IsFault wanted (Usage place) = wanted ≡ Err place
IsFault wanted OutOfMemory = ⊤

-- the result is the expected one, or memory ran out
abbrev pub IsRead : Result Job ℕ → Result Job WordFault → Type 0
IsRead wanted (Ok job) = wanted ≡ Ok job
IsRead wanted (Err fault) = IsFault wanted fault
