-- A run that may stop before its end has stacks, their height and a root from its words, and else what it has by default:
-- `--pops` excludes each other option of its commands.
use Rattle.std.proofs.Common.{inl, inr, ◌≡◌, ℕ, ◌-◌, ◌^◌, Bool, true, false, not, ◌&&◌, ◌||◌, List, [], ◌∷◌, ◌++◌, Option, None, Some, unwrap_or, option_map, refl, sym, ap, subst, ◌∙◌, arith, Contains}
use Rattle.std.specs.List.{list_all}
use Rattle.std.specs.Option.{is_some}
use Rattle.std.proofs.lemmas.Bool.{and_from, false≢true, not-true, or_cases, both_ways}
use Rattle.std.proofs.lemmas.List.Elements.{Contains-append_cases, Contains-append_right}
use Rattle.pop_model.proofs.Rising.{only_member, head_member}
use Rattle.pop_stacks.specs.declared.stack_spec.StackSpec.TheVariants.{Key as KeyedStacks, Given}
use Rattle.pop_words.specs.declared.command.Command.{Command}
use Rattle.pop_words.specs.declared.command.Command.TheVariants.{Formula, Orient, Tree, Resample, Check, Make, Rounds, Replay, Resume}
use Rattle.pop_words.specs.declared.field.Field.{Field}
use Rattle.pop_words.specs.declared.field.Field.TheVariants.{Stacks, Key, Height, Grow, Count, Pops, Workers, Board, Log, Root, Witness, Reports, Size}
use Rattle.pop_words.specs.declared.job.Job.{Job}
use Rattle.pop_words.specs.Values.{number_between, rows_in, key_in}
use Rattle.pop_words.specs.Options.{NamedOption, options, value_of, default_job}
use Rattle.pop_words.specs.CommandLines.{Choice, options_of, AreOptions, Asks, set_option, job_from}
use Rattle.pop_words.specs.Reading.{allows, excludes}
use Rattle.pop_words.specs.Laws.{PausedAlone}
use Rattle.pop_words.proofs.ListTests.{all_at}
use Rattle.pop_words.proofs.TableFacts.{allows_to}
use Rattle.pop_words.proofs.ChosenOptions.{are_listed}
use Rattle.pop_words.proofs.StandingOptions.{Stands, asked_set, asked_apart}

-- ---- what is set beside pops

-- a field that is set beside a number of pops, or by it
abbrev is_beside : Field → Bool
is_beside Stacks = true
is_beside Key = true
is_beside Height = true
is_beside Pops = true
is_beside Root = true
is_beside field = false

-- the job with what these set, set to one value
abbrev others : Job → Job
others job = record job { stacks = Given []; height = 0; pops = None; root = 0 }

-- what sets one of these sets no other part
sets_one : {X : Type 0} (put : X → Job → Job) → ((x : X) (j : Job) → others (put x j) ≡ others j) → (job : Job)
    (read : Option X) → others (unwrap_or (option_map put read) (λ j. j) job) ≡ others job
sets_one put keeps job None = refl
sets_one put keeps job (Some x) = keeps x job

-- so an option beside pops leaves the other parts
sets_beside : (field : Field) (job : Job) (word : List ℕ) → is_beside field ≡ true
    → others (unwrap_or (value_of field word) (λ j. j) job) ≡ others job
sets_beside Stacks job word is = sets_one (λ rows j. record j { stacks = Given rows }) (λ x j. refl) job (rows_in word)
sets_beside Key job word is = sets_one (λ key j. record j { stacks = KeyedStacks key }) (λ x j. refl) job (key_in word)
sets_beside Height job word is =
    sets_one (λ n j. record j { height = n }) (λ x j. refl) job (number_between 1 (2 ^ 31 - 1) word)
sets_beside Grow job word is = absurd (false≢true is)
sets_beside Count job word is = absurd (false≢true is)
sets_beside Pops job word is =
    sets_one (λ n j. record j { pops = Some n }) (λ x j. refl) job (number_between 1 (2 ^ 32 - 1) word)
sets_beside Workers job word is = absurd (false≢true is)
sets_beside Board job word is = absurd (false≢true is)
sets_beside Log job word is = absurd (false≢true is)
sets_beside Root job word is =
    sets_one (λ n j. record j { root = n }) (λ x j. refl) job (number_between 1 (2 ^ 32 - 1) word)
sets_beside Witness job word is = absurd (false≢true is)
sets_beside Reports job word is = absurd (false≢true is)
sets_beside Size job word is = absurd (false≢true is)

-- and so do options one after another
all_beside : (job : Job) (chosen : List Choice)
    → ((o : NamedOption) → Contains (options_of chosen) o → is_beside o.field ≡ true)
    → others (job_from job chosen) ≡ others job
all_beside job [] each = refl
all_beside job (p ∷ chosen) each =
    all_beside (set_option job p) chosen
    (λ o later. each o (Contains-append_right (p.0 ∷ []) (options_of chosen) o later))
    ∙ sets_beside p.0.field job p.1 (each p.0 (head_member p.0 (options_of chosen)))

-- ---- which options stand beside pops

-- an option sets a number of pops
abbrev is_of_pops : Field → Bool
is_of_pops Pops = true
is_of_pops field = false

-- an option beside one of pops, in a line of this command: it sets what is set beside pops, or doesn't stand there
abbrev stands_beside : Command → NamedOption → NamedOption → Bool
stands_beside command pops o = not (is_of_pops pops.field) || (is_beside o.field
    || (excludes pops o.name || not (allows pops command && allows o command)))

-- that is so of each two options
abbrev all_stand_beside : Command → Bool
all_stand_beside command = list_all (λ pops. list_all (stands_beside command pops) options) options

-- in the lines of each command
each_stands_beside : (command : Command) → all_stand_beside command ≡ true
each_stands_beside Formula = refl
each_stands_beside Orient = refl
each_stands_beside Tree = refl
each_stands_beside Resample = refl
each_stands_beside Check = refl
each_stands_beside Make = refl
each_stands_beside Rounds = refl
each_stands_beside Replay = refl
each_stands_beside Resume = refl

-- the command allows each option that was chosen
are_allowed : (c : Command) (before : List NamedOption) (xs : List Choice) → AreOptions c before xs
    → (o : NamedOption) → Contains (options_of xs) o → Contains o.commands c
are_allowed c before [] are o (k, within, at) = absurd (omega arith)
are_allowed c before (x ∷ xs) are o among = elim (Contains-append_cases (x.0 ∷ []) (options_of xs) o among) [
  | inl first ↦ subst (λ p. Contains p.commands c) (only_member x.0 o first) are.0.allowed
  | inr later ↦ are_allowed c (before ++ x.0 ∷ []) xs are.2 o later
]

-- so each option that was chosen sets what is set beside pops, where one sets their number
chosen_beside : (words : List (List ℕ)) (job : Job) (asks : Asks words job) → Stands Pops (options_of asks.chosen)
    → (o : NamedOption) → Contains (options_of asks.chosen) o → is_beside o.field ≡ true
chosen_beside words job asks pops o among =
    let listed = are_listed asks.command [] asks.chosen asks.options in
    let allowed = are_allowed asks.command [] asks.chosen asks.options in
    let each : list_all (stands_beside asks.command pops.0) options ≡ true =
    all_at (λ p. list_all (stands_beside asks.command p) options) options (each_stands_beside asks.command) pops.0
    (listed pops.0 pops.1) in
    let test : stands_beside asks.command pops.0 o ≡ true =
    all_at (stands_beside asks.command pops.0) options each o (listed o among) in
    elim (or_cases _ _ test) [
      | inl no_pops ↦ absurd (both_ways (is_of_pops pops.0.field) (not-true _ no_pops) (ap is_of_pops pops.2))
      | inr more ↦ elim (or_cases _ _ more) [
        | inl beside ↦ beside
        | inr apart ↦ elim (or_cases _ _ apart) [
          | inl excluded ↦ absurd (asked_apart words job asks pops.0 o pops.1 among excluded)
          | inr foreign ↦ absurd (both_ways (allows pops.0 asks.command && allows o asks.command)
              (not-true _ foreign)
              (and_from _ _ (allows_to pops.0 asks.command (allowed pops.0 pops.1))
              (allows_to o asks.command (allowed o among))))
        ]
      ]
    ]

-- ---- the job

-- a job with the stacks, the height and the root of another, which stops after so many pops
abbrev with_those : Job → ℕ → Job → Job
with_those from pops job =
    record job { stacks = from.stacks; height = from.height; pops = Some pops; root = from.root }

-- the job of so many pops
abbrev that_stops : Job → Option ℕ → Job
that_stops job pops = record job { pops = pops }

-- a run that may stop before its end is asked for with its stacks, their height and a root alone
pub paused_alone : PausedAlone
paused_alone words job asks pops stops =
    let stands = (asked_set words job asks).3 (ap is_some stops) in
    let same : others job ≡ others (default_job asks.command) =
    ap others asks.job_is
    ∙ all_beside (default_job asks.command) asks.chosen (chosen_beside words job asks stands) in
    let command : job.command ≡ asks.command = ap (λ j. j.command) same in
    ap (that_stops job) stops ∙ ap (with_those job pops) same
    ∙ ap (λ c. with_those job pops (default_job c)) (sym command)
