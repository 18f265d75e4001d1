-- Each number of a job that is asked for is in its range: it is so in the job of a command with no option, and each value
-- keeps it so. Where a grid is made its size is from 1 on, since `grid` is needed there.
use Rattle.std.proofs.Common.{refl, codes, true, ◌-◌, ◌^◌, ◌&&◌, nat_le, Option, None, Some, option_map, unwrap_or, IsSome, IfSome, Contains, lit<, inl, inr, ◌≡◌, ℕ, ◌<◌, ◌≤◌, List, [], ◌∷◌, ◌++◌, sym, ap, subst, ◌∙◌, arith}
use Rattle.std.proofs.lemmas.List.Elements.{Contains-append_cases}
use Rattle.std.proofs.lemmas.Bool.{and_parts, leb-true}
use Rattle.pop_model.proofs.Rising.{only_member, head_member}
use Rattle.pop_words.specs.declared.command.Command.{Command}
use Rattle.pop_words.specs.declared.command.Command.TheVariants.{Make}
use Rattle.pop_words.specs.declared.job.Job.{Job}
use Rattle.pop_edge.specs.Numbers.{number_of}
use Rattle.pop_words.specs.declared.field.Field.{Field}
use Rattle.pop_words.specs.declared.field.Field.TheVariants.{Stacks, Key, Height, Grow, Count, Pops, Workers, Board, Log, Root, Witness, Reports, Size}
use Rattle.pop_words.specs.Values.{number_between, rows_in, key_in, board_in, switch_in, pair_in, reports_in}
use Rattle.pop_words.specs.Options.{default_job, NamedOption, options, value_of}
use Rattle.pop_words.proofs.ValuesLemmas.{passed}
use Rattle.pop_words.specs.CommandLines.{Choice, options_of, AreOptions, Asks, job_from, set_option}

-- what a job has only where an option asks for it: a last height may be that of keyed stacks, samples are not too many, and
-- a run stops no sooner than behind one pop
abbrev pub MayBeAsked : Job → Type 0
MayBeAsked job =
    IfSome job.grow (λ last. (0 < last) × (last < 2 ^ 31)) × IfSome job.count (λ count. (0 < count) × (count ≤ 65536))
    × IfSome job.pops (λ pops. (0 < pops) × (pops < 2 ^ 32))

-- The job is of the command. Its height may be that of keyed stacks, its workers are few, its root may be that of a
-- tree, its size is from the least on, and one that a grid may have, and what only options ask for is in range.
abbrev pub IsInRange : Command → ℕ → Job → Type 0
IsInRange command least job =
    (job.command ≡ command) × ((0 < job.height) × (job.height < 2 ^ 31)) × ((0 < job.workers) × (job.workers ≤ 64))
    × ((0 < job.root) × (job.root < 2 ^ 32)) × ((least ≤ job.size) × (job.size ≤ 2048))
    × MayBeAsked job

-- a number between bounds is between them
between : (low high n : ℕ) (word : List ℕ) → number_between low high word ≡ Some n → (low ≤ n) × (n ≤ high)
between low high n word read =
    let test = (passed (λ m. nat_le low m && nat_le m high) (number_of word) n read).1 in
    let tests = and_parts (nat_le low n) (nat_le n high) test in
    (leb-true low n tests.0, leb-true n high tests.1)

-- what is so with each value that may be read is so with the one that was
pub of_map : {X : Type 0} (Is : Job → Type 0) (job : Job) (set : Job → Job) (put : X → Job → Job) (read : Option X)
    → ((x : X) → read ≡ Some x → Is (put x job)) → option_map put read ≡ Some set → Is (set job)
of_map Is job set put None each some = absurd (cc)
of_map Is job set put (Some x) each some = let same : put x ≡ set = cc in subst (λ f. Is (f job)) same (each x refl)

-- a value leaves the command, and the numbers in range
keeps_range : (command : Command) (least : ℕ) → least ≤ 1
    → (f : Field) (word : List ℕ) (job : Job) (set : Job → Job) → value_of f word ≡ Some set
    → IsInRange command least job → IsInRange command least (set job)
keeps_range command least low f word job set value is = by_field f value
  where
    by_field : (g : Field) → value_of g word ≡ Some set → IsInRange command least (set job)
    by_field Stacks some = of_map (IsInRange command least) job set _ (rows_in word) (λ rows read. is) some
    by_field Key some = of_map (IsInRange command least) job set _ (key_in word) (λ key read. is) some
    by_field Height some = of_map (IsInRange command least) job set _ (number_between 1 (2 ^ 31 - 1) word)
        (λ n read. let bounds = between 1 (2 ^ 31 - 1) n word read in
        (is.0, (omega arith, omega arith), is.2, is.3, is.4, is.5)) some
    by_field Grow some = of_map (IsInRange command least) job set _ (number_between 1 (2 ^ 31 - 1) word)
        (λ n read. let bounds = between 1 (2 ^ 31 - 1) n word read in
        (is.0, is.1, is.2, is.3, is.4, ((omega arith, omega arith), is.5.1, is.5.2))) some
    by_field Count some = of_map (IsInRange command least) job set _ (number_between 1 65536 word)
        (λ n read. let bounds = between 1 65536 n word read in
        (is.0, is.1, is.2, is.3, is.4, (is.5.0, (omega arith, omega arith), is.5.2))) some
    by_field Pops some = of_map (IsInRange command least) job set _ (number_between 1 (2 ^ 32 - 1) word)
        (λ n read. let bounds = between 1 (2 ^ 32 - 1) n word read in
        (is.0, is.1, is.2, is.3, is.4, (is.5.0, is.5.1, (omega arith, omega arith)))) some
    by_field Workers some = of_map (IsInRange command least) job set _ (number_between 1 64 word)
        (λ n read. let bounds = between 1 64 n word read in
        (is.0, is.1, (omega arith, omega arith), is.3, is.4, is.5)) some
    by_field Board some = of_map (IsInRange command least) job set _ (board_in word) (λ board read. is) some
    by_field Log some = of_map (IsInRange command least) job set _ (switch_in word) (λ log read. is) some
    by_field Root some = of_map (IsInRange command least) job set _ (number_between 1 (2 ^ 32 - 1) word)
        (λ n read. let bounds = between 1 (2 ^ 32 - 1) n word read in
        (is.0, is.1, is.2, (omega arith, omega arith), is.4, is.5)) some
    by_field Witness some = of_map (IsInRange command least) job set _ (pair_in word) (λ pair read. is) some
    by_field Reports some = of_map (IsInRange command least) job set _ (reports_in word) (λ kinds read. is) some
    by_field Size some = of_map (IsInRange command least) job set _ (number_between 1 2048 word)
        (λ n read. let bounds = between 1 2048 n word read in
        (is.0, is.1, is.2, is.3, (omega arith, bounds.1), is.5)) some

-- so does a choice
choice_range : (command : Command) (least : ℕ) → least ≤ 1 → (job : Job) (p : Choice) → IsInRange command least job
    → IsInRange command least (set_option job p)
choice_range command least low job p is = by_value (value_of p.0.field p.1) refl
  where
    by_value : (value : Option (Job → Job)) → value_of p.0.field p.1 ≡ value
        → IsInRange command least (unwrap_or value (λ j. j) job)
    by_value None none = is
    by_value (Some set) some = keeps_range command least low p.0.field p.1 job set some is

-- so do choices one after another
choices_range : (command : Command) (least : ℕ) → least ≤ 1 → (job : Job) (chosen : List Choice)
    → IsInRange command least job → IsInRange command least (job_from job chosen)
choices_range command least low job [] is = is
choices_range command least low job (p ∷ chosen) is =
    choices_range command least low (set_option job p) chosen (choice_range command least low job p is)

-- a size that is set is from 1 on
sets_size : (command : Command) (job : Job) (word : List ℕ) → IsSome (value_of Size word)
    → IsInRange command 0 job → IsInRange command 1 (unwrap_or (value_of Size word) (λ j. j) job)
sets_size command job word value is = by_number (number_between 1 2048 word) refl value
  where
    put : ℕ → Job → Job
    put n j = record j { size = n }

    by_number : (read : Option ℕ) → number_between 1 2048 word ≡ read → IsSome (option_map put read)
        → IsInRange command 1 (unwrap_or (option_map put read) (λ j. j) job)
    by_number None none some = absurd (cc)
    by_number (Some n) read some = (is.0, is.1, is.2, is.3, between 1 2048 n word read, is.5)

-- the option that sets the size
abbrev grid : NamedOption
grid = record { name = codes "grid"; field = Size; commands = Make ∷ []; excludes = []; needed = true }

-- it is in the table
grid_listed : Contains options grid
grid_listed = (12, omega arith, refl)

-- where `grid` is among the choices, the size is from 1 on
choices_size : (command : Command) (before : List NamedOption) (job : Job) (chosen : List Choice)
    → AreOptions command before chosen → Contains (options_of chosen) grid → IsInRange command 0 job
    → IsInRange command 1 (job_from job chosen)
choices_size command before job [] are (k, within, at) is = absurd (omega arith)
choices_size command before job (p ∷ chosen) are among is =
    elim (Contains-append_cases (p.0 ∷ []) (options_of chosen) grid among) [
      | inl first ↦
          let sets : p.0.field ≡ Size = ap (λ o. o.field) (only_member p.0 grid first) in
          choices_range command 1 (omega arith) (set_option job p) chosen
          (subst (λ f. IsSome (value_of f p.1) → IsInRange command 1 (unwrap_or (value_of f p.1) (λ j. j) job))
          (sym sets) (λ value. sets_size command job p.1 value is) are.1)
      | inr later ↦ choices_size command (before ++ p.0 ∷ []) (set_option job p) chosen are.2 later
          (choice_range command 0 (omega arith) job p is)
    ]

-- with no option the numbers are in range
default_range : (command : Command) → IsInRange command 0 (default_job command)
default_range command =
    (refl, (lit< tt, lit< tt), (lit< tt, lit< tt), (lit< tt, lit< tt), (omega arith, omega arith), (tt, tt, tt))

-- a job that is asked for has its numbers in range
asked_range : (words : List (List ℕ)) (job : Job) (asks : Asks words job) → IsInRange asks.command 0 job
asked_range words job asks = subst (IsInRange asks.command 0) (sym asks.job_is)
    (choices_range asks.command 0 (omega arith) (default_job asks.command) asks.chosen (default_range asks.command))

-- it has a height that keyed stacks may have
pub asked_height : (words : List (List ℕ)) (job : Job) → Asks words job → (0 < job.height) × (job.height < 2 ^ 31)
asked_height words job asks = (asked_range words job asks).1

-- a last height, if it has one, that keyed stacks may have
pub asked_grow : (words : List (List ℕ)) (job : Job) → Asks words job
    → IfSome job.grow (λ last. (0 < last) × (last < 2 ^ 31))
asked_grow words job asks = (asked_range words job asks).5.0

-- samples that aren't too many, if it asks for many
pub asked_count : (words : List (List ℕ)) (job : Job) → Asks words job
    → IfSome job.count (λ count. (0 < count) × (count ≤ 65536))
asked_count words job asks = (asked_range words job asks).5.1

-- a number of pops from 1 on that fits 32 bits, if its run may stop before its end
pub asked_pops : (words : List (List ℕ)) (job : Job) → Asks words job
    → IfSome job.pops (λ pops. (0 < pops) × (pops < 2 ^ 32))
asked_pops words job asks = (asked_range words job asks).5.2

-- from 1 to 64 workers
pub asked_workers : (words : List (List ℕ)) (job : Job) → Asks words job → (0 < job.workers) × (job.workers ≤ 64)
asked_workers words job asks = (asked_range words job asks).2

-- a root from 1 on
pub asked_root : (words : List (List ℕ)) (job : Job) → Asks words job → (0 < job.root) × (job.root < 2 ^ 32)
asked_root words job asks = (asked_range words job asks).3

-- where a grid is made its size is from 1 on, since `grid` is needed there
made_size : (words : List (List ℕ)) (job : Job) → Asks words job → job.command ≡ Make → 0 < job.size
made_size words job asks made =
    let command : asks.command ≡ Make = sym (asked_range words job asks).0 ∙ made in
    let allowed : Contains grid.commands asks.command =
    subst (Contains grid.commands) (sym command) (head_member Make []) in
    let stands = asks.complete grid grid_listed allowed refl in
    let is = subst (IsInRange asks.command 1) (sym asks.job_is)
    (choices_size asks.command [] (default_job asks.command) asks.chosen asks.options stands
    (default_range asks.command)) in
    is.4.0

-- and a size that a grid may have, from 1 on where a grid is made
pub asked_size : (words : List (List ℕ)) (job : Job) → Asks words job
    → (job.size ≤ 2048) × (job.command ≡ Make → 0 < job.size)
asked_size words job asks = ((asked_range words job asks).4.1, made_size words job asks)
