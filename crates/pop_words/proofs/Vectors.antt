-- Worked values of the grammar, so that a wrong row of the table doesn't check.
use Rattle.std.proofs.Common.{◌≡◌, ℕ, true, false, List, [], ◌∷◌, None, Some, codes, replicate, refl}
use Rattle.hex.proofs.OnLiterals.{hex_on_literals}
use Rattle.pop_stacks.specs.declared.stack_spec.StackSpec.TheVariants.{Given, Key}
use Rattle.pop_words.specs.declared.board_kind.BoardKind.TheVariants.{Lock, Words}
use Rattle.pop_words.specs.declared.command.Command.{Command}
use Rattle.pop_words.specs.declared.command.Command.TheVariants.{Formula, Orient, Tree, Resample, Check, Make, Rounds, Replay, Resume}
use Rattle.pop_words.specs.declared.job.Job.{Job}
use Rattle.pop_words.specs.Options.{default_job}
use Rattle.pop_words.specs.CommandLines.{Asks, IsBadPlace}
use Rattle.pop_words.proofs.ReadingLemmas.{reading_is}

-- ---- jobs

-- the zeros of the default key
abbrev zeros : List ℕ
zeros = codes "0000000000000000000000000000000000000000000000000000000000000000"

-- the job of a command that tells no log, with no option
abbrev plain : Command → Job
plain command = record (default_job command) { log = false }

-- where no option says otherwise, 2^20 entries a stack come from a key of zeros, and one worker pops on claim words
default_numbers : (c : Command) → ((plain c).stacks ≡ Key (replicate 32 0)) × ((plain c).height ≡ 1048576)
    × ((plain c).workers ≡ 1) × ((plain c).board ≡ Words) × ((plain c).root ≡ 1) × ((plain c).size ≡ 0)
default_numbers c = (refl, refl, refl, refl, refl, refl)

-- and nothing is asked for beside one sample
default_requests : (c : Command) → ((plain c).command ≡ c) × ((plain c).grow ≡ None) × ((plain c).count ≡ None)
    × ((plain c).pops ≡ None) × ((plain c).witness ≡ None)
    × ((plain c).reports ≡ record { totals = false; heights = false; layers = false })
default_requests c = (refl, refl, refl, refl, refl, refl)

-- `formula` alone is a job with no option
formula_alone : Asks (codes "formula" ∷ []) (plain Formula)
formula_alone = reading_is (codes "formula" ∷ [])

-- `check` alone is a job with no option
check_alone : Asks (codes "check" ∷ []) (plain Check)
check_alone = reading_is (codes "check" ∷ [])

-- `orient` alone is a job with no option
orient_alone : Asks (codes "orient" ∷ []) (plain Orient)
orient_alone = reading_is (codes "orient" ∷ [])

-- `tree` alone is a job with no option
tree_alone : Asks (codes "tree" ∷ []) (plain Tree)
tree_alone = reading_is (codes "tree" ∷ [])

-- `resample` alone is a job with no option, which tells its log
resample_alone : Asks (codes "resample" ∷ []) (record (plain Resample) { log = true })
resample_alone = reading_is (codes "resample" ∷ [])

-- `rounds` alone is a job with no option, which tells no log
rounds_alone : Asks (codes "rounds" ∷ []) (plain Rounds)
rounds_alone = reading_is (codes "rounds" ∷ [])

-- `replay` alone is a job with no option
replay_alone : Asks (codes "replay" ∷ []) (plain Replay)
replay_alone = reading_is (codes "replay" ∷ [])

-- workers may share the pops of a run that goes on, on the board of a lock
workers_of_resume : Asks (codes "resume" ∷ codes "--workers" ∷ codes "2" ∷ codes "--board" ∷ codes "lock" ∷ [])
    (record (plain Resume) { workers = 2; board = Lock })
workers_of_resume =
    reading_is (codes "resume" ∷ codes "--workers" ∷ codes "2" ∷ codes "--board" ∷ codes "lock" ∷ [])

-- a run on given rows may stop after a pop
pops_of_rows : Asks (codes "formula" ∷ codes "--stacks" ∷ codes "0,0,1" ∷ codes "--pops" ∷ codes "1" ∷ [])
    (record (plain Formula) { stacks = Given ((0 ∷ 0 ∷ 1 ∷ []) ∷ []); pops = Some 1 })
pops_of_rows = reading_is (codes "formula" ∷ codes "--stacks" ∷ codes "0,0,1" ∷ codes "--pops" ∷ codes "1" ∷ [])

-- a resampling that may stop tells its log where it doesn't
pops_of_resample : Asks (codes "resample" ∷ codes "--pops" ∷ codes "4294967295" ∷ [])
    (record (plain Resample) { pops = Some 4294967295; log = true })
pops_of_resample = reading_is (codes "resample" ∷ codes "--pops" ∷ codes "4294967295" ∷ [])

-- options stand in any order, and their numbers may begin with zeros
height_behind_root : Asks (codes "tree" ∷ codes "--root" ∷ codes "03" ∷ codes "--height" ∷ codes "9" ∷ [])
    (record (plain Tree) { height = 9; root = 3 })
height_behind_root = reading_is (codes "tree" ∷ codes "--root" ∷ codes "03" ∷ codes "--height" ∷ codes "9" ∷ [])

-- a formula may be sampled from given rows
rows_for_a_formula : Asks (codes "formula" ∷ codes "--stacks" ∷ codes "0,0,1" ∷ [])
    (record (plain Formula) { stacks = Given ((0 ∷ 0 ∷ 1 ∷ []) ∷ []) })
rows_for_a_formula = reading_is (codes "formula" ∷ codes "--stacks" ∷ codes "0,0,1" ∷ [])

-- keyed stacks may grow, whatever their first height
grow_behind_height : Asks (codes "orient" ∷ codes "--height" ∷ codes "5" ∷ codes "--grow" ∷ codes "2147483647" ∷ [])
    (record (plain Orient) { height = 5; grow = Some 2147483647 })
grow_behind_height = reading_is (codes "orient" ∷ codes "--height" ∷ codes "5" ∷ codes "--grow"
    ∷ codes "2147483647" ∷ [])

-- a batch of trees has a root
count_behind_root : Asks (codes "tree" ∷ codes "--root" ∷ codes "3" ∷ codes "--count" ∷ codes "65536" ∷ [])
    (record (plain Tree) { root = 3; count = Some 65536 })
count_behind_root = reading_is (codes "tree" ∷ codes "--root" ∷ codes "3" ∷ codes "--count" ∷ codes "65536" ∷ [])

-- a key that is given stands in the place of the default one
key_behind_height : Asks (codes "formula" ∷ codes "--height" ∷ codes "9" ∷ codes "--key" ∷ zeros ∷ [])
    (record (plain Formula) { height = 9 })
unfolding hex_on_literals
key_behind_height = reading_is (codes "formula" ∷ codes "--height" ∷ codes "9" ∷ codes "--key" ∷ zeros ∷ [])

-- one worker may pop on a board under a lock
lock_of_one_worker : Asks (codes "orient" ∷ codes "--board" ∷ codes "lock" ∷ []) (record (plain Orient) { board = Lock })
lock_of_one_worker = reading_is (codes "orient" ∷ codes "--board" ∷ codes "lock" ∷ [])

-- the board of the claim words is the default one
words_by_name : Asks (codes "tree" ∷ codes "--board" ∷ codes "words" ∷ codes "--workers" ∷ codes "2" ∷ [])
    (record (plain Tree) { workers = 2 })
words_by_name = reading_is (codes "tree" ∷ codes "--board" ∷ codes "words" ∷ codes "--workers" ∷ codes "2" ∷ [])

-- a resampling may tell both reports, however they are ordered
both_reports : Asks (codes "resample" ∷ codes "--report" ∷ codes "heights,totals" ∷ [])
    (record (plain Resample) { log = true; reports = record { totals = true; heights = true; layers = false } })
both_reports = reading_is (codes "resample" ∷ codes "--report" ∷ codes "heights,totals" ∷ [])

-- a formula may tell its log, a witness and reports
all_told : Asks (codes "formula" ∷ codes "--log" ∷ codes "on" ∷ codes "--witness" ∷ codes "1,5" ∷ codes "--report"
    ∷ codes "layers" ∷ []) (record (plain Formula) {
      log = true;
      witness = Some (1, 5);
      reports = record { totals = false; heights = false; layers = true };
    })
all_told = reading_is (codes "formula" ∷ codes "--log" ∷ codes "on" ∷ codes "--witness" ∷ codes "1,5"
    ∷ codes "--report" ∷ codes "layers" ∷ [])

-- a tree whose log is off is a tree
log_off_of_a_tree : Asks (codes "tree" ∷ codes "--log" ∷ codes "off" ∷ []) (plain Tree)
log_off_of_a_tree = reading_is (codes "tree" ∷ codes "--log" ∷ codes "off" ∷ [])

-- the grid that is made may stand behind the options
grid_behind_key : Asks (codes "make" ∷ codes "--key" ∷ zeros ∷ codes "grid" ∷ codes "2" ∷ [])
    (record (plain Make) { size = 2 })
unfolding hex_on_literals
grid_behind_key = reading_is (codes "make" ∷ codes "--key" ∷ zeros ∷ codes "grid" ∷ codes "2" ∷ [])

-- or before them
workers_behind_grid : Asks (codes "make" ∷ codes "grid" ∷ codes "2048" ∷ codes "--workers" ∷ codes "2" ∷ [])
    (record (plain Make) { workers = 2; size = 2048 })
workers_behind_grid = reading_is (codes "make" ∷ codes "grid" ∷ codes "2048" ∷ codes "--workers" ∷ codes "2" ∷ [])

-- ---- bad places

-- where there is no word, the first is bad
no_words : IsBadPlace [] 1
no_words = reading_is []

-- a first word that is no command
no_command : IsBadPlace (codes "round" ∷ []) 1
no_command = reading_is (codes "round" ∷ [])

-- rounds share no workers
no_workers_of_rounds : IsBadPlace (codes "rounds" ∷ codes "--workers" ∷ codes "2" ∷ []) 2
no_workers_of_rounds = reading_is (codes "rounds" ∷ codes "--workers" ∷ codes "2" ∷ [])

-- nor do they meet on a board
no_board_of_rounds : IsBadPlace (codes "rounds" ∷ codes "--board" ∷ codes "lock" ∷ []) 2
no_board_of_rounds = reading_is (codes "rounds" ∷ codes "--board" ∷ codes "lock" ∷ [])

-- a board of another name is bad at its name
no_such_board : IsBadPlace (codes "formula" ∷ codes "--board" ∷ codes "claims" ∷ []) 3
no_such_board = reading_is (codes "formula" ∷ codes "--board" ∷ codes "claims" ∷ [])

-- `--speed` is no option
no_such_option : IsBadPlace (codes "formula" ∷ codes "--speed" ∷ codes "3" ∷ []) 2
no_such_option = reading_is (codes "formula" ∷ codes "--speed" ∷ codes "3" ∷ [])

-- a check has no height
an_option_of_check : IsBadPlace (codes "check" ∷ codes "--height" ∷ codes "5" ∷ []) 2
an_option_of_check = reading_is (codes "check" ∷ codes "--height" ∷ codes "5" ∷ [])

-- an option without its value is bad behind its name
no_value : IsBadPlace (codes "formula" ∷ codes "--stacks" ∷ []) 3
no_value = reading_is (codes "formula" ∷ codes "--stacks" ∷ [])

-- a height of 0 is bad at its value
height_zero : IsBadPlace (codes "formula" ∷ codes "--height" ∷ codes "0" ∷ []) 3
height_zero = reading_is (codes "formula" ∷ codes "--height" ∷ codes "0" ∷ [])

-- an option that stands twice is bad where it stands again
key_twice : IsBadPlace (codes "formula" ∷ codes "--key" ∷ zeros ∷ codes "--key" ∷ zeros ∷ []) 4
unfolding hex_on_literals
key_twice = reading_is (codes "formula" ∷ codes "--key" ∷ zeros ∷ codes "--key" ∷ zeros ∷ [])

-- given rows have no height
height_behind_stacks : IsBadPlace (codes "formula" ∷ codes "--stacks" ∷ codes "0" ∷ codes "--height" ∷
    codes "5" ∷ []) 4
height_behind_stacks = reading_is (codes "formula" ∷ codes "--stacks" ∷ codes "0" ∷ codes "--height" ∷
    codes "5" ∷ [])

-- nor do they grow
grow_behind_stacks : IsBadPlace (codes "formula" ∷ codes "--stacks" ∷ codes "0" ∷ codes "--grow" ∷ codes "4" ∷ []) 4
grow_behind_stacks = reading_is (codes "formula" ∷ codes "--stacks" ∷ codes "0" ∷ codes "--grow" ∷ codes "4" ∷ [])

-- a batch shares no workers
workers_behind_count : IsBadPlace (codes "formula" ∷ codes "--count" ∷ codes "2" ∷ codes "--workers" ∷ codes "2" ∷ []) 4
workers_behind_count = reading_is (codes "formula" ∷ codes "--count" ∷ codes "2" ∷ codes "--workers" ∷ codes "2" ∷ [])

-- a batch of no samples is bad at its number
count_zero : IsBadPlace (codes "formula" ∷ codes "--count" ∷ codes "0" ∷ []) 3
count_zero = reading_is (codes "formula" ∷ codes "--count" ∷ codes "0" ∷ [])

-- and none may stand before them
stacks_behind_height : IsBadPlace (codes "formula" ∷ codes "--height" ∷ codes "5" ∷ codes "--stacks" ∷
    codes "0" ∷ []) 4
stacks_behind_height = reading_is (codes "formula" ∷ codes "--height" ∷ codes "5" ∷ codes "--stacks" ∷
    codes "0" ∷ [])

-- a run that may stop before its end shares no workers
workers_behind_pops : IsBadPlace (codes "formula" ∷ codes "--pops" ∷ codes "4" ∷ codes "--workers" ∷ codes "2" ∷ []) 4
workers_behind_pops = reading_is (codes "formula" ∷ codes "--pops" ∷ codes "4" ∷ codes "--workers" ∷ codes "2" ∷ [])

-- what workers share doesn't stop before its end
pops_behind_workers : IsBadPlace (codes "formula" ∷ codes "--workers" ∷ codes "2" ∷ codes "--pops" ∷ codes "4" ∷ []) 4
pops_behind_workers = reading_is (codes "formula" ∷ codes "--workers" ∷ codes "2" ∷ codes "--pops" ∷ codes "4" ∷ [])

-- nor does a batch
pops_behind_count : IsBadPlace (codes "tree" ∷ codes "--count" ∷ codes "2" ∷ codes "--pops" ∷ codes "4" ∷ []) 4
pops_behind_count = reading_is (codes "tree" ∷ codes "--count" ∷ codes "2" ∷ codes "--pops" ∷ codes "4" ∷ [])

-- no run stops before its first pop by its words
pops_zero : IsBadPlace (codes "formula" ∷ codes "--pops" ∷ codes "0" ∷ []) 3
pops_zero = reading_is (codes "formula" ∷ codes "--pops" ∷ codes "0" ∷ [])

-- 2 ^ 32 pops are too many
pops_past_the_greatest : IsBadPlace (codes "formula" ∷ codes "--pops" ∷ codes "4294967296" ∷ []) 3
pops_past_the_greatest = reading_is (codes "formula" ∷ codes "--pops" ∷ codes "4294967296" ∷ [])

-- the tree of a grid that is made is run to its end
pops_of_make : IsBadPlace (codes "make" ∷ codes "--pops" ∷ codes "4" ∷ codes "grid" ∷ codes "2" ∷ []) 2
pops_of_make = reading_is (codes "make" ∷ codes "--pops" ∷ codes "4" ∷ codes "grid" ∷ codes "2" ∷ [])

-- a replay shares no workers
no_workers_of_replay : IsBadPlace (codes "replay" ∷ codes "--workers" ∷ codes "2" ∷ []) 2
no_workers_of_replay = reading_is (codes "replay" ∷ codes "--workers" ∷ codes "2" ∷ [])

-- a run that goes on has the stacks of its certificate
no_key_of_resume : IsBadPlace (codes "resume" ∷ codes "--key" ∷ zeros ∷ []) 2
no_key_of_resume = reading_is (codes "resume" ∷ codes "--key" ∷ zeros ∷ [])

-- a root of 0 is bad at its value
root_zero : IsBadPlace (codes "tree" ∷ codes "--root" ∷ codes "0" ∷ []) 3
root_zero = reading_is (codes "tree" ∷ codes "--root" ∷ codes "0" ∷ [])

-- an orientation has no root
a_root_of_orient : IsBadPlace (codes "orient" ∷ codes "--root" ∷ codes "1" ∷ []) 2
a_root_of_orient = reading_is (codes "orient" ∷ codes "--root" ∷ codes "1" ∷ [])

-- a tree has one root
root_twice : IsBadPlace (codes "tree" ∷ codes "--root" ∷ codes "1" ∷ codes "--root" ∷ codes "1" ∷ []) 4
root_twice = reading_is (codes "tree" ∷ codes "--root" ∷ codes "1" ∷ codes "--root" ∷ codes "1" ∷ [])

-- the given rows of a tree have no height either
height_behind_the_stacks_of_a_tree : IsBadPlace (codes "tree" ∷ codes "--stacks" ∷ codes "0" ∷ codes "--height" ∷
    codes "5" ∷ []) 4
height_behind_the_stacks_of_a_tree = reading_is (codes "tree" ∷ codes "--stacks" ∷ codes "0" ∷ codes "--height" ∷
    codes "5" ∷ [])

-- what `make` is to make is missing
make_alone : IsBadPlace (codes "make" ∷ []) 2
make_alone = reading_is (codes "make" ∷ [])

-- it is missing behind an option, too
make_without_its_grid : IsBadPlace (codes "make" ∷ codes "--key" ∷ zeros ∷ []) 4
unfolding hex_on_literals
make_without_its_grid = reading_is (codes "make" ∷ codes "--key" ∷ zeros ∷ [])

-- a grid of no rows is bad at its number
grid_of_none : IsBadPlace (codes "make" ∷ codes "grid" ∷ codes "0" ∷ []) 3
grid_of_none = reading_is (codes "make" ∷ codes "grid" ∷ codes "0" ∷ [])

-- one grid is made
grid_twice : IsBadPlace (codes "make" ∷ codes "grid" ∷ codes "2" ∷ codes "grid" ∷ codes "2" ∷ []) 4
grid_twice = reading_is (codes "make" ∷ codes "grid" ∷ codes "2" ∷ codes "grid" ∷ codes "2" ∷ [])

-- a formula has no grid
a_grid_of_a_formula : IsBadPlace (codes "formula" ∷ codes "grid" ∷ codes "2" ∷ []) 2
a_grid_of_a_formula = reading_is (codes "formula" ∷ codes "grid" ∷ codes "2" ∷ [])

-- a graph that is made has no root
a_root_of_make : IsBadPlace (codes "make" ∷ codes "--root" ∷ codes "1" ∷ codes "grid" ∷ codes "2" ∷ []) 2
a_root_of_make = reading_is (codes "make" ∷ codes "--root" ∷ codes "1" ∷ codes "grid" ∷ codes "2" ∷ [])

-- rounds have no reports
a_report_of_rounds : IsBadPlace (codes "rounds" ∷ codes "--report" ∷ codes "totals" ∷ []) 2
a_report_of_rounds = reading_is (codes "rounds" ∷ codes "--report" ∷ codes "totals" ∷ [])

-- a resampling tells its log always
a_log_of_resample : IsBadPlace (codes "resample" ∷ codes "--log" ∷ codes "on" ∷ []) 2
a_log_of_resample = reading_is (codes "resample" ∷ codes "--log" ∷ codes "on" ∷ [])

-- a log that is neither on nor off is bad at its value
log_maybe : IsBadPlace (codes "formula" ∷ codes "--log" ∷ codes "maybe" ∷ []) 3
log_maybe = reading_is (codes "formula" ∷ codes "--log" ∷ codes "maybe" ∷ [])

-- a report that is named twice is bad at the names
totals_twice : IsBadPlace (codes "resample" ∷ codes "--report" ∷ codes "totals,totals" ∷ []) 3
totals_twice = reading_is (codes "resample" ∷ codes "--report" ∷ codes "totals,totals" ∷ [])
