-- What the output of an end shows for the input: the sample of each command, or else the events
-- that still occur.
use Rattle.std.specs.Prelude.{◌≡◌, ◌⊎◌, ℕ, List, [], ◌∷◌, ◌++◌, length, flat_map, slice_get, Option, None, Some, ⊤}
use Rattle.std.specs.List.{enumerate_from}
use Rattle.pop_model.specs.Stacks.{Origin, StackTable, origin_for as origin_of_sample}
use Rattle.pop_model.specs.Families.{Event}
use Rattle.dimacs_read.specs.CnfText.{cnf_of}
use Rattle.graph_read.specs.Grids.{grid_of}
use Rattle.graph_read.specs.GraphText.{graph_of}
use Rattle.cycle_popping.specs.Trees.{weights_of_tree}
use Rattle.pop_words.specs.declared.command.Command.{Command}
use Rattle.pop_words.specs.declared.command.Command.TheVariants.{Formula, Orient, Tree, Resample, Check, Make, Rounds, Replay, Resume}
use Rattle.pop_words.specs.declared.job.Job.{Job}
use Rattle.pop_words.specs.CommandLines.{Asks}
use Rattle.pop_watch.specs.Telling.{Watcher}
use Rattle.pop_print.specs.Batches.{batch_line, sample_line}
use Rattle.printed_samples.specs.Assignments.{ShowsAssignment}
use Rattle.printed_samples.specs.Orientations.{ShowsOrientation}
use Rattle.printed_samples.specs.Stuck.{ShowsFalse, ShowsSinks}
use Rattle.printed_samples.specs.Trees.{ShowsTree}
use Rattle.printed_samples.specs.ArrowCycles.{ShowsCycles}
use Rattle.printed_samples.specs.Made.{ShowsMade, CountsCycles}
use Rattle.job_subjects.specs.Subjects.{pair_weights}
use Rattle.run_cert.specs.Certificates.{Certificate, IsCertOf}
use Rattle.top_call.specs.Replays.{job_of}
use Rattle.top_call.specs.Answers.{IsAnswer, origin_for}

-- the text begins with a text that shows this
abbrev pub BeginsWith : (List ℕ → Type 0) → List ℕ → Type 0
BeginsWith Shows out = (front : List ℕ) × (rest : List ℕ) × (out ≡ front ++ rest) × Shows front

-- the stacks with this source and these weights
abbrev pub stacks_by : Origin → List (List ℕ) → StackTable
stacks_by origin weights = record { origin = origin; weights = weights }

-- the stacks of a formula's variables, of a graph's edges, or of its vertices except the root
abbrev pub stacks_of_text : Command → Job → Origin → List ℕ → StackTable
stacks_of_text Formula job origin text = stacks_by origin (pair_weights (cnf_of text).variables)
stacks_of_text Orient job origin text =
    stacks_by origin (pair_weights (length (graph_of text).edges))
stacks_of_text Tree job origin text = stacks_by origin (weights_of_tree (graph_of text) job.root)
stacks_of_text Resample job origin text = stacks_by origin (pair_weights (cnf_of text).variables)
stacks_of_text Check job origin text = stacks_by origin []
stacks_of_text Make job origin text = stacks_by origin (weights_of_tree (grid_of job.size) 1)
stacks_of_text Rounds job origin text = stacks_by origin (pair_weights (cnf_of text).variables)
stacks_of_text Replay job origin text = stacks_by origin []
stacks_of_text Resume job origin text = stacks_by origin []

-- what an output with status 0 shows for a command; for a verdict nothing
abbrev pub ShowsSample : Command → Job → List ℕ → List ℕ → Type 0
ShowsSample Formula job text out = ShowsAssignment (cnf_of text) out
ShowsSample Orient job text out = ShowsOrientation (graph_of text) out
ShowsSample Tree job text out = ShowsTree (graph_of text) job.root out
ShowsSample Resample job text out = ShowsAssignment (cnf_of text) out
ShowsSample Check job text out = ⊤
ShowsSample Make job text out = BeginsWith (ShowsMade job.size) out
ShowsSample Rounds job text out = ShowsAssignment (cnf_of text) out
ShowsSample Replay job text out = ⊥
ShowsSample Resume job text out = ⊥

-- what an output with status 1 shows, for stacks with this source; a verdict has no such status
abbrev pub ShowsExhausted : Command → Job → Origin → List ℕ → List ℕ → Type 0
ShowsExhausted Formula job origin text out =
    ShowsFalse (cnf_of text) (stacks_of_text Formula job origin text) out
ShowsExhausted Orient job origin text out =
    ShowsSinks (graph_of text) (stacks_of_text Orient job origin text) out
ShowsExhausted Tree job origin text out =
    ShowsCycles (graph_of text) job.root (stacks_of_text Tree job origin text) out
ShowsExhausted Resample job origin text out =
    ShowsFalse (cnf_of text) (stacks_of_text Resample job origin text) out
ShowsExhausted Check job origin text out = ⊥
ShowsExhausted Make job origin text out =
    BeginsWith (CountsCycles job.size (stacks_of_text Make job origin text)) out
ShowsExhausted Rounds job origin text out =
    ShowsFalse (cnf_of text) (stacks_of_text Rounds job origin text) out
ShowsExhausted Replay job origin text out = ⊥
ShowsExhausted Resume job origin text out = ⊥

-- what an output shows if its text is that of an end with these events
abbrev pub ShowsEnd : Command → Job → Origin → List ℕ → List Event → List ℕ → Type 0
ShowsEnd command job origin text [] out = ShowsSample command job text out
ShowsEnd command job origin text (e ∷ stuck) out = ShowsExhausted command job origin text out

-- the texts of samples, each after its number, from 0
abbrev pub numbered : List (List ℕ) → List ℕ
numbered texts = flat_map (λ p. sample_line p.0 ++ p.1) (enumerate_from 0 texts)

-- an output of this number of samples, if the text of each shows this
pub record ShowsEach (count : ℕ) (Shows : ℕ → List ℕ → Type 0) (out : List ℕ) : Type 0 where
  pub texts : List (List ℕ)
  pub count_is : length texts ≡ count
  pub out_is : out ≡ batch_line count ++ numbered texts
  pub each : (j : ℕ) (t : List ℕ) → slice_get texts j ≡ Some t → Shows j t

-- an output of this number of samples, if at least one shows the first and each of the others the
-- second
pub record ShowsSome (count : ℕ) (Shows Others : ℕ → List ℕ → Type 0) (out : List ℕ)
    : Type 0 where
  pub all : ShowsEach count (λ j t. Shows j t ⊎ Others j t) out
  pub some : (j : ℕ) × (t : List ℕ) × (slice_get all.texts j ≡ Some t) × Shows j t

-- what an output with status 0 shows: a sample, or as many samples as are asked for
abbrev pub ShowsSamples : Option ℕ → Job → List ℕ → List ℕ → Type 0
ShowsSamples None job text out = ShowsSample job.command job text out
ShowsSamples (Some count) job text out =
    ShowsEach count (λ j t. ShowsSample job.command job text t) out

-- what an output with status 1 shows: the events that still occur, or, if a number of samples is
-- asked for, the events of some sample j, over its own stacks
abbrev pub ShowsStuckSamples : Option ℕ → Job → List ℕ → List ℕ → Type 0
ShowsStuckSamples None job text out = ShowsExhausted job.command job (origin_for job) text out
ShowsStuckSamples (Some count) job text out =
    ShowsSome count
    (λ j t. ShowsExhausted job.command job (origin_of_sample j (origin_for job)) text t)
    (λ j t. ShowsSample job.command job text t) out

-- What an output with status 0 shows for a command: for `resume`, what the command of the
-- certificate shows; for `replay` nothing; for others, their own samples.
abbrev pub ShowsEndOf : Command → Job → List ℕ → List ℕ → Type 0
ShowsEndOf Replay job text out = ⊤
ShowsEndOf Resume job text out =
    (cert : Certificate) × IsCertOf text cert × ShowsSamples None (job_of cert.head) cert.input out
ShowsEndOf command job text out = ShowsSamples job.count job text out

-- what an output with status 1 shows for a command
abbrev pub ShowsStuckOf : Command → Job → List ℕ → List ℕ → Type 0
ShowsStuckOf Replay job text out = ⊤
ShowsStuckOf Resume job text out =
    (cert : Certificate) × IsCertOf text cert
    × ShowsStuckSamples None (job_of cert.head) cert.input out
ShowsStuckOf command job text out = ShowsStuckSamples job.count job text out

-- An output with status 0 shows a sample. For a formula this is an assignment that satisfies each
-- clause. For `orient` it is an orientation in which an arrow leaves each vertex. For others it is
-- a spanning tree with arrows that lead to the root. If a number of samples is asked for, the
-- output shows that many.
abbrev pub SampleShown : Type 0
SampleShown = (words : List (List ℕ)) (watchers : List Watcher) (text out : List ℕ)
    → IsAnswer words watchers text 0 out
    → (job : Job) × Asks words job × ShowsEndOf job.command job text out

-- An output with status 1 shows the events that still occur: the false clauses, the vertices that
-- no arrow leaves, or the cycles of the arrows. For a batch these are the events of some sample.
abbrev pub ExhaustedShown : Type 0
ExhaustedShown = (words : List (List ℕ)) (watchers : List Watcher) (text out : List ℕ)
    → IsAnswer words watchers text 1 out
    → (job : Job) × Asks words job × ShowsStuckOf job.command job text out
