-- When arguments and an input have a sample, an exhausted end or a verdict.
use Rattle.std.specs.Prelude.{◌≡◌, ◌≢◌, ◌⊎◌, ◌≤◌, ℕ, List, length, None, false, ⊤}
use Rattle.pop_model.specs.Instances.{Instance}
use Rattle.pop_model.specs.Logs.{LogRecord}
use Rattle.pop_stacks.specs.Faults.{IsSound}
use Rattle.pop_log.specs.LogVersions.{IsReadAs}
use Rattle.dimacs_read.specs.Cnf.{Cnf, first_empty}
use Rattle.dimacs_read.specs.Grammar.{IsCnfText}
use Rattle.graph_read.specs.Graphs.{GraphOf}
use Rattle.graph_read.specs.Grids.{grid_of}
use Rattle.graph_read.specs.Grammar.{IsGraphText}
use Rattle.graph_read.specs.Paths.{IsConnected}
use Rattle.sink_popping.specs.Sinks.{IsIsolated}
use Rattle.cycle_popping.specs.Trees.{weights_of_tree}
use Rattle.pop_words.specs.declared.command.Command.{Command}
use Rattle.pop_words.specs.declared.command.Command.TheVariants.{Formula, Orient, Tree, Resample, Check, Make, Rounds, Replay, Resume}
use Rattle.pop_words.specs.declared.job.Job.{Job}
use Rattle.pop_words.specs.CommandLines.{Asks}
use Rattle.pop_watch.specs.Telling.{Watcher}
use Rattle.pop_print.specs.declared.facts.Facts.{Facts}
use Rattle.told_runs.specs.Witnesses.{is_missing}
use Rattle.job_subjects.specs.StackFaults.{AreFew}
use Rattle.told_runs.specs.Outcomes.{Outcome, AnswersBy}
use Rattle.told_runs.specs.Outcomes.Outcome.{Resampled}
use Rattle.job_subjects.specs.Subjects.{pair_weights}
use Rattle.run_cert.specs.Certificates.{Certificate, IsCertOf}
use Rattle.told_runs.specs.Names.{names_for}
use Rattle.job_subjects.specs.Made.{IsMade}
use Rattle.top_call.specs.Replays.{cert_limit, wanted_of}
use Rattle.top_call.specs.Answers.{IsOutcome, origin_for}
use Rattle.answer_laws.specs.Orders.{HasExtremalEvents}

-- the input is the text of the formula, within the limits, and no clause of it is empty
pub record Spells (text : List ℕ) (f : Cnf) : Type 0 where
  pub is : IsCnfText text f
  pub full : first_empty f ≡ None

-- the number of samples is within its limit, and the stacks of these weights have no fault
abbrev pub CanBeSampled : Job → List (List ℕ) → Type 0
CanBeSampled job weights = AreFew job.count (length weights) × IsSound (origin_for job) weights

-- what the certificate's command runs can be made, from its input and over its stacks, and the log
-- text is that of a legal log of it
pub record HasLegalLog (cert : Certificate) : Type 0 where
  pub facts : Facts
  pub instance : Instance
  pub made : IsMade (wanted_of cert.head) cert.input facts instance
  pub log : List LogRecord
  pub read : IsReadAs (names_for facts) instance cert.log_text log

-- the input is a certificate within the limit, and its input, its stacks and its log have no error
pub record CanBeReplayed (text : List ℕ) : Type 0 where
  pub short : length text ≤ cert_limit
  pub cert : Certificate
  pub is : IsCertOf text cert
  pub has : HasLegalLog cert

-- A command can be done on an input. The input is in its grammar and within the limits. The graph
-- has no isolated vertex, or each vertex is connected to the root. The number of samples is within
-- its limit, and the stacks have no fault. If extremal events are required, the events are
-- extremal.
abbrev pub CanBeDone : Command → Job → List ℕ → Type 0
CanBeDone Formula job text =
    (f : Cnf) × Spells text f × CanBeSampled job (pair_weights f.variables)
    × HasExtremalEvents f
CanBeDone Orient job text =
    (g : GraphOf) × IsGraphText text g × ((w : ℕ) → IsIsolated g w → ⊥)
    × CanBeSampled job (pair_weights (length g.edges))
CanBeDone Tree job text =
    (g : GraphOf) × IsGraphText text g × (job.root ≤ g.vertices) × IsConnected g job.root
    × CanBeSampled job (weights_of_tree g job.root)
CanBeDone Resample job text =
    (f : Cnf) × Spells text f × CanBeSampled job (pair_weights f.variables)
CanBeDone Check job text = (f : Cnf) × Spells text f × HasExtremalEvents f
CanBeDone Make job text = CanBeSampled job (weights_of_tree (grid_of job.size) 1)
CanBeDone Rounds job text =
    (f : Cnf) × Spells text f × IsSound (origin_for job) (pair_weights f.variables)
CanBeDone Replay job text = CanBeReplayed text
CanBeDone Resume job text = CanBeReplayed text

-- if a witness is asked for, its pop exists
abbrev pub HasWitness : Outcome → Type 0
HasWitness (Resampled facts i placed stuck telling) = is_missing telling.witness ≡ false
HasWitness o = ⊤

-- an answer with the witness that was asked for
abbrev pub IsWitnessedAnswer : List (List ℕ) → List Watcher → List ℕ → ℕ → List ℕ → Type 0
IsWitnessedAnswer words watchers text status out =
    AnswersBy (λ o. IsOutcome words watchers text o × HasWitness o) status out

-- the status of a run: 0 or 1, or 10 if it may stop after a number of pops or is replayed
abbrev pub IsDone : Job → ℕ → Type 0
IsDone job status =
    (status ≡ 0)
    ⊎ ((status ≡ 1) ⊎ ((status ≡ 10) × ((job.pops ≢ None) ⊎ (job.command ≡ Replay))))

-- if the job of the arguments can be done on the input, and the witness exists, the status is that
-- of a run
abbrev pub Complete : Type 0
Complete = (words : List (List ℕ)) (watchers : List Watcher) (text : List ℕ) (job : Job)
    (status : ℕ) (out : List ℕ) → Asks words job → CanBeDone job.command job text
    → IsWitnessedAnswer words watchers text status out → IsDone job status
