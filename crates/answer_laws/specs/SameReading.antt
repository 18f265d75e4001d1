-- Inputs that are parsed alike: comments, blanks and line ends make no difference to an answer.
use Rattle.std.specs.Prelude.{◌≡◌, ◌⊎◌, ℕ, List, Ok, None}
use Rattle.dimacs_read.specs.Cnf.{Cnf}
use Rattle.dimacs_read.specs.CnfText.{AnswersCnf}
use Rattle.graph_read.specs.Graphs.{GraphOf}
use Rattle.graph_read.specs.GraphText.{AnswersGraph}
use Rattle.pop_words.specs.declared.job.Job.{Job}
use Rattle.pop_words.specs.CommandLines.{Asks}
use Rattle.pop_watch.specs.Telling.{Watcher}
use Rattle.top_call.specs.Answers.{IsAnswer, IsOfLine}

-- if one input is parsed as a formula or a graph, the other is parsed as the same one
pub record IsReadAs (text other : List ℕ) : Type 0 where
  pub formulas : (f : Cnf) → AnswersCnf text (Ok f) → AnswersCnf other (Ok f)
  pub graphs : (g : GraphOf) → AnswersGraph text (Ok g) → AnswersGraph other (Ok g)

-- So an answer to one input, unless it is an error, is an answer to the other, if the command
-- neither reads nor writes a certificate.
abbrev pub SameReading : Type 0
SameReading = (job : Job) (words : List (List ℕ)) (watchers : List Watcher)
    (text other out : List ℕ) (status : ℕ) → Asks words job → IsOfLine job.command
    → job.pops ≡ None → IsReadAs text other
    → IsAnswer words watchers text status out → (status ≡ 0) ⊎ (status ≡ 1)
    → IsAnswer words watchers other status out
