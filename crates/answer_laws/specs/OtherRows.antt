-- Words with other rows in place of theirs.
use Rattle.std.specs.Prelude.{◌↔◌, ℕ, List}
use Rattle.pop_stacks.specs.declared.stack_spec.StackSpec.TheVariants.{Given}
use Rattle.pop_words.specs.declared.job.Job.{Job}
use Rattle.pop_words.specs.CommandLines.{Asks}
use Rattle.pop_samples.specs.Frames.{Rows}
use Rattle.run_cert.specs.Heads.{MayBeStacks}
use Rattle.answer_laws.specs.ExactAnswers.{over_rows}

-- If words ask for rows, with any options, there are such words for other rows too: they ask for the
-- same job over these exactly if the rows are within the limits of words.
abbrev pub AskedOthers : Type 0
AskedOthers = (job : Job) (rows : Rows) (words : List (List ℕ)) → Asks words (over_rows job rows)
    → (words_for : Rows → List (List ℕ))
    × ((other : Rows) → Asks (words_for other) (over_rows job other) ↔ MayBeStacks (Given other))
