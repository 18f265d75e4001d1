-- The text of each sample of a batch, and the arguments that ask for a batch under a key.
use Rattle.std.specs.Prelude.{◌≡◌, ℕ, List, [], ◌∷◌, ◌++◌, length, flat_map, codes, Some}
use Rattle.std.specs.List.{enumerate_from}
use Rattle.pop_model.specs.Families.{Event, Family}
use Rattle.pop_model.specs.Text.{line}
use Rattle.pop_stacks.specs.declared.stack_spec.StackSpec.TheVariants.{Key}
use Rattle.pop_words.specs.declared.command.Command.{Command}
use Rattle.pop_words.specs.declared.job.Job.{Job}
use Rattle.pop_words.specs.CommandLines.{Asks}
use Rattle.pop_print.specs.declared.facts.Facts.{Facts}
use Rattle.pop_print.specs.Batches.{batch_line, sample_line}
use Rattle.pop_print.specs.Output.{pops_line, stuck_lines, used_line}
use Rattle.top_call.specs.Answers.{last_height}

-- The arguments ask for this many samples of a command, over stacks of this last height under a
-- key.
pub record AskForBatch (words : List (List ℕ)) (command : Command) (key : List ℕ)
    (height count : ℕ) : Type 0 where
  pub job : Job
  pub asks : Asks words job
  pub command_is : job.command ≡ command
  pub key_is : job.stacks ≡ Key key
  pub height_is : last_height job ≡ height
  pub count_is : job.count ≡ Some count

-- the text of a batch of samples with these texts, each after the number of its sample
abbrev pub text_of_samples : List (List ℕ) → List ℕ
text_of_samples texts =
    batch_line (length texts) ++ flat_map (λ p. sample_line p.0 ++ p.1) (enumerate_from 0 texts)

-- the result: the lines of the sample, or those of the events that occur
abbrev pub found_of : Facts → Family → List ℕ → List Event → List ℕ
found_of facts family lines [] = line (codes "s SAMPLE") ++ lines
found_of facts family lines (e ∷ stuck) =
    line (codes "s EXHAUSTED") ++ stuck_lines facts family (e ∷ stuck)

-- The text of an end. It has the lines of its sample, or of a number of events that still occur.
-- Then it has the lines of its cursors and of the number of its pops.
pub record IsEndText (facts : Facts) (family : Family) (lines cursors : List ℕ) (pops stuck : ℕ)
    (text : List ℕ) : Type 0 where
  pub events : List Event
  pub many : length events ≡ stuck
  pub text_is : text ≡ found_of facts family lines events ++ used_line cursors ++ pops_line pops
