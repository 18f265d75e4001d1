-- What is run: the instance of what is sampled, over sound stacks.
use Rattle.std.specs.Prelude.{◌≡◌, ℕ, List, length, Option}
use Rattle.pop_model.specs.Stacks.{Origin}
use Rattle.pop_model.specs.Instances.{Instance}
use Rattle.pop_stacks.specs.Faults.{IsSound}
use Rattle.pop_print.specs.declared.facts.Facts.{Facts}
use Rattle.job_subjects.specs.declared.wanted.Wanted.{Wanted}
use Rattle.job_subjects.specs.StackFaults.{AreFew}
use Rattle.job_subjects.specs.Subjects.{Subject, instance_over, IsSubjectOf}

-- the instance of a subject over stacks of this source, which have no fault; the requested number
-- of samples is not too large
pub record IsInstanceOf (origin : Origin) (asked : Option ℕ) (s : Subject) (facts : Facts)
    (i : Instance) : Type 0 where
  pub facts_are : facts ≡ s.facts
  pub instance_is : i ≡ instance_over origin s
  pub sound : IsSound origin s.weights
  pub few : AreFew asked (length s.weights)

-- the instance of some subject with this property
pub record IsMadeOf (Are : Subject → Type 0) (origin : Origin) (asked : Option ℕ) (facts : Facts)
    (i : Instance) : Type 0 where
  pub subject : Subject
  pub are : Are subject
  pub over : IsInstanceOf origin asked subject facts i

-- what is made of an input, as it is wanted
abbrev pub IsMade : Wanted → List ℕ → Facts → Instance → Type 0
IsMade w text facts i =
    IsMadeOf (IsSubjectOf w.command w text) w.origin w.count facts i
