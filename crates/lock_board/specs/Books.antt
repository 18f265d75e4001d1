-- The book: pops that threads share.
use Rattle.std.specs.Prelude.{◌≡◌, ℕ, true, List, length}
use Rattle.pop_model.specs.Stacks.{variables_of}
use Rattle.pop_model.specs.Popping.{AreWithin}
use Rattle.pop_model.specs.Instances.{Instance}
use Rattle.pop_model.specs.Logs.{LogRecord}
use Rattle.confluence_core.specs.Stretches.{LeadsOn, before_pops, logged}

-- cursors, and the log of the pops that led there
pub record Progress : Type 0 where
  pub cursors : List ℕ
  pub log : List LogRecord

-- the log leads from the start to the cursors of the book, so each variable has a cursor, below
-- its height
pub record IsBook (i : Instance) (start : List ℕ) (b : Progress) : Type 0 where
  pub leads : LeadsOn i (before_pops start true) (logged b.cursors b.log)
  pub count : variables_of i.stacks ≡ length b.cursors
  pub within : AreWithin i.stacks b.cursors
