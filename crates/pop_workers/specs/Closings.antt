-- The final state of a board of claim words.
use Rattle.std.specs.Prelude.{◌≡◌, ℕ, List, Option, Some, None, ⊤}
use Rattle.pop_model.specs.Logs.{LogRecord}
use Rattle.pop_model.specs.Tickets.{IsMerged}
use Rattle.confluence_core.specs.declared.reached.Reached.{Reached}
use Rattle.claim_words.specs.declared.closed.Closed.{Closed}

-- the log has each record at the place of its ticket, if there are tickets; otherwise there is no
-- log
abbrev pub AreMerged : Option (List (ℕ × LogRecord)) → Option (List LogRecord) → Type 0
AreMerged (Some tickets) (Some log) = IsMerged tickets log
AreMerged (Some tickets) None = ⊥
AreMerged None (Some log) = ⊥
AreMerged None None = ⊤

-- the state of a run by a closed board, with its tickets merged into a log
pub record IsLeftBy (closed : Closed) (reached : Reached) : Type 0 where
  pub are : reached ≡ record {
    cursors = closed.cursors;
    pops = closed.pops;
    log = reached.log;
    suspects = closed.suspects;
  }
  pub merged : AreMerged closed.log reached.log
