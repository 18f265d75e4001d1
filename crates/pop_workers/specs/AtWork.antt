-- What workers on a board of claim words use, and the states that they leave.
use Rattle.std.specs.Prelude.{◌≡◌, ◌<◌, ℕ, length, Option, IfSome}
use Rattle.pop_model.specs.Families.{units_of}
use Rattle.pop_model.specs.Instances.{Instance}
use Rattle.pop_model.specs.Runs.{IsEnd}
use Rattle.pop_stacks.specs.Readers.{ReaderOf, Belongs}
use Rattle.claim_words.specs.declared.board.Board.{Board}
use Rattle.claim_words.specs.declared.pass.Pass.{Pass}
use Rattle.claim_words.specs.Passes.{IsOf, IsIdle, IsHelper, IsSole, view, instance_of, opening_of}
use Rattle.claim_words.specs.TicketLogs.{vector}
use Rattle.pop_workers.specs.Attempts.{IsIndexed, AreTools}
use Rattle.pop_workers.specs.declared.shared.Shared.{Shared}
use Rattle.pop_workers.specs.declared.tools.Tools.{Tools}

-- the workers share the instance of the board, with its index, and hints are its units
pub record IsSharedOn {W : Type 0} (units : ℕ) (board : Board) (shared : Shared W) : Type 0 where
  pub instance : instance_of board ≡ shared.instance.now
  pub indexed : IsIndexed shared.instance.now shared.index.now
  pub range : units_of shared.instance.now.family ≡ units

-- the worker has tools for the instance that the workers share
pub record HasTools {W : Type 0} (shared : Shared W) (tools : Tools) : Type 0 where
  pub fit : AreTools shared.instance.now tools.reader tools.walker
  pub known : tools.worker < length shared.all.items

-- they are still the tools of the same worker, and fit the instance
pub record KeepsTools (i : Instance) (old new : Tools) : Type 0 where
  pub fit : AreTools i new.reader new.walker
  pub same : new.worker ≡ old.worker

-- an idle pass of the board
pub record IsIdleOn (board : Board) (pass : Pass) : Type 0 where
  pub of : IsOf board pass
  pub idle : IsIdle pass

-- a worker other than the caller has an idle pass of the board, with share 1, and a reader of its
-- stacks, or none
pub record IsBeside (board : Board) (pass : Pass) (reader : Option ReaderOf) : Type 0 where
  pub helper : IsHelper board pass
  pub belongs : IfSome reader (Belongs (instance_of board).stacks)

-- an idle pass of the board, which has all shares
pub record IsSoleOn (board : Board) (pass : Pass) : Type 0 where
  pub of : IsOf board pass
  pub idle : IsIdle pass
  pub sole : IsSole pass

-- the pass has all shares, and no event of the board is poppable after its pops
pub record IsAtEnd (board : Board) (pass : Pass) : Type 0 where
  pub sole : IsSole pass
  pub end : IsEnd (instance_of board) (vector (opening_of board) (view pass).mine)
