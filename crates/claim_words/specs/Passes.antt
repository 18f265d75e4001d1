-- The terms in which contracts describe boards and passes.
use Rattle.std.specs.Prelude.{◌≡◌, ℕ, ◌-◌, [], Option, Some, None, is_some, if◌then◌else◌, List, length, vec_len, vec_capacity}
use Rattle.std.specs.List.{enumerate_from}
use Rattle.atomic_table.specs.declared.shared.Seat.{Seat}
use Rattle.pop_model.specs.Popping.{AreWithin}
use Rattle.pop_model.specs.Instances.{Instance}
use Rattle.pop_model.specs.Logs.{LogRecord}
use Rattle.confluence_core.specs.declared.keep.Keep.{Keep}
use Rattle.confluence_core.specs.Kept.{keeps_log}
use Rattle.claim_words.specs.declared.view.View.{View}
use Rattle.claim_words.specs.declared.opening.Opening.{Opening}
use Rattle.claim_words.specs.declared.board.Board.{Board}
use Rattle.claim_words.specs.declared.pass.Pass.{Pass}
use Rattle.claim_words.specs.KeptLogs.{spare_in}
use Rattle.claim_words.specs.Maps.{times}
use Rattle.claim_words.specs.Openings.{count, marks}

-- the instance and the start of a board
abbrev pub opening_of : Board → Opening
opening_of board = board.table.shared.key

-- the instance of a board
abbrev pub instance_of : Board → Instance
instance_of board = (opening_of board).instance.value

-- the number of variables of a board
abbrev pub count_of : Board → ℕ
count_of board = count (opening_of board)

-- the number of units of a board that have a mark: all of a listed family, and none of cycles
abbrev pub marks_of : Board → ℕ
marks_of board = marks (opening_of board)

-- whether a board keeps a log
abbrev pub keep_of : Board → Keep
keep_of board = board.keep

-- what a pass has, knows and owes
abbrev pub view : Pass → View
view pass = pass.seat.me.0

-- the seat is that of a live pass of the board
abbrev pub IsSeat : Board → Seat (Unit {0}) View → Type 0
IsSeat board seat = (seat.table_id ≡ board.table.shared.table_id)
    × (seat.me.0.opening ≡ Some (opening_of board))

-- the pass is a live pass of the board
abbrev pub IsOf : Board → Pass → Type 0
IsOf board pass = IsSeat board pass.seat × (is_some pass.log ≡ keeps_log board.keep)

-- the number of claims that need no allocation
abbrev pub spare : Pass → ℕ
spare pass = vec_capacity pass.held - vec_len pass.held

-- the number of pairs of records that need no allocation, if a log is kept, and otherwise 0
abbrev pub log_spare : Pass → ℕ
log_spare pass = spare_in pass.log

-- there is as much room as before
abbrev pub SameRoom : Pass → Pass → Type 0
SameRoom old new = (spare new ≡ spare old) × (log_spare new ≡ log_spare old)

-- the tickets that are returned if a log is kept
abbrev pub kept_tickets : Board → Pass → Option (List (ℕ × LogRecord))
kept_tickets board pass = if keeps_log board.keep then Some (view pass).mine else None

-- a pass that holds nothing, and has no mark taken or owed
abbrev pub IsIdle : Pass → Type 0
IsIdle pass = ((view pass).held ≡ []) × ((view pass).taken ≡ []) × ((view pass).owed ≡ [])

-- a pass that has all shares
abbrev pub IsSole : Pass → Type 0
IsSole pass = (view pass).share ≡ 64

-- the share and the lists of units are the same
abbrev pub SameMarks : Pass → Pass → Type 0
SameMarks old new = ((view new).share ≡ (view old).share) × ((view new).taken ≡ (view old).taken)
    × ((view new).owed ≡ (view old).owed)

-- the pass holds a variable
abbrev pub Holds : Pass → ℕ → Type 0
Holds pass v = times v (view pass).held ≡ 1

-- the pass holds all variables of its board, at these cursors, which are below the heights
pub record HoldsAll (board : Board) (pass : Pass) (c : List ℕ) : Type 0 where
  pub held : (view pass).held ≡ enumerate_from 0 c
  pub count : length c ≡ count_of board
  pub within : AreWithin (instance_of board).stacks c

-- an idle pass of the board, with share 1
abbrev pub IsHelper : Board → Pass → Type 0
IsHelper board pass = IsOf board pass × IsIdle pass × ((view pass).share ≡ 1)
