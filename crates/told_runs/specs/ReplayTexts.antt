-- The printed form of the replay of a legal log.
use Rattle.std.specs.Prelude.{ℕ, List, ◌++◌, decimal, codes}
use Rattle.pop_model.specs.Text.{line}
use Rattle.pop_print.specs.Output.{used_line}
use Rattle.run_cert.specs.declared.look_kind.Look.{Look}
use Rattle.run_cert.specs.declared.look_kind.Look.TheVariants.{Finished, Exhausted, Open}

-- the keyword for the state of a run at its cursors
abbrev pub look_word : Look → List ℕ
look_word Finished = codes "sample"
look_word Exhausted = codes "exhausted"
look_word Open = codes "open"

-- the status for the state of a run
abbrev pub look_status : Look → ℕ
look_status Finished = 0
look_status Exhausted = 1
look_status Open = 10

-- the number of records, the cursors after them, and the state of the run there
abbrev pub replay_text : ℕ → List ℕ → Look → List ℕ
replay_text records cursors look =
    line (codes "s LEGAL " ++ decimal records) ++ used_line cursors
    ++ line (codes "end " ++ look_word look)
