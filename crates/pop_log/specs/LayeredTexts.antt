-- The text of a log, version 2: in layered order, each record with its layer.
use Rattle.std.specs.Prelude.{◌≡◌, ℕ, ◌≤◌, ◌^◌, List, [], ◌∷◌, ◌++◌, length, map, flat_map, decimal, codes}
use Rattle.pop_model.specs.Text.{line}
use Rattle.pop_model.specs.Families.{Family}
use Rattle.pop_model.specs.Instances.{Instance}
use Rattle.pop_model.specs.Logs.{LogRecord, IsLegal}
use Rattle.pop_model.specs.Runs.{start_of}
use Rattle.pop_log.specs.declared.names.Names.{Names}
use Rattle.pop_log.specs.Printed.{Printed, printed, record_words}
use Rattle.pop_log.specs.Layers.{Placed}
use Rattle.pop_log.specs.Layered.{AreSorted, AreInLayers}

-- the first line states the number of records
abbrev pub layered_head : ℕ → List ℕ
layered_head n = line (codes "log 2 " ++ decimal n)

-- a record as it is printed, with its layer
abbrev pub Written : Type 0
Written = ℕ × Printed

-- `pop Y E V:K V:K ..`
abbrev pub layered_line : Written → List ℕ
layered_line w = line (codes "pop " ++ decimal w.0 ++ 32 ∷ record_words w.1)

-- the printed form of a record of this family with its layer
abbrev pub written : Names → Family → Placed → Written
written names family p = (p.1, printed names family p.0)

-- the first line, and one for each record
abbrev pub written_text : List Written → List ℕ
written_text ws = layered_head (length ws) ++ flat_map layered_line ws

-- the text of records with their layers, in this order
abbrev pub placed_text : Names → Instance → List Placed → List ℕ
placed_text names i placed = written_text (map (written names i.family) placed)

-- the text of a log is that of its layered log, each record with its layer
pub record IsLayeredText (names : Names) (i : Instance) (log : List LogRecord)
    (text : List ℕ) : Type 0 where
  pub placed : List Placed
  pub sorted : AreSorted log placed
  pub text_is : text ≡ placed_text names i placed

-- the text is that of this legal log, which is in layered order
pub record IsReadLayered (names : Names) (i : Instance) (text : List ℕ)
    (log : List LogRecord) : Type 0 where
  pub placed : List Placed
  pub short : length text ≤ 2 ^ 28
  pub records : log ≡ map (λ p. p.0) placed
  pub legal : IsLegal i (start_of i) log
  pub in_layers : AreInLayers [] placed
  pub text_is : text ≡ placed_text names i placed
