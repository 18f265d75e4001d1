-- The lines of logs as text, of both versions.
use Rattle.std.specs.Prelude.{◌≡◌, ◌⊎◌, ℕ, ◌<◌, ◌≤◌, ◌^◌, List, [], ◌∷◌, length, map, ⊤}
use Rattle.std.specs.List.{AllByRecursion}
use Rattle.pop_model.specs.Families.{Family}
use Rattle.pop_model.specs.Instances.{Instance}
use Rattle.pop_model.specs.Logs.{LogRecord}
use Rattle.pop_log.specs.declared.names.Names.{Names}
use Rattle.pop_log.specs.declared.log_version.LogVersion.{LogVersion}
use Rattle.pop_log.specs.declared.log_version.LogVersion.TheVariants.{Ordered, Layered}
use Rattle.pop_log.specs.Printed.{MayBePrinted}
use Rattle.pop_log.specs.LogTexts.{head_line, record_line, IsLogText}
use Rattle.pop_log.specs.LayeredTexts.{Written, layered_head, layered_line, IsReadLayered}

-- the first line
abbrev pub head_of : LogVersion → ℕ → List ℕ
head_of Ordered n = head_line n
head_of Layered n = layered_head n

-- the line of a record; version 1 states no layer
abbrev pub line_of : LogVersion → Written → List ℕ
line_of Ordered w = record_line w.1
line_of Layered w = layered_line w

-- a layer of 64 bits, at least 1; it is 0 here if none is stated
abbrev pub LayerFits : LogVersion → ℕ → Type 0
LayerFits Ordered y = y ≡ 0
LayerFits Layered y = (0 < y) × (y < 2 ^ 64)

-- what is allowed in a line
pub record MayBeWritten (names : Names) (family : Family) (version : LogVersion)
    (w : Written) : Type 0 where
  pub layer : LayerFits version w.0
  pub record_is : MayBePrinted names family w.1

-- the lines are those of a log of this version, whether or not its records are legal
pub record AreLogLines (names : Names) (family : Family) (version : LogVersion)
    (lines : List (List ℕ)) (ws : List Written) : Type 0 where
  pub lines_are : lines ≡ head_of version (length ws) ∷ map (line_of version) ws
  pub count : length ws < 2 ^ 64
  pub records : AllByRecursion (MayBeWritten names family version) ws

-- a first line, and at most as many lines of records as it states
pub record MayStart (names : Names) (family : Family) (l : List ℕ)
    (ls : List (List ℕ)) : Type 0 where
  pub version : LogVersion
  pub said : ℕ
  pub count : said < 2 ^ 64
  pub head : l ≡ head_of version said
  pub ws : List Written
  pub lines_are : ls ≡ map (line_of version) ws
  pub records : AllByRecursion (MayBeWritten names family version) ws
  pub few : length ws ≤ said

-- a log may begin with these lines
abbrev pub MayStand : Names → Family → List (List ℕ) → Type 0
MayStand names family [] = ⊤
MayStand names family (l ∷ ls) = MayStart names family l ls

-- the lines of some log
abbrev pub AreWellFormed : Names → Family → List (List ℕ) → Type 0
AreWellFormed names family lines =
    (version : LogVersion) × (ws : List Written) × AreLogLines names family version lines ws

-- the text is that of this log, in one of the versions
abbrev pub IsReadAs : Names → Instance → List ℕ → List LogRecord → Type 0
IsReadAs names i text log = IsLogText names i text log ⊎ IsReadLayered names i text log
