-- Theorems about logs, their layers and their texts.
use Rattle.std.specs.Prelude.{◌≡◌, ◌≢◌, ℕ, List, [], ◌∷◌, ◌++◌, ◌<◌, ◌≤◌, ◌^◌, length, Some, slice_get, map}
use Rattle.pop_model.specs.Instances.{Instance, IsInstance}
use Rattle.pop_model.specs.Extremal.{IsExtremal}
use Rattle.pop_model.specs.Logs.{LogRecord, IsLegal, replay}
use Rattle.pop_model.specs.Runs.{start_of}
use Rattle.confluence_core.specs.Laws.{RunsToEnd}
use Rattle.pop_log.specs.declared.log_refusal.LogRefusal.{LogRefusal}
use Rattle.pop_log.specs.declared.log_refusal.LogRefusal.TheVariants.{OutOfMemory}
use Rattle.pop_log.specs.declared.names.Names.{Names}
use Rattle.pop_log.specs.Printed.{printed}
use Rattle.pop_log.specs.Layers.{Depend, Placed, AreLayers}
use Rattle.pop_log.specs.Layered.{AreSorted, IsLayered, ArePlaced, AreInLayers}
use Rattle.pop_log.specs.LogTexts.{log_text}
use Rattle.pop_log.specs.LayeredTexts.{placed_text, IsLayeredText}
use Rattle.pop_log.specs.LogVersions.{IsReadAs}
use Rattle.pop_log.specs.Refusals.{IsLogRefusal}

-- two records of one layer share no variable
abbrev pub LayersApart : Type 0
LayersApart = (log : List LogRecord) (ys : List ℕ) → AreLayers log ys
    → (s t : ℕ) (r q : LogRecord) (y : ℕ) → s < t → slice_get log s ≡ Some r
    → slice_get log t ≡ Some q → slice_get ys s ≡ Some y → slice_get ys t ≡ Some y → Depend r q → ⊥

-- a log has at most one list of layers
abbrev pub OneLayering : Type 0
OneLayering = (log : List LogRecord) (ys zs : List ℕ) → AreLayers log ys → AreLayers log zs
    → ys ≡ zs

-- if two neighbours that share no variable are swapped, no record changes its layer
abbrev pub SwapKeepsLayers : Type 0
SwapKeepsLayers = (front back : List Placed) (p q : Placed) → (Depend p.0 q.0 → ⊥)
    → ArePlaced (front ++ p ∷ q ∷ back) → ArePlaced (front ++ q ∷ p ∷ back)

-- the layered log of a legal log is legal, with the same replay
abbrev pub LayeredLegal : Type 0
LayeredLegal = (i : Instance) → IsInstance i → (c : List ℕ) (log layered : List LogRecord)
    → IsLegal i c log → IsLayered log layered
    → IsLegal i c layered × (replay c layered ≡ replay c log)

-- the layered log of a legal log is in layered order
abbrev pub LayeredInLayers : Type 0
LayeredInLayers = (i : Instance) → IsInstance i → (c : List ℕ) (log : List LogRecord)
    → IsLegal i c log → (placed : List Placed) → AreSorted log placed → AreInLayers [] placed

-- records in layered order are their own layered log
abbrev pub SortedInLayers : Type 0
SortedInLayers = (placed : List Placed) → AreInLayers [] placed
    → AreSorted (map (λ p. p.0) placed) placed

-- on an extremal instance all runs from the same cursors to an end have the same layered log, with
-- the same layers
abbrev pub OneLayeredLog : Type 0
OneLayeredLog = (i : Instance) → IsInstance i → IsExtremal i.family
    → (c : List ℕ) (log other : List LogRecord) → RunsToEnd i c log → RunsToEnd i c other
    → (placed another : List Placed) → AreSorted log placed → AreSorted other another
    → placed ≡ another

-- a legal log is determined by what is printed for its records
abbrev pub OneReading : Type 0
OneReading = (names : Names) (i : Instance) → IsInstance i → (c : List ℕ)
    (log other : List LogRecord) → IsLegal i c log → IsLegal i c other
    → map (printed names i.family) log ≡ map (printed names i.family) other → log ≡ other

-- a text of version 1 denotes at most one legal log
abbrev pub OneLog : Instance → Type 0
OneLog i = (names : Names) (log other : List LogRecord) → IsLegal i (start_of i) log
    → IsLegal i (start_of i) other → log_text names i log ≡ log_text names i other → log ≡ other

-- a text of version 2 denotes at most one legal log in layered order
abbrev pub OnePlacedLog : Instance → Type 0
OnePlacedLog i = (names : Names) (placed another : List Placed)
    → IsLegal i (start_of i) (map (λ p. p.0) placed)
    → IsLegal i (start_of i) (map (λ p. p.0) another)
    → AreInLayers [] placed → AreInLayers [] another
    → placed_text names i placed ≡ placed_text names i another → placed ≡ another

-- a text is read as at most one log
abbrev pub OneRead : Instance → Type 0
OneRead i = (names : Names) (text : List ℕ) (log other : List LogRecord)
    → IsReadAs names i text log → IsReadAs names i text other → log ≡ other

-- the layered text of a legal log is read as its layered log, if it has at most 2^28 bytes
abbrev pub ReadBack : Type 0
ReadBack = (names : Names) (i : Instance) → IsInstance i → (log layered : List LogRecord)
    (text : List ℕ) → IsLegal i (start_of i) log → IsLayered log layered
    → IsLayeredText names i log text → length text ≤ 2 ^ 28 → IsReadAs names i text layered

-- the text of a legal log, of either version and with at most 2^28 bytes, is rejected only if
-- memory runs out
abbrev pub ExactReading : Instance → Type 0
ExactReading i = (names : Names) (text : List ℕ) (log : List LogRecord) → IsReadAs names i text log
    → (refusal : LogRefusal) → IsLogRefusal names i text refusal → refusal ≡ OutOfMemory

-- a text is rejected in one way only, unless memory runs out
abbrev pub OneRefusal : Instance → Type 0
OneRefusal i = (names : Names) (text : List ℕ) (a b : LogRefusal) → a ≢ OutOfMemory
    → b ≢ OutOfMemory → IsLogRefusal names i text a → IsLogRefusal names i text b → a ≡ b
