-- A text of version 2 is that of at most one list of records with layers: its lines are theirs, and lines determine
-- such a list.
use Rattle.std.proofs.Common.{◌≡◌, List, [], map, refl, sym, subst, arith}
use Rattle.std.proofs.lemmas.List.{length-map}
use Rattle.pop_model.specs.Instances.{Instance, IsInstance}
use Rattle.pop_model.specs.Logs.{IsLegal}
use Rattle.pop_model.specs.Runs.{start_of}
use Rattle.pop_model.proofs.Replays.{start_count}
use Rattle.confluence_core.proofs.ShortLogs.{legal_short}
use Rattle.pop_log.specs.declared.names.Names.{Names}
use Rattle.pop_log.specs.declared.log_version.LogVersion.TheVariants.{Layered}
use Rattle.pop_log.specs.Candidates.{NumbersFit}
use Rattle.pop_log.specs.TextLines.{lines_with_ends}
use Rattle.pop_log.specs.Layers.{Placed}
use Rattle.pop_log.specs.Layered.{AreInLayers}
use Rattle.pop_log.specs.LayeredTexts.{written, placed_text}
use Rattle.pop_log.specs.LogVersions.{AreLogLines}
use Rattle.pop_log.proofs.LayeredTextsLemmas.{written_determines}
use Rattle.pop_log.proofs.LegalRecords.{placed_may}
use Rattle.pop_log.proofs.WrittenLines.{one_list, text_lines}

-- the lines of such a text
placed_lines : (names : Names) (i : Instance) → IsInstance i → NumbersFit i.family → (placed : List Placed)
    → IsLegal i (start_of i) (map (λ p. p.0) placed) → AreInLayers [] placed
    → AreLogLines names i.family Layered (lines_with_ends (placed_text names i placed)) (map (written names i.family) placed)
placed_lines names i is numbers placed legal layered =
    let short = legal_short i (start_of i) (map (λ (p : Placed). p.0) placed) is (start_count i) legal in
    let size = length-map placed (λ (p : Placed). p.0) in
    let more = length-map placed (written names i.family) in
    text_lines names i Layered (placed_text names i placed) (map (written names i.family) placed) is numbers
    (placed_may names i (start_of i) placed is legal layered (omega (arith, short, size)))
    (omega (arith, short, size, more)) refl

-- the text determines the records with their layers
pub one_placed : (names : Names) (i : Instance) → IsInstance i → NumbersFit i.family → (placed another : List Placed)
    → IsLegal i (start_of i) (map (λ p. p.0) placed) → IsLegal i (start_of i) (map (λ p. p.0) another)
    → AreInLayers [] placed → AreInLayers [] another → placed_text names i placed ≡ placed_text names i another
    → placed ≡ another
one_placed names i is numbers placed another legal legal' layered layered' same =
    let f = written names i.family in
    let lines = placed_lines names i is numbers placed legal layered in
    let lines' : AreLogLines names i.family Layered (lines_with_ends (placed_text names i placed)) (map f another) =
    subst (λ t. AreLogLines names i.family Layered (lines_with_ends t) (map f another)) (sym same)
    (placed_lines names i is numbers another legal' layered') in
    written_determines names i is (start_of i) placed another legal legal'
    (one_list names i Layered (lines_with_ends (placed_text names i placed)) (map f placed) (map f another) is numbers
    lines lines')
