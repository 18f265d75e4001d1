-- The printed text of a legal log in layers is read as its layered log, which is legal and in layered order.
use Rattle.std.proofs.Common.{inr, ◌≡◌, ℕ, ◌≤◌, ◌^◌, List, length, map, ap, ◌∙◌}
use Rattle.pop_model.specs.Instances.{Instance, IsInstance}
use Rattle.pop_model.specs.Logs.{LogRecord, IsLegal}
use Rattle.pop_model.specs.Runs.{start_of}
use Rattle.pop_log.specs.declared.names.Names.{Names}
use Rattle.pop_log.specs.Layers.{Placed}
use Rattle.pop_log.specs.Layered.{AreSorted, IsLayered}
use Rattle.pop_log.specs.LayeredTexts.{IsLayeredText}
use Rattle.pop_log.specs.LogVersions.{IsReadAs}
use Rattle.pop_log.proofs.Reordering.IsReordered.{same}
use Rattle.pop_log.proofs.UnitEvents.{family_cubes}
use Rattle.pop_log.proofs.LayeredLaws.{layered_is_legal, one_sorting, placed_in_layers}

-- a legal log is sorted to one list
sorted_once : (i : Instance) → IsInstance i → (log : List LogRecord) → IsLegal i (start_of i) log
    → (placed another : List Placed) → AreSorted log placed → AreSorted log another → placed ≡ another
sorted_once i is log legal placed another sorted sorted' =
    one_sorting i (family_cubes i.family is.family) (start_of i) log log legal legal (same log) placed another sorted sorted'

-- the layered text is that of the layered log, as it stands
pub read_back : (names : Names) (i : Instance) → IsInstance i → (log layered : List LogRecord) (text : List ℕ)
    → IsLegal i (start_of i) log → IsLayered log layered → IsLayeredText names i log text → length text ≤ 2 ^ 28
    → IsReadAs names i text layered
read_back names i is log layered text legal of printed short =
    let one = sorted_once i is log legal of.placed printed.placed of.sorted printed.sorted in
    inr (record {
      placed = printed.placed;
      short = short;
      records = of.records ∙ ap (map (λ (p : Placed). p.0)) one;
      legal = (layered_is_legal i (family_cubes i.family is.family) (start_of i) log layered legal of).0;
      in_layers = placed_in_layers i (family_cubes i.family is.family) (start_of i) log legal printed.placed printed.sorted;
      text_is = printed.text_is;
    })
