-- The record for which a certificate's log is rejected, and the line after it, have numbers of 64 bits.
use Rattle.std.proofs.Common.{◌<◌, ℕ, List, ◌∷◌, length, map, ap, ◌∙◌, arith, length-append}
use Rattle.std.proofs.lemmas.List.{length-map}
use Rattle.pop_model.specs.Instances.{Instance, IsInstance}
use Rattle.pop_model.proofs.Replays.{start_count}
use Rattle.pop_model.specs.Runs.{start_of}
use Rattle.confluence_core.proofs.ShortLogs.{legal_short}
use Rattle.pop_log.specs.declared.names.Names.{Names}
use Rattle.pop_log.specs.declared.log_refusal.LogRefusal.{LogRefusal}
use Rattle.pop_log.specs.declared.log_refusal.LogRefusal.TheVariants.{NotLegal as IllegalRecord, Unlayered as UnlayeredRecord}
use Rattle.pop_log.specs.Layers.{Placed}
use Rattle.pop_log.specs.Layered.{IsFirstUnlayered}
use Rattle.pop_log.specs.Refusals.{IsLogRefusal}
use Rattle.job_subjects.specs.Refusals.{IsEarlyRecord}

-- the first record that isn't layered is one of the log
unlayered_small : (placed : List Placed) (k : ℕ) → IsFirstUnlayered placed k → k < length (map (λ p. p.0) placed)
unlayered_small placed k first =
    let size = length-map placed (λ (p : Placed). p.0) in
    let sum = ap (λ (l : List Placed). length l) first.placed_are ∙ length-append first.front (first.p ∷ first.rest) in
    let place = first.place in
    omega (arith, size, sum, place)

-- the record that is refused, and the line behind it, have numbers of 64 bits
pub early_record : (names : Names) (i : Instance) (text : List ℕ) (cause : LogRefusal) → IsInstance i
    → IsLogRefusal names i text cause → IsEarlyRecord cause
early_record names i text (IllegalRecord k) is (short, at) =
    let few = legal_short i (start_of i) at.first.log is (start_count i) at.first.legal in
    let place = at.first.place in
    omega (arith, few, place)
early_record names i text (UnlayeredRecord k) is (short, at) =
    let few = legal_short i (start_of i) _ is (start_count i) at.legal in
    let size = unlayered_small at.placed k at.first in
    omega (arith, few, size)
early_record names i text cause is refused = tt
