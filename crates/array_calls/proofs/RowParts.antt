-- How far the sample of a row came, by popping or by rounds.
use Rattle.std.proofs.Common.{◌≡◌, ℕ, List, sym, subst}
use Rattle.std.specs.Prelude.{Bool, IsTrue, ◌↔◌, Option}
use Rattle.pop_model.specs.Stacks.{stacks_for}
use Rattle.pop_model.specs.Instances.{Instance, instance_for}
use Rattle.confluence_core.specs.declared.end.End.{End}
use Rattle.confluence_core.specs.Runs.{IsEndOver}
use Rattle.pop_batch.specs.declared.part.Part.{Part}
use Rattle.pop_batch.specs.Parts.{IsPart, start_at}
use Rattle.prs_rounds.specs.declared.round_end.RoundEnd.{RoundEnd}
use Rattle.prs_rounds.specs.Rounds.{LeavesStop}
use Rattle.array_calls.specs.declared.row_samples.RowSamples.{RowSamples}
use Rattle.array_calls.specs.declared.row_samples.RowSamples.TheVariants.{ByPopping, ByRounds}
use Rattle.array_calls.specs.KeptEnds.{rounded}
use Rattle.array_calls.specs.RowSamples.{IsRowPart, IsStopped, ends_of, instance_of, stops_of}
use Rattle.array_calls.specs.Values.{AreOfPairs}
use Rattle.array_calls.proofs.RoundParts.{round_part}
use Rattle.array_calls.proofs.TreeParts.{part_over}

-- an end has the value of each variable
pub end_over : (samples : RowSamples) (j : ℕ) (from : Option (List ℕ)) (end : End) → ends_of samples j from end
    → IsEndOver (stacks_for j (instance_of samples).stacks) end
end_over (ByPopping i) j from end is = part_over i j from end is
end_over (ByRounds i) j from end is = is.over

-- so has a stop
pub stop_over : (samples : RowSamples) (j : ℕ) (from : Option (List ℕ)) (stop : End) → stops_of samples j from stop
    → IsEndOver (stacks_for j (instance_of samples).stacks) stop
stop_over (ByPopping i) j from stop is = is.over
stop_over (ByRounds i) j from stop is = is.over

-- a part by popping
pub popped_row : (i : Instance) (j : ℕ) (from : Option (List ℕ)) (limit : ℕ) (part : Part) (at : End) → at ≡ part.at
    → IsPart i j from limit part
    → IsRowPart (ByPopping i) j from limit (record { at = at; is_open = part.is_open })
popped_row i j from limit part at same is =
    subst (λ (e : End). IsRowPart (ByPopping i) j from limit (record { at = e; is_open = part.is_open })) (sym same)
    (record { stopped = is.stopped; ended = is.ended; most = is.most; few = is.few })

-- a part by rounds
pub rounded_row : (i : Instance) (n j : ℕ) (from : Option (List ℕ)) (start : List ℕ) (limit : ℕ) (left : RoundEnd)
    (at : End) (is_open : Bool) → at ≡ rounded left → start ≡ start_at i from → AreOfPairs n i.stacks
    → LeavesStop (instance_for j i) start limit left → (IsTrue is_open ↔ IsStopped left.short left.stuck)
    → IsRowPart (ByRounds i) j from limit (record { at = at; is_open = is_open })
rounded_row i n j from start limit left at is_open same begins pairs leaves decides =
    subst (λ (e : End). IsRowPart (ByRounds i) j from limit (record { at = e; is_open = is_open })) (sym same)
    (round_part i n j from limit left is_open pairs
    (subst (λ (c : List ℕ). LeavesStop (instance_for j i) c limit left) begins leaves) decides)
