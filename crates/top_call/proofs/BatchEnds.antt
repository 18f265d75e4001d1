-- The ends of a batch that a job has: each is that of its sample, and the status says whether one is stuck.
use Rattle.std.proofs.Common.{inl, inr, ◌≡◌, ◌⊎◌, ℕ, ◌<◌, Bool, true, false, List, [], ◌∷◌, length, Some, slice_get, refl, sym, ap, subst, ◌∙◌, arith, true≢false}
use Rattle.std.specs.Prelude.{nat_lt, if◌then◌else◌}
use Rattle.std.proofs.lemmas.Bool.{lt-ltb, ltb-true}
use Rattle.std.proofs.lemmas.Map.Keys.{any_passes_from_place}
use Rattle.std.proofs.lemmas.Option.{slice_get_read}
use Rattle.pop_model.specs.Families.{Event}
use Rattle.pop_model.specs.Instances.{Instance}
use Rattle.confluence_core.specs.declared.end.End.{End}
use Rattle.pop_batch.specs.Batches.{some_stuck}
use Rattle.pop_words.specs.declared.job.Job.{Job}
use Rattle.pop_words.proofs.ListTests.{some_from}
use Rattle.pop_watch.specs.Telling.{Watcher}
use Rattle.pop_print.specs.declared.facts.Facts.{Facts}
use Rattle.told_runs.specs.Asking.{asked_by}
use Rattle.told_runs.specs.Batches.{IsBatchOf, batch_status}
use Rattle.told_runs.specs.Outcomes.{end_status}
use Rattle.told_runs.specs.Outcomes.Outcome.{Batched}
use Rattle.top_call.specs.Answers.{ComesOf}
use Rattle.top_call.proofs.ReadCases.{batched_as, run_ends}

-- a batch that comes of a job is one of the instance that it tells
pub batch_of : (job : Job) (ws : List Watcher) (text : List ℕ) (facts : Facts) (i : Instance) (ends : List End)
    → ComesOf job ws text (Batched facts i ends) → IsBatchOf job.count i ends
batch_of job ws text facts i ends h =
    let end = batched_as job.command (asked_by job) ws h.facts h.instance facts i ends
    (run_ends job ws text (Batched facts i ends) h (λ pops at. at)) in
    subst (λ k. IsBatchOf job.count k ends) (sym end.1) end.2

-- the status of a batch by whether some end is stuck
abbrev status_by : Bool → ℕ
status_by stuck = if stuck then 1 else 0

-- it is 0 or 1
status_is : (stuck : Bool) → (status_by stuck ≡ 0) ⊎ (status_by stuck ≡ 1)
status_is true = inr refl
status_is false = inl refl

pub batch_low : (ends : List End) → (batch_status ends ≡ 0) ⊎ (batch_status ends ≡ 1)
batch_low ends = status_is (some_stuck ends)

-- with 0 there is no stuck end, and with 1 there is one
none : (stuck : Bool) → status_by stuck ≡ 0 → stuck ≡ false
none true is = absurd (omega (arith, is))
none false is = refl

some : (stuck : Bool) → status_by stuck ≡ 1 → stuck ≡ true
some true is = refl
some false is = absurd (omega (arith, is))

-- an end is stuck where its status is 1
is_stuck : (stuck : List Event) → nat_lt 0 (length stuck) ≡ true → end_status stuck ≡ 1
is_stuck [] is = let long = ltb-true 0 0 is in absurd (omega (arith, long))
is_stuck (e ∷ stuck) is = refl

-- a batch with status 0 has no stuck end
pub unstuck : (ends : List End) (j : ℕ) (end : End) → batch_status ends ≡ 0 → slice_get ends j ≡ Some end
    → end_status end.stuck ≡ 0
unstuck ends j end is at = by_stuck end.stuck refl
  where
    by_stuck : (stuck : List Event) → end.stuck ≡ stuck → end_status stuck ≡ 0
    by_stuck [] has = refl
    by_stuck (e ∷ stuck) has =
        let long : 0 < length end.stuck = let size = ap (λ (l : List Event). length l) has in omega (arith, size) in
        let found : some_stuck ends ≡ true =
        any_passes_from_place (λ (x : End). nat_lt 0 (length x.stuck)) ends j end at (lt-ltb 0 (length end.stuck) long) in
        absurd (true≢false (sym found ∙ none (some_stuck ends) is))

-- and one with status 1 has one
pub a_stuck_one : (ends : List End) → batch_status ends ≡ 1 → (j : ℕ) × (end : End) × (slice_get ends j ≡ Some end)
    × (end_status end.stuck ≡ 1)
a_stuck_one ends is =
    let one = some_from (λ (x : End). nat_lt 0 (length x.stuck)) ends (some (some_stuck ends) is) in
    let (k, within, at) = one.1 in
    (k, one.0, slice_get_read ends (length ends) k (one.0) refl within (sym at), is_stuck one.0.stuck one.2)
