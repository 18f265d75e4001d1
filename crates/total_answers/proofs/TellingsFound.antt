-- What is told of a log is there: the witness of the pop that is asked for, or that it is missing, and the reports.
use Rattle.std.proofs.Common.{inl, inr, ◌≡◌, ℕ, zero, suc, ◌<◌, Bool, true, false, if◌then◌else◌, List, [], ◌∷◌, length, filter, Option, None, Some, slice_get, refl, arith, Contains}
use Rattle.std.proofs.lemmas.Bool.{cases_eq, cases_lt}
use Rattle.pop_model.specs.Stacks.{variables_of}
use Rattle.pop_model.specs.Popping.{cursor, names}
use Rattle.pop_model.specs.Instances.{Instance, IsInstance}
use Rattle.pop_model.specs.Logs.{LogRecord, IsLegal, replay}
use Rattle.pop_model.specs.Runs.{start_of}
use Rattle.pop_model.proofs.FirstRun.{legal_event}
use Rattle.pop_model.proofs.Members.{read_at}
use Rattle.pop_model.proofs.Replays.{length-replay, length-start}
use Rattle.confluence_core.proofs.EventVariables.{event_cube}
use Rattle.pop_log.specs.declared.names.Names.{Names}
use Rattle.pop_log.specs.Printed.{name_of}
use Rattle.pop_log.specs.Layers.{Placed}
use Rattle.pop_log.specs.Layered.{AreSorted}
use Rattle.pop_watch.specs.Telling.{Watcher, log_told}
use Rattle.witness_trees.specs.Pops.{naming}
use Rattle.witness_trees.proofs.Counting.{cursor_counts, legal_log_counts}
use Rattle.told_runs.specs.declared.asked.Asked.{Asked}
use Rattle.told_runs.specs.Reports.{reports_text}
use Rattle.told_runs.specs.Tellings.{Telling, IsToldOf, records_of}
use Rattle.told_runs.specs.Witnesses.{Witness, IsWitness}
use Rattle.told_runs.specs.Witnesses.Witness.{Unasked, Missing, Shown}
use Rattle.told_runs.proofs.ToldRuns.{in_order}
use Rattle.prs_rounds.proofs.ClosedSets.{some_below}
use Rattle.total_answers.proofs.TreesFound.{tree_found}
use Rattle.total_answers.proofs.VerticesFound.{IsSome}

-- where a record of a filtered log stands, it stands in the log
abbrev Stands : List LogRecord → LogRecord → Type 0
Stands log r = (t : ℕ) × (slice_get log t ≡ Some r)

one_behind : (q r : LogRecord) (log kept : List LogRecord) → ((k : ℕ) → slice_get kept k ≡ Some r → Stands log r)
    → (k : ℕ) → slice_get (q ∷ kept) k ≡ Some r → Stands (q ∷ log) r
one_behind q r log kept rest zero at = (zero, at)
one_behind q r log kept rest (suc k) at = let old = rest k at in (suc old.0, old.1)

stands_unfiltered : (test : LogRecord → Bool) (log : List LogRecord) (k : ℕ) (r : LogRecord)
    → slice_get (filter test log) k ≡ Some r → Stands log r
stands_unfiltered test [] k r at = absurd (cc)
stands_unfiltered test (q ∷ log) k r at =
    (elim (test q) as (λ b. slice_get (if b then q ∷ filter test log else filter test log) k ≡ Some r
    → Stands (q ∷ log) r) [
      | true ↦ λ h. one_behind q r log (filter test log) (λ j here. stands_unfiltered test log j r here) k h
      | false ↦ λ h. let old = stands_unfiltered test log k r h in (suc old.0, old.1)
    ]) at

module _ (names_are : Names) (i : Instance) (is : IsInstance i) (log : List LogRecord)
    (legal : IsLegal i (start_of i) log) where
  -- no cube of a legal record is empty
  full : (r : LogRecord) → Contains log r → IsSome r
  full r has = (event_cube i.family r.event is.family (legal_event i (start_of i) log legal r has)).some

  -- the witness of the pop that used an entry of a variable, or that it is missing
  named_witness : (asked : ℕ × ℕ) (v : ℕ) → v < length (replay (start_of i) log) → name_of names_are v ≡ asked.0
      → (w : Witness) × IsWitness names_are (Some asked) (replay (start_of i) log) log w
  named_witness asked v below named = elim (cases_lt asked.1 (cursor (replay (start_of i) log) v)) [
    | inr past ↦
        (Missing asked.0 asked.1 (cursor (replay (start_of i) log) v), (refl, refl, inl (v, below, named, refl), past))
    | inl less ↦
        let low : v < variables_of i.stacks =
        omega (arith, below, length-replay (start_of i) log, length-start i) in
        let count = cursor_counts i log v low in
        let (r, at) = read_at (naming log v) asked.1 (omega (arith, less, count)) in
        let used = legal_log_counts i log legal v low asked.1 r at in
        let (t, there) = stands_unfiltered (λ q. names q.event.cube v) log asked.1 r at in
        let (tree, tree_is) = tree_found log t r full there in (
          Shown tree,
          record {
            v = v;
            below = below;
            named = named;
            t = t;
            r = r;
            record_is = there;
            used = used;
            tree_is = tree_is;
          },
        )
  ]

  -- so each witness that is asked for is told
  witness_found : (asked : Option (ℕ × ℕ))
      → (w : Witness) × IsWitness names_are asked (replay (start_of i) log) log w
  witness_found None = (Unasked, tt)
  witness_found (Some asked) =
      elim (some_below (λ v. name_of names_are v ≡ asked.0) (length (replay (start_of i) log))
      (λ v less. cases_eq (name_of names_are v) asked.0)) [
        | inl (v, below, named) ↦ named_witness asked v below named
        | inr none ↦ (Missing asked.0 asked.1 0, (refl, refl, inr (none, refl), omega arith))
      ]

-- what is asked for is told of the layered log of a legal log
pub told_found : (asked : Asked) (ws : List Watcher) (names_are : Names) (i : Instance) → IsInstance i
    → (log : List LogRecord) → IsLegal i (start_of i) log → (placed : List Placed) → AreSorted log placed
    → (t : Telling) × IsToldOf asked ws names_are i placed t
told_found asked ws names_are i is log legal placed sorted =
    let of = in_order i is log placed legal sorted in
    let (w, witness) = witness_found names_are i is (records_of placed) of.0 asked.witness in (
      record {
        log = if asked.log then Some placed else None;
        witness = w;
        reports = reports_text asked.reports (log_told (records_of placed) ws);
      },
      record { log_is = refl; witness_is = witness; reports_are = refl },
    )
