-- Taller stacks have the same entries below the cursors at which a run finishes, and at them. So the run finishes there
-- as well, by the same log or as many rounds.
use Rattle.std.proofs.Common.{inl, inr, ◌≡◌, ℕ, ◌<◌, List, length, replicate, sym, ap, subst, ◌∙◌, arith}
use Rattle.std.proofs.lemmas.Bool.{cases_lt}
use Rattle.std.proofs.lemmas.Grind.{same_number_lists}
use Rattle.std.proofs.lemmas.List.{get_or-replicate, get_or_past}
use Rattle.std.proofs.lemmas.List.Elements.{All-contains}
use Rattle.pop_model.specs.Stacks.{Extends, StackTable, height_of, value_at, variables_of}
use Rattle.pop_model.specs.Popping.{AreWithin, cursor, values_at}
use Rattle.pop_model.specs.Extremal.{IsExtremal}
use Rattle.pop_model.specs.Instances.{FamilyFits, Instance}
use Rattle.pop_model.specs.Logs.{LogRecord, replay}
use Rattle.pop_model.specs.Runs.{IsFinished, IsFirstRun, start_of}
use Rattle.pop_model.proofs.Diamond.{all_by_members, names_it}
use Rattle.pop_model.proofs.OneRun.{first_run_legal}
use Rattle.pop_model.proofs.Replays.{length-replay, length-start, replay_within, start_within}
use Rattle.pop_model.proofs.ValuesLemmas.{length-values_at, value-values_at}
use Rattle.prs_rounds.proofs.OneRun.{length-rounds}
use Rattle.pop_samples.specs.Finishing.{AgreeBelow, with_stacks}
use Rattle.pop_samples.proofs.MovedLogs.{known_variable}
use Rattle.round_samples.proofs.FinishedRounds.{same_rounds}
use Rattle.round_samples.proofs.RoundSteps.{rounds_within}
use Rattle.drawn_samples.specs.WhereLaws.{EndsAlike, FirstFinishes, TallerRounds, TallerRuns}
use Rattle.drawn_samples.proofs.FirstRuns.{first_run_moved}

module _ (i : Instance) (fits : FamilyFits i.stacks i.family) (t : StackTable) (extends : Extends i.stacks t) (c : List ℕ)
    (size : length c ≡ variables_of i.stacks) (within : AreWithin i.stacks c) where
  -- the same entries below the cursors
  agree : AgreeBelow c i.stacks t
  agree = record {
    count = sym extends.variables;
    values = λ v k less. elim (cases_lt v (variables_of i.stacks)) [
      | inl below ↦
          let high = within v below in
          sym (extends.entries v k (omega (arith, less, high)))
      | inr past ↦
          let none : cursor c v ≡ 0 = get_or_past c v 0 (omega (arith, past, size)) in
          absurd (omega (arith, less, none))
    ];
  }

  -- which are below the heights
  still_within : AreWithin t c
  still_within v below =
      let count = extends.variables in
      let high = within v (omega (arith, below, count)) in
      let more = extends.heights v in
      omega (arith, high, more)

  -- and no event occurs there
  still_finished : IsFinished i c → IsFinished (with_stacks i t) c
  still_finished finished e event occurs =
      finished e event (all_by_members (λ (p : ℕ × ℕ). value_at i.stacks p.0 (cursor c p.0) ≡ p.1) e.cube (λ p has.
      let below = known_variable i.stacks i.family fits e event p.0 (names_it e.cube p has) in
      sym (extends.entries p.0 (cursor c p.0) (within p.0 below))
      ∙ All-contains (λ (q : ℕ × ℕ). value_at t q.0 (cursor c q.0) ≡ q.1) e.cube p occurs has))

  -- the values are the same
  same_values : values_at t c ≡ values_at i.stacks c
  same_values =
      same_number_lists (values_at t c) (values_at i.stacks c) (length-values_at t c ∙ sym (length-values_at i.stacks c))
      (λ v less.
      let long = length-values_at t c in
      let inside : v < length c = omega (arith, less, long) in
      value-values_at t c v inside
      ∙ extends.entries v (cursor c v) (within v (omega (arith, inside, size)))
      ∙ sym (value-values_at i.stacks c v inside))

-- a one-thread run is that of taller stacks, where each stack has an entry
pub taller_first : (i : Instance) → FamilyFits i.stacks i.family
    → ((v : ℕ) → v < variables_of i.stacks → 0 < height_of i.stacks v) → IsExtremal i.family → (t : StackTable)
    → Extends i.stacks t → (log : List LogRecord) → FirstFinishes i log → EndsAlike i (with_stacks i t) log
taller_first i fits some extremal t extends log first =
    let start : List ℕ = start_of i in
    let c : List ℕ = replay start log in
    let size : length c ≡ variables_of i.stacks = length-replay start log ∙ length-start i in
    let low : AreWithin i.stacks start = λ v below.
    let none : cursor start v ≡ 0 = get_or-replicate (variables_of i.stacks) v 0 0 below in
    let high = some v below in
    omega (arith, none, high) in
    let within : AreWithin i.stacks c =
    replay_within i start log (sym (length-start i)) low (first_run_legal i start log first.run) in
    let starts : start ≡ start_of (with_stacks i t) = ap (λ (n : ℕ). replicate n 0) (sym extends.variables) in
    let finished : IsFinished (with_stacks i t) c = still_finished i fits t extends c size within first.finished in
    let run : IsFirstRun (with_stacks i t) start log =
    first_run_moved i t extremal fits log first.run first.finished (agree i fits t extends c size within)
    (still_within i fits t extends c size within) finished starts in
    record {
      finishes = record {
        run = subst (λ (d : List ℕ). IsFirstRun (with_stacks i t) d log) starts run;
        finished = subst (λ (d : List ℕ). IsFinished (with_stacks i t) (replay d log)) starts finished;
      };
      cursors = ap (λ (d : List ℕ). replay d log) (sym starts);
      values = same_values i fits t extends c size within;
    }

-- the law of the one-thread run
pub taller_runs : TallerRuns
taller_runs i is extremal t extends log first = taller_first i is.fits is.table.entries extremal t extends log first

-- the law of rounds
pub taller_rounds : TallerRounds
taller_rounds i is listed t extends c rounds end =
    let size : length c ≡ variables_of i.stacks = length-rounds i rounds (start_of i) c end.run ∙ length-start i in
    let within : AreWithin i.stacks c = rounds_within i rounds (start_of i) c end.run (start_within i is) in
    record {
      end = (same_rounds i is listed rounds c end.run t (agree i is.fits t extends c size within)
          (still_within i is.fits t extends c size within) (still_finished i is.fits t extends c size within end.end)).end;
      values = same_values i is.fits t extends c size within;
    }
