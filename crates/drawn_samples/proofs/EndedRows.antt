-- The run of rows over an extremal family comes to an end, and it is found whether that is a sample.
use Rattle.std.proofs.Common.{inl, inr, ◌≡◌, ◌⊎◌, ℕ, ◌<◌, List, length, refl, sym, ap, subst, ◌∙◌, arith}
use Rattle.std.proofs.lemmas.List.{get_or-replicate}
use Rattle.pop_model.specs.Popping.{AreWithin, cursor}
use Rattle.pop_model.specs.Instances.{Instance}
use Rattle.pop_model.specs.Extremal.{IsExtremal}
use Rattle.pop_model.specs.Logs.{replay}
use Rattle.pop_model.specs.Runs.{start_of}
use Rattle.pop_model.proofs.Replays.{length-replay, length-start, replay_within}
use Rattle.pop_model.proofs.UniqueEnd.{unique_run}
use Rattle.pop_samples.specs.Frames.{AreRows, Frame, IsFrame, IsSampleOf, Rows, over, stacks_of}
use Rattle.pop_samples.specs.Exchange.{Samples, SamplesAt, entries_under}
use Rattle.pop_samples.proofs.Ending.{Ends, run_to_end}
use Rattle.pop_samples.proofs.Exchanging.{entry-under}
use Rattle.pop_samples.proofs.Finishing.{finished_ends}
use Rattle.pop_samples.proofs.FrameRows.{fits_rows, rows_count, sample_finished, some_entry, suits_end}
use Rattle.key_samples.proofs.Weighing.{AreValues}
use Rattle.drawn_samples.proofs.Finished.{length-entries, sample_there}
use Rattle.drawn_samples.proofs.SampleLists.{found, sample_or_not}

-- rows finish with some sample, or with none
pub finishes_or_not : (f : Frame) → IsFrame f → IsExtremal f.family → (rows : Rows) → AreRows f.weights f.heights rows
    → ((c : List ℕ) × (u : List ℕ) × SamplesAt f u c rows) ⊎ ((u : List ℕ) → Samples f u rows → ⊥)
finishes_or_not f frame extremal rows shape =
    let i : Instance = over f rows in
    let start : List ℕ = start_of i in
    let count : length rows ≡ length f.weights = rows_count f frame rows shape in
    let run : Ends i start =
    run_to_end i frame.family (fits_rows f.weights rows f.family frame.fits)
    (found (stacks_of f rows) f.family frame.family) start (length-start i) in
    let c : List ℕ = replay start run.log in
    let size : length c ≡ length rows = length-replay start run.log ∙ length-start i ∙ sym count in
    let low : AreWithin i.stacks start = λ v below.
    let none : cursor start v ≡ 0 = get_or-replicate (length f.weights) v 0 0 below in
    let some = some_entry f frame rows shape v (omega (arith, below, count)) in
    omega (arith, none, some) in
    let within : AreWithin i.stacks c = replay_within i start run.log (sym (length-start i)) low run.legal in
    let v : List ℕ = entries_under rows c in
    let long : length v ≡ length c = length-entries rows c size in
    let are : AreValues f.weights v = record {
      count = omega (arith, long, size, count);
      values = λ u below.
          let inside : u < length rows = omega (arith, below, long, size) in
          let is = entry-under rows c size u inside in
          let value = shape.values u (cursor c u) inside (within u (omega (arith, inside, count))) in
          omega (arith, is, value);
    } in
    elim (sample_or_not f frame v are) [
      | inl sample ↦ inl (
        c,
        v,
        record {
          shape = shape;
          finishes = (
            run.log,
            record {
              legal = run.legal;
              leads = refl;
              finished = sample_finished f frame rows shape c v size sample refl;
            },
          );
          entries = refl;
        },
      )
      | inr not ↦ inr (λ u (d, s).
          let by = s.finishes in
          let place : c ≡ d =
          (unique_run i extremal start run.log by.0 run.legal by.1.legal run.end (finished_ends i by.0 d by.1)).end
          ∙ by.1.leads in
          let sample : IsSampleOf f u =
          sample_there f frame u d rows shape (suits_end f frame rows shape d by) s.entries by.1.finished in
          not (subst (IsSampleOf f) (sym s.entries ∙ sym (ap (entries_under rows) place)) sample))
    ]
