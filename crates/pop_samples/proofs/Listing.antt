-- The rows of a frame that finish with a sample are a finite list: of all rows, those are kept whose run ends so.
use Rattle.std.proofs.Common.{inl, inr, ◌≡◌, ◌⊎◌, ℕ, List, length, refl, sym, ap, subst, ◌∙◌}
use Rattle.pop_model.specs.Stacks.{StackTable}
use Rattle.pop_model.specs.Popping.{Cube}
use Rattle.pop_model.specs.Families.{Family, IsFamily}
use Rattle.pop_model.specs.Families.Family.{Listed, Cycles}
use Rattle.pop_model.specs.Instances.{Instance}
use Rattle.pop_model.specs.Extremal.{IsExtremal}
use Rattle.pop_model.specs.Logs.{replay}
use Rattle.pop_model.specs.Runs.{start_of}
use Rattle.pop_model.proofs.CycleFamily.{cycles_extremal}
use Rattle.pop_model.proofs.UniqueEnd.{unique_run}
use Rattle.pop_samples.specs.Frames.{AreRows, Frame, IsFrame, IsSampleOf, Rows, over, stacks_of}
use Rattle.pop_samples.specs.Exchange.{Samples, SamplesAt, entries_under}
use Rattle.pop_samples.specs.Lists.{AreAll}
use Rattle.pop_model.proofs.Replays.{length-start, length-replay}
use Rattle.pop_samples.proofs.Finishing.{finished_ends}
use Rattle.pop_samples.proofs.FrameRows.{fits_rows, rows_count, sample_finished}
use Rattle.pop_samples.proofs.ExactCounts.{one_place}
use Rattle.pop_samples.proofs.Conses.{Kept, kept, same_list}
use Rattle.pop_samples.proofs.AllRows.{all_rows, all_rows_list}
use Rattle.pop_samples.proofs.Ending.{Ends, Found, found_listed, run_to_end}
use Rattle.pop_samples.proofs.FoundCycles.{found_cycles}
use Rattle.pop_samples.proofs.Reaching as reaching

-- rows finish with a sample or don't
samples_or_not : (f : Frame) → IsFrame f → IsExtremal f.family → ((rows : Rows) (c : List ℕ) → Found (over f rows) c)
    → (w : List ℕ)
    → IsSampleOf f w → (rows : Rows) → AreRows f.weights f.heights rows → Samples f w rows ⊎ (Samples f w rows → ⊥)
samples_or_not f frame extremal find w sample rows shape =
    let i : Instance = over f rows in
    let start : List ℕ = start_of i in
    let run : Ends i start =
    run_to_end i frame.family (fits_rows f.weights rows f.family frame.fits) (find rows) start (length-start i) in
    let c : List ℕ = replay start run.log in
    let size : length c ≡ length rows =
    length-replay start run.log ∙ length-start i ∙ sym (rows_count f frame rows shape) in
    elim (same_list (entries_under rows c) w) [
      | inl same ↦ inl (
        c,
        record {
          shape = shape;
          finishes = (
            run.log,
            record {
              legal = run.legal;
              leads = refl;
              finished = sample_finished f frame rows shape c w size sample same;
            },
          );
          entries = same;
        },
      )
      | inr other ↦ inr (λ s.
          let d : List ℕ = s.0 in
          let by = s.1.finishes in
          let place : c ≡ d =
          (unique_run i extremal start run.log by.0 run.legal by.1.legal run.end (finished_ends i by.0 d by.1)).end
          ∙ by.1.leads in
          other (ap (entries_under rows) place ∙ s.1.entries))
    ]

-- of all rows of a frame those can be kept that are of a kind, where it is found of each whether it is
pub kept_rows : (f : Frame) → IsFrame f → (P : Rows → Type 0)
    → ((rows : Rows) → P rows → AreRows f.weights f.heights rows)
    → ((rows : Rows) → AreRows f.weights f.heights rows → P rows ⊎ (P rows → ⊥)) → (all : List Rows) × AreAll P all
kept_rows f frame P shape each =
    let every = all_rows f.weights f.heights frame.count in
    let some : Kept P (all_rows_list f.weights f.heights) =
    kept P (all_rows_list f.weights f.heights) every.differ (λ rows has. each rows ((every.exact rows).0 has)) in (
      some.list,
      record {
        differ = some.differ;
        exact = λ rows.
            (λ has. (some.sound rows has).1, λ s. some.complete rows ((every.exact rows).1 (shape rows s)) s);
      },
    )

-- of all rows those are kept that finish so
listing : (f : Frame) → IsFrame f → IsExtremal f.family → ((rows : Rows) (c : List ℕ) → Found (over f rows) c)
    → (w : List ℕ)
    → IsSampleOf f w → (all : List Rows) × AreAll (Samples f w) all
listing f frame extremal find w sample =
    kept_rows f frame (Samples f w) (λ rows s. s.1.shape) (samples_or_not f frame extremal find w sample)

-- of every family it is found whether an event is poppable
found : (s : StackTable) (family : Family) → IsFamily family → (c : List ℕ)
    → Found (record { stacks = s; family = family }) c
found s (Listed events) is c = found_listed s events c
found s (Cycles heads) is c = found_cycles s heads is c

-- all rows that finish with a sample
pub all_samples : (f : Frame) → IsFrame f → IsExtremal f.family → (w : List ℕ) → IsSampleOf f w
    → (all : List Rows) × AreAll (Samples f w) all
all_samples f frame extremal w sample =
    listing f frame extremal (λ rows c. found (stacks_of f rows) f.family frame.family c) w sample

-- those of them that finish at the same cursors
extremal_samples_at : (f : Frame) → IsFrame f → IsExtremal f.family → (w c : List ℕ) → IsSampleOf f w
    → (all : List Rows) × AreAll (SamplesAt f w c) all
extremal_samples_at f frame extremal w c sample =
    let every = all_samples f frame extremal w sample in
    let some : Kept (SamplesAt f w c) every.0 = kept (SamplesAt f w c) every.0 every.1.differ (λ rows has.
    let at : Samples f w rows = (every.1.exact rows).0 has in
    elim (same_list at.0 c) [
      | inl same ↦ inl (subst (λ (d : List ℕ). SamplesAt f w d rows) same at.1)
      | inr other ↦ inr (λ s. other (one_place (over f rows) extremal at.0 c at.1.finishes s.finishes))
    ]) in (
      some.list,
      record {
        differ = some.differ;
        exact = λ rows. (λ has. (some.sound rows has).1, λ s. some.complete rows ((every.1.exact rows).1 (c, s)) s);
      },
    )

-- the frame of these events
abbrev of_events : List (List ℕ) → List ℕ → Family → Frame
of_events weights heights family = record { family = family; weights = weights; heights = heights }

-- rows of listed events finish at cursors with a sample or don't
listed_at_or_not : (weights : List (List ℕ)) (heights : List ℕ) (events : List (ℕ × Cube))
    → IsFrame (of_events weights heights (Listed events)) → (w c : List ℕ)
    → IsSampleOf (of_events weights heights (Listed events)) w → (rows : Rows) → AreRows weights heights rows
    → SamplesAt (of_events weights heights (Listed events)) w c rows
    ⊎ (SamplesAt (of_events weights heights (Listed events)) w c rows → ⊥)
listed_at_or_not weights heights events frame w c sample rows shape =
    let f = of_events weights heights (Listed events) in
    let i : Instance = over f rows in
    let start : List ℕ = start_of i in
    elim (reaching.leads_or_not (stacks_of f rows) events frame.family
    (fits_rows weights rows (Listed events) frame.fits) start c (length-start i)) [
      | inr none ↦ inr (λ s. none (s.finishes.0, s.finishes.1.legal, s.finishes.1.leads))
      | inl (log, legal, leads) ↦ elim (same_list (entries_under rows c) w) [
        | inr other ↦ inr (λ s. other s.entries)
        | inl same ↦
            let size : length c ≡ length rows =
            sym (ap (λ (d : List ℕ). length d) leads) ∙ length-replay start log ∙ length-start i
            ∙ sym (rows_count f frame rows shape) in
            inl (record {
              shape = shape;
              finishes = (
                log,
                record {
                  legal = legal;
                  leads = leads;
                  finished = sample_finished f frame rows shape c w size sample same;
                },
              );
              entries = same;
            })
      ]
    ]

-- all rows that finish at cursors with a sample, also of events that clash
all_at : (weights : List (List ℕ)) (heights : List ℕ) (family : Family) → IsFrame (of_events weights heights family)
    → (w c : List ℕ) → IsSampleOf (of_events weights heights family) w
    → (all : List Rows) × AreAll (SamplesAt (of_events weights heights family) w c) all
all_at weights heights (Listed events) frame w c sample =
    let f = of_events weights heights (Listed events) in
    kept_rows f frame (SamplesAt f w c) (λ rows s. s.shape) (listed_at_or_not weights heights events frame w c sample)
all_at weights heights (Cycles heads) frame w c sample =
    extremal_samples_at (of_events weights heights (Cycles heads)) frame (cycles_extremal heads) w c sample

pub all_samples_at : (f : Frame) → IsFrame f → (w c : List ℕ) → IsSampleOf f w
    → (all : List Rows) × AreAll (SamplesAt f w c) all
all_samples_at f frame w c sample = all_at f.weights f.heights f.family frame w c sample
