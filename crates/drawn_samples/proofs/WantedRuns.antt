-- Runs whose log is wanted: the exchange of a sample leaves the one-thread run its log, so such rows are a kind for which
-- samples may be exchanged.
use Rattle.std.proofs.Common.{inl, inr, ◌≡◌, ◌⊎◌, ℕ, Bool, true, false, List, [], length, refl, sym, ap, subst, ◌∙◌}
use Rattle.std.proofs.lemmas.Bool.{cases_Bool}
use Rattle.pop_model.specs.Extremal.{IsExtremal}
use Rattle.pop_model.specs.Logs.{LogRecord, replay}
use Rattle.pop_model.specs.Runs.{IsFinished, IsFirstEnd, start_of}
use Rattle.pop_model.proofs.OneRun.{first_run_legal}
use Rattle.pop_samples.specs.Finishing.{FinishesBy}
use Rattle.pop_samples.specs.Frames.{Frame, IsFrame, IsSampleOf, Rows, over, stacks_of}
use Rattle.pop_samples.specs.Exchange.{Samples, SamplesAt, entries_under, exchange}
use Rattle.pop_samples.specs.Lists.{AreAll}
use Rattle.pop_samples.proofs.Conses.{Kept, kept}
use Rattle.pop_samples.proofs.ExchangedSamples.{Leaves, leaves_at}
use Rattle.pop_samples.proofs.Finishing.{runs_like}
use Rattle.pop_samples.proofs.FrameRows.{SuitsEnd, fits_rows, suits_end}
use Rattle.pop_samples.proofs.Listing.{all_samples}
use Rattle.key_samples.specs.Numbers.{rows_from}
use Rattle.key_samples.proofs.Exact.{exact_kind}
use Rattle.key_samples.proofs.RowKinds.{IsKind}
use Rattle.drawn_samples.specs.Where.{SamplesWhere}
use Rattle.drawn_samples.specs.WhereLaws.{WantedRuns}
use Rattle.drawn_samples.proofs.Drawing.{are_drawn}
use Rattle.drawn_samples.proofs.Finished.{sample_there}
use Rattle.drawn_samples.proofs.FirstRuns.{first_run_moved, one_first_log}

-- a Bool isn't both
pub not_both : {b : Bool} → b ≡ true → b ≡ false → ⊥
not_both is not = cc

module _ (f : Frame) (wanted : List LogRecord → Bool) where
  -- the cursors at the end
  abbrev end_at : Rows → List LogRecord → List ℕ
  end_at rows log = replay (start_of (over f rows)) log

  -- such rows, at these cursors
  abbrev pub WhereAt : List ℕ → List ℕ → Rows → Type 0
  WhereAt w c rows = (s : SamplesWhere f wanted w rows) × (end_at rows s.log ≡ c)

  -- they are rows that finish with the sample
  pub where_samples : (w : List ℕ) (rows : Rows) (s : SamplesWhere f wanted w rows)
      → SamplesAt f w (end_at rows s.log) rows
  where_samples w rows s = record {
    shape = s.shape;
    finishes = (
      s.log,
      record {
        legal = first_run_legal (over f rows) (start_of (over f rows)) s.log s.run;
        leads = refl;
        finished = s.finished;
      },
    );
    entries = s.entries;
  }

  -- rows that finish with a sample are such or aren't
  where_or_not : IsExtremal f.family → (w : List ℕ) (rows : Rows) → Samples f w rows
      → SamplesWhere f wanted w rows ⊎ (SamplesWhere f wanted w rows → ⊥)
  where_or_not extremal w rows (c, s) =
      let by : FinishesBy (over f rows) s.finishes.0 c = s.finishes.1 in
      let first : IsFirstEnd (over f rows) c (length s.finishes.0) [] =
      (runs_like (over f rows) extremal s.finishes.0 c by).first in
      let log : List LogRecord = first.run.0 in
      elim (cases_Bool (wanted log)) [
        | inl is ↦ inl (record {
          shape = s.shape;
          log = log;
          run = first.run.1;
          finished = subst (IsFinished (over f rows)) first.run.2 by.finished;
          entries = sym (ap (entries_under rows) first.run.2) ∙ s.entries;
          wanted_log = is;
        })
        | inr not ↦ inr (λ other.
            let same : log ≡ other.log =
            one_first_log (over f rows) extremal (start_of (over f rows)) log other.log first.run.1 other.run in
            not_both (ap wanted same ∙ other.wanted_log) not)
      ]

  -- so they are a finite list
  where_listed : IsFrame f → IsExtremal f.family → (w : List ℕ) → IsSampleOf f w
      → (all : List Rows) × AreAll (SamplesWhere f wanted w) all
  where_listed frame extremal w sample =
      let every = all_samples f frame extremal w sample in
      let some : Kept (SamplesWhere f wanted w) every.0 =
      kept (SamplesWhere f wanted w) every.0 every.1.differ
      (λ rows has. where_or_not extremal w rows ((every.1.exact rows).0 has)) in (
        some.list,
        record {
          differ = some.differ;
          exact = λ rows. (
            λ has. (some.sound rows has).1,
            λ s. some.complete rows ((every.1.exact rows).1 (end_at rows s.log, where_samples w rows s)) s,
          );
        },
      )

  -- the cursors suit the rows
  where_suits : IsFrame f → (w : List ℕ) (rows : Rows) (s : SamplesWhere f wanted w rows)
      → SuitsEnd f rows (end_at rows s.log)
  where_suits frame w rows s =
      suits_end f frame rows s.shape (end_at rows s.log) (where_samples w rows s).finishes

  -- another sample leaves the log
  where_moves : IsFrame f → IsExtremal f.family → (w x : List ℕ) (rows : Rows) → (s : SamplesWhere f wanted w rows)
      → IsSampleOf f x → WhereAt x (end_at rows s.log) (exchange rows (end_at rows s.log) x)
  where_moves frame extremal w x rows s sample =
      let c : List ℕ = end_at rows s.log in
      let left : Leaves f w x c rows =
      leaves_at f frame w x c rows s.shape (where_suits frame w rows s) s.entries sample in (
        record {
          shape = left.shape;
          log = s.log;
          run = first_run_moved (over f rows) (stacks_of f (exchange rows c x)) extremal
              (fits_rows f.weights rows f.family frame.fits) s.log s.run s.finished left.agree left.within
              left.finished refl;
          finished = left.finished;
          entries = left.entries;
          wanted_log = s.wanted_log;
        },
        refl,
      )

  -- so such rows are a kind
  pub where_kind : IsFrame f → IsExtremal f.family → IsKind f (SamplesWhere f wanted) WhereAt
  where_kind frame extremal = record {
    places = λ w rows. (λ s. (end_at rows s.log, (s, refl)), λ s. s.1.0);
    shape = λ w c rows s. s.0.shape;
    suits = λ w c rows s. subst (SuitsEnd f rows) s.1 (where_suits frame w rows s.0);
    entries = λ w c rows s. sym (ap (entries_under rows) s.1) ∙ s.0.entries;
    moves = λ w x c rows s sample. subst (λ (d : List ℕ). WhereAt x d (exchange rows d x)) s.1
        (where_moves frame extremal w x rows s.0 sample);
    one = λ w c d rows a b. sym a.1
        ∙ ap (end_at rows) (one_first_log (over f rows) extremal (start_of (over f rows)) a.0.log b.0.log a.0.run b.0.run)
        ∙ b.1;
    listed = where_listed frame extremal;
  }

-- the law of runs whose log is wanted
pub wanted_runs : WantedRuns
wanted_runs f frame have extremal wanted =
    let exact = exact_kind f frame have (SamplesWhere f wanted) (WhereAt f wanted) (where_kind f wanted frame extremal) in
    record {
      exact = exact;
      drawn = are_drawn f frame (SamplesWhere f wanted) exact
          (λ w t g. let rows : Rows = rows_from f.weights t in
          sample_there f frame w (end_at f wanted rows g.rows.log) rows g.rows.shape (where_suits f wanted frame w rows g.rows)
          g.rows.entries g.rows.finished)
          (λ w x t g h.
          let rows : Rows = rows_from f.weights t in
          let same = one_first_log (over f rows) extremal (start_of (over f rows)) g.rows.log h.rows.log g.rows.run h.rows.run in
          sym g.rows.entries ∙ ap (λ (log : List LogRecord). entries_under rows (end_at f wanted rows log)) same
          ∙ h.rows.entries)
          have;
    }
