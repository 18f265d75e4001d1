-- Where rows finish, the entries at the cursors are read only to see that no event occurs. So another sample in their
-- place leaves the cursors and each log that finishes there, and the first put back gives the rows again.
use Rattle.std.proofs.Common.{inl, inr, ◌≡◌, ◌≢◌, ℕ, ◌*◌, ◌<◌, List, [], length, get_or, set, refl, sym, ap, subst, ◌∙◌, arith, Contains}
use Rattle.std.proofs.lemmas.Bool.{cases_eq, cases_lt}
use Rattle.std.proofs.lemmas.List.{length-set, get_or-set_same, get_or-set_other, get_or_past}
use Rattle.std.proofs.lemmas.List.Elements.{All-contains}
use Rattle.pop_model.specs.Stacks.{StackTable, value_at, row_of}
use Rattle.pop_model.specs.Popping.{AreWithin, cursor}
use Rattle.pop_model.specs.Instances.{Instance}
use Rattle.pop_model.specs.Logs.{LogRecord}
use Rattle.pop_model.specs.Runs.{IsFinished, IsFirstEnd}
use Rattle.pop_model.proofs.Diamond.{names_it, all_by_members}
use Rattle.pop_samples.specs.Finishing.{AgreeBelow, FinishesBy}
use Rattle.pop_samples.specs.Frames.{AreRows, Frame, IsFrame, IsSampleOf, Rows, over, stacks_of}
use Rattle.pop_samples.specs.Exchange.{SamplesAt, entries_under, exchange}
use Rattle.pop_samples.specs.Weights.{sample_weight, weight_of}
use Rattle.pop_samples.specs.ExactLaws.{ExchangedEnds, Exchanges}
use Rattle.pop_samples.proofs.MovedLogs.{known_variable}
use Rattle.pop_samples.proofs.Finishing.{finishes_moved, first_finishes_by, runs_like}
use Rattle.pop_samples.proofs.FrameRows.{SuitsEnd, fits_rows, rows_count, suits_end, suits_values}
use Rattle.pop_samples.proofs.Exchanging.{Suits, entries-exchange, exchange-back, length-exchange, lengths-exchange, row-exchange, weight-exchange}

-- the exchange leaves the entries below the cursors
agree_below : (f : Frame) (rows : Rows) (c x : List ℕ) → Suits rows c x
    → AgreeBelow c (stacks_of f rows) (stacks_of f (exchange rows c x))
agree_below f rows c x suits = record {
  count = refl;
  values = λ v k less. elim (cases_lt v (length rows)) [
    | inl below ↦
        let other : k ≢ cursor c v = λ e. absurd (omega (arith, less, e)) in
        sym (ap (λ (row : List ℕ). get_or row k 0) (row-exchange rows c x suits v below)
        ∙ get_or-set_other (row_of rows v) (cursor c v) k (get_or x v 0) 0 other)
    | inr past ↦
        let size = suits.cursors in
        let none : cursor c v ≡ 0 = get_or_past c v 0 (omega (arith, past, size)) in
        absurd (omega (arith, less, none))
  ];
}

-- and the heights
height-exchange : (rows : Rows) (c x : List ℕ) → Suits rows c x → (v : ℕ) → v < length rows
    → length (row_of (exchange rows c x) v) ≡ length (row_of rows v)
height-exchange rows c x suits v below =
    ap (λ (row : List ℕ). length row) (row-exchange rows c x suits v below)
    ∙ length-set (row_of rows v) (cursor c v) (get_or x v 0)

-- the entry at the cursor is the new one
current-exchange : (rows : Rows) (c x : List ℕ) → Suits rows c x → (v : ℕ) → v < length rows
    → get_or (row_of (exchange rows c x) v) (cursor c v) 0 ≡ get_or x v 0
current-exchange rows c x suits v below =
    ap (λ (row : List ℕ). get_or row (cursor c v) 0) (row-exchange rows c x suits v below)
    ∙ get_or-set_same (row_of rows v) (cursor c v) (get_or x v 0) 0 (suits.within v below)

-- at the new entries no event occurs
finished-exchange : (f : Frame) → IsFrame f → (rows : Rows) → AreRows f.weights f.heights rows → (c x : List ℕ)
    → Suits rows c x
    → IsSampleOf f x → IsFinished (over f (exchange rows c x)) c
finished-exchange f frame rows shape c x suits sample e is occurs =
    let t : StackTable = stacks_of f (exchange rows c x) in
    let count = rows_count f frame rows shape in
    let at : (p : ℕ × ℕ) → Contains e.cube p → get_or x p.0 0 ≡ p.1 = λ p has.
    let below = known_variable (stacks_of f []) f.family frame.fits e is p.0 (names_it e.cube p has) in
    sym (current-exchange rows c x suits p.0 (omega (arith, below, count)))
    ∙ All-contains (λ (q : ℕ × ℕ). value_at t q.0 (cursor c q.0) ≡ q.1) e.cube p occurs has in
    sample.sample e is (all_by_members (λ (p : ℕ × ℕ). get_or x p.0 0 ≡ p.1) e.cube at)

-- the new entries are values
shape-exchange : (f : Frame) → IsFrame f → (rows : Rows) → AreRows f.weights f.heights rows → (c x : List ℕ)
    → Suits rows c x
    → IsSampleOf f x → AreRows f.weights f.heights (exchange rows c x)
shape-exchange f frame rows shape c x suits sample =
    record {
      lengths = lengths-exchange rows c x ∙ shape.lengths;
      values = λ v k below inside.
          let size : length (exchange rows c x) ≡ length rows = length-exchange rows c x in
          let v_in : v < length rows = omega (arith, below, size) in
          let high = height-exchange rows c x suits v v_in in
          let k_in : k < length (row_of rows v) = omega (arith, inside, high) in
          let at : get_or (row_of (exchange rows c x) v) k 0
          ≡ get_or (set (row_of rows v) (cursor c v) (get_or x v 0)) k 0 =
          ap (λ (row : List ℕ). get_or row k 0) (row-exchange rows c x suits v v_in) in
          elim (cases_eq k (cursor c v)) [
            | inl here ↦
                let new : get_or (row_of (exchange rows c x) v) k 0 ≡ get_or x v 0 =
                ap (λ (n : ℕ). get_or (row_of (exchange rows c x) v) n 0) here
                ∙ current-exchange rows c x suits v v_in in
                let count = suits.values in
                let value = sample.values v (omega (arith, v_in, count)) in
                omega (arith, new, value)
            | inr other ↦
                let old : get_or (row_of (exchange rows c x) v) k 0 ≡ get_or (row_of rows v) k 0 =
                at ∙ get_or-set_other (row_of rows v) (cursor c v) k (get_or x v 0) 0 other in
                let value = shape.values v k v_in k_in in
                omega (arith, old, value)
          ];
    }

-- What the exchange of another sample leaves of rows, wherever the cursors are: rows with the same entries below these,
-- at which the other sample is, so that no event occurs there. The exchange goes back, and the weights change as those
-- of the samples.
pub record Leaves (f : Frame) (w x c : List ℕ) (rows : Rows) : Type 0 where
  pub shape : AreRows f.weights f.heights (exchange rows c x)
  pub agree : AgreeBelow c (stacks_of f rows) (stacks_of f (exchange rows c x))
  pub within : AreWithin (stacks_of f (exchange rows c x)) c
  pub finished : IsFinished (over f (exchange rows c x)) c
  pub entries : entries_under (exchange rows c x) c ≡ x
  pub back : exchange (exchange rows c x) c w ≡ rows
  pub weight : weight_of f.weights (exchange rows c x) * sample_weight f.weights w
      ≡ weight_of f.weights rows * sample_weight f.weights x

-- it leaves that at all cursors within the rows
pub leaves_at : (f : Frame) → IsFrame f → (w x c : List ℕ) (rows : Rows) → AreRows f.weights f.heights rows
    → SuitsEnd f rows c → entries_under rows c ≡ w → IsSampleOf f x → Leaves f w x c rows
leaves_at f frame w x c rows shape end entries sample =
    let new : Rows = exchange rows c x in
    let count : length rows ≡ length f.weights = rows_count f frame rows shape in
    let suits : Suits rows c x = suits_values f frame rows shape c x end sample.count in
    record {
      shape = shape-exchange f frame rows shape c x suits sample;
      agree = agree_below f rows c x suits;
      within = λ v below.
          let v_in : v < length rows = omega (arith, below, count) in
          let high = height-exchange rows c x suits v v_in in
          let low = end.within v v_in in
          omega (arith, high, low);
      finished = finished-exchange f frame rows shape c x suits sample;
      entries = entries-exchange rows c x suits;
      back = subst (λ (u : List ℕ). exchange new c u ≡ rows) entries (exchange-back rows c x suits);
      weight = subst
          (λ (u : List ℕ). weight_of f.weights new * sample_weight f.weights u
          ≡ weight_of f.weights rows * sample_weight f.weights x)
          entries
          (weight-exchange f.weights rows c x (sym count) suits);
    }

-- so it does where logs finish, and each such log finishes there after the exchange too
pub exchange_leaves : (f : Frame) → IsFrame f → (w x c : List ℕ) (rows : Rows) → SamplesAt f w c rows → IsSampleOf f x
    → Exchanges f w x c rows
exchange_leaves f frame w x c rows s sample =
    let i : Instance = over f rows in
    let new : Rows = exchange rows c x in
    let left : Leaves f w x c rows =
    leaves_at f frame w x c rows s.shape (suits_end f frame rows s.shape c s.finishes) s.entries sample in
    let same_log : (log : List LogRecord) → FinishesBy i log c → FinishesBy (over f new) log c = λ log by.
    finishes_moved i (stacks_of f new) (fits_rows f.weights rows f.family frame.fits) log c by left.agree left.within
    left.finished in
    record {
      samples = record {
        shape = left.shape;
        finishes = (s.finishes.0, same_log s.finishes.0 s.finishes.1);
        entries = left.entries;
      };
      same_log = same_log;
      back = left.back;
      weight = left.weight;
    }

-- the law of the one-thread run: its log finishes after the exchange too
pub exchanged_ends : ExchangedEnds
exchanged_ends f frame extremal x c pops rows shape is sample =
    let log : List LogRecord = is.run.0 in
    let by : FinishesBy (over f rows) log c = first_finishes_by (over f rows) c pops is in
    let w : List ℕ = entries_under rows c in
    let s : SamplesAt f w c rows = record { shape = shape; finishes = (log, by); entries = refl } in
    let to : Exchanges f w x c rows = exchange_leaves f frame w x c rows s sample in
    let like = runs_like (over f (exchange rows c x)) extremal log c (to.same_log log by) in
    record {
      end = subst (λ (n : ℕ). IsFirstEnd (over f (exchange rows c x)) c n []) (sym is.run.3) like.first;
      entries = to.samples.entries;
    }
