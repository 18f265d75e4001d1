-- The law of whole runs. Where a log is legal, each entry below its end was used by one record, and has the value that this
-- demands. So rows that finish by the log with a sample are those that begin with these entries and the sample's, and
-- all else of them is free.
use Rattle.std.proofs.Common.{inl, inr, ◌≡◌, ℕ, zero, suc, ◌+◌, ◌-◌, ◌*◌, ◌^◌, ◌<◌, ◌≤◌, cond, List, [], ◌∷◌, length, map, sum, get_or, refl, sym, ap, ap₂, subst, ◌∙◌, arith}
use Rattle.std.proofs.lemmas.Bool.{cases_Bool, cases_eq, cases_lt}
use Rattle.std.proofs.lemmas.Grind.{same_number_lists}
use Rattle.std.proofs.lemmas.List.{get_or-map, get_or-replicate}
use Rattle.std.proofs.lemmas.List.Elements.{All-contains}
use Rattle.std.proofs.Math.Nat.{mul_comm}
use Rattle.pop_model.specs.Stacks.{StackTable, row_of, value_at}
use Rattle.pop_model.specs.Popping.{AreWithin, Cube, cursor, names, pop}
use Rattle.pop_model.specs.Instances.{Instance}
use Rattle.pop_model.specs.Logs.{IsLegal, LogRecord, replay}
use Rattle.pop_model.specs.Runs.{start_of}
use Rattle.pop_model.proofs.Diamond.{named}
use Rattle.pop_model.proofs.PopLemmas.{cursor-pop, cursor-pop_other, length-pop}
use Rattle.pop_model.proofs.Replays.{length-replay, length-start, replay_within}
use Rattle.pop_samples.specs.Finishing.{AgreeBelow}
use Rattle.pop_samples.specs.Frames.{AreRows, Frame, IsFrame, IsSampleOf, Rows, over, stacks_of}
use Rattle.pop_samples.specs.Exchange.{entries_under}
use Rattle.pop_samples.specs.Weights.{sample_weight, weight_of}
use Rattle.pop_samples.proofs.Exchanging.{entry-under}
use Rattle.pop_samples.proofs.FrameRows.{fits_rows, rows_count, sample_finished, some_entry}
use Rattle.pop_samples.proofs.MovedLogs.{moved_log}
use Rattle.key_samples.specs.Counts.{Count}
use Rattle.key_samples.specs.Numbers.{HaveWeights, TableOf, rows_from}
use Rattle.key_samples.specs.Shares.{all_shares, shares}
use Rattle.key_samples.proofs.Counting.{same_count}
use Rattle.key_samples.proofs.KeyNumbers.{rows_are}
use Rattle.std.proofs.lemmas.List.{length-map}
use Rattle.drawn_samples.specs.WholeRuns.{RunNumbers, SamplesBy, end_of, log_weight, unread_numbers, used_by}
use Rattle.drawn_samples.proofs.Bumps.{Grows, belows, log_grows}
use Rattle.drawn_samples.proofs.Finished.{length-entries}
use Rattle.drawn_samples.proofs.FrontNumbers.{AreFronts, GivesFronts, fronts_count, rest_of}
use Rattle.drawn_samples.proofs.RowFronts.{Fits, below_none, front_at, front_below, fronts, fronts_at, fronts_rest, fronts_weight, length-front, length-fronts, sum_none}

-- ---- what a log reads

-- where a log is legal twice, both have the entries that it uses
agree_from : (i : Instance) (t : StackTable) → (c : List ℕ) (log : List LogRecord) → IsLegal i c log
    → IsLegal (record { stacks = t; family = i.family }) c log → (v k : ℕ) → v < length c → cursor c v ≤ k
    → k < cursor (replay c log) v → value_at i.stacks v k ≡ value_at t v k
agree_from i t c [] legal legal' v k below low high = absurd (omega (arith, low, high))
agree_from i t c (r ∷ log) legal legal' v k below low high =
    let e : Cube = r.event.cube in
    let rest : cursor (pop c e) v ≤ k → value_at i.stacks v k ≡ value_at t v k = λ le.
    agree_from i t (pop c e) log legal.1 legal'.1 v k (let size = length-pop c e in omega (arith, below, size)) le high in
    elim (cases_Bool (names e v)) [
      | inr not ↦
          let same = cursor-pop_other c e v not in
          rest (omega (arith, same, low))
      | inl is ↦
          let next : cursor (pop c e) v ≡ cursor c v + 1 =
          cursor-pop c e v below ∙ ap (λ b. cond b (cursor c v + 1) (cursor c v)) is in
          elim (cases_eq k (cursor c v)) [
            | inr other ↦ rest (omega (arith, next, low, other))
            | inl here ↦
                let x = named e v is in
                let at : value_at i.stacks v (cursor c v) ≡ x.0 =
                All-contains (λ (q : ℕ × ℕ). value_at i.stacks q.0 (cursor c q.0) ≡ q.1) e (v, x.0)
                legal.0.poppable.occurs x.1 in
                let at' : value_at t v (cursor c v) ≡ x.0 =
                All-contains (λ (q : ℕ × ℕ). value_at t q.0 (cursor c q.0) ≡ q.1) e (v, x.0)
                legal'.0.poppable.occurs x.1 in
                let same : value_at i.stacks v (cursor c v) ≡ value_at t v (cursor c v) = at ∙ sym at' in
                subst (λ (n : ℕ). value_at i.stacks v n ≡ value_at t v n) (sym here) same
          ]
    ]

-- ---- the rows of a log

module _ (f : Frame) (frame : IsFrame f) (log : List LogRecord) (rows : Rows) (shape : AreRows f.weights f.heights rows)
    (legal : IsLegal (over f rows) (start_of (over f rows)) log) (w : List ℕ) (sample : IsSampleOf f w) where
  -- the end of the log
  abbrev c : List ℕ
  c = end_of f log

  -- there is a row for each variable
  abbrev count : length rows ≡ length f.weights
  count = rows_count f frame rows shape

  -- and a cursor
  size : length c ≡ length rows
  size = length-replay (start_of (over f rows)) log ∙ length-start (over f rows) ∙ sym count

  -- within it
  inside : (v : ℕ) → v < length rows → cursor c v < length (row_of rows v)
  inside v below =
      let start : List ℕ = start_of (over f rows) in
      let low : AreWithin (stacks_of f rows) start = λ u u_below.
      let none : cursor start u ≡ 0 = get_or-replicate (length f.weights) u 0 0 u_below in
      let some = some_entry f frame rows shape u (let n = count in omega (arith, u_below, n)) in
      omega (arith, none, some) in
      replay_within (over f rows) start log (sym (length-start (over f rows))) low legal v
      (let n = count in omega (arith, below, n))

  -- so they suit
  fits : Fits rows c w
  fits = record {
    cursors = size;
    values = sample.count ∙ sym count;
    within = λ v below. let low = inside v below in omega (arith, low);
  }

  -- the entries with which rows that finish by the log begin
  abbrev begun : Rows
  begun = fronts rows c w

  -- rows of the frame that begin so
  abbrev Begins : Rows → Type 0
  Begins made = (v k : ℕ) → v < length begun → k < length (row_of begun v)
      → get_or (row_of made v) k 0 ≡ get_or (row_of begun v) k 0

  -- such an entry, below the cursor
  entry_below : (v k : ℕ) → v < length rows → k < cursor c v → get_or (row_of begun v) k 0 ≡ get_or (row_of rows v) k 0
  entry_below v k below less =
      ap (λ (row : List ℕ). get_or row k 0) (fronts_at rows c w fits v below)
      ∙ front_below (row_of rows v) (cursor c v) (get_or w v 0) k (fits.within v below) less

  -- and at it
  entry_at : (v : ℕ) → v < length rows → get_or (row_of begun v) (cursor c v) 0 ≡ get_or w v 0
  entry_at v below =
      ap (λ (row : List ℕ). get_or row (cursor c v) 0) (fronts_at rows c w fits v below)
      ∙ front_at (row_of rows v) (cursor c v) (get_or w v 0) (fits.within v below)

  -- how many there are
  begun_high : (v : ℕ) → v < length rows → length (row_of begun v) ≡ suc (cursor c v)
  begun_high v below =
      ap (λ (row : List ℕ). length row) (fronts_at rows c w fits v below)
      ∙ length-front (row_of rows v) (cursor c v) (get_or w v 0) (fits.within v below)

  -- rows that finish by the log with the sample begin so
  to_begins : (made : Rows) → SamplesBy f log w made → Begins made
  to_begins made s v k less within =
      let long = length-fronts rows c w fits in
      let below : v < length rows = omega (arith, less, long) in
      let high = begun_high v below in
      let n : length made ≡ length f.weights = rows_count f frame made s.shape in
      elim (cases_lt k (cursor c v)) [
        | inl low ↦
            let none : cursor (start_of (over f rows)) v ≡ 0 =
            get_or-replicate (length f.weights) v 0 0 (let m = count in omega (arith, below, m)) in
            let first = length-start (over f rows) in
            let same : get_or (row_of rows v) k 0 ≡ get_or (row_of made v) k 0 =
            agree_from (over f rows) (stacks_of f made) (start_of (over f rows)) log legal s.finishes.legal v k
            (let m = count in omega (arith, below, m, first)) (omega (arith, none)) low in
            sym same ∙ sym (entry_below v k below low)
        | inr past ↦
            let here : k ≡ cursor c v = omega (arith, past, within, high) in
            let made_at : get_or (row_of made v) (cursor c v) 0 ≡ get_or w v 0 =
            sym (entry-under made c (let m = count in let z = size in omega (arith, n, m, z)) v
            (let m = count in omega (arith, below, n, m)))
            ∙ ap (λ (u : List ℕ). get_or u v 0) s.entries in
            subst (λ (j : ℕ). get_or (row_of made v) j 0 ≡ get_or (row_of begun v) j 0) (sym here)
            (made_at ∙ sym (entry_at v below))
      ]

  -- and back
  from_begins : (made : Rows) → AreRows f.weights f.heights made → Begins made → SamplesBy f log w made
  from_begins made is begins =
      let n : length made ≡ length f.weights = rows_count f frame made is in
      let long = length-fronts rows c w fits in
      let of_made : length c ≡ length made = let m = count in let z = size in omega (arith, n, m, z) in
      let entries : entries_under made c ≡ w =
      same_number_lists (entries_under made c) w
      (length-entries made c of_made ∙ size ∙ sym fits.values)
      (λ v less.
      let whole = length-entries made c of_made in
      let z = size in
      let below : v < length rows = omega (arith, less, whole, z) in
      let high = begun_high v below in
      entry-under made c of_made v (omega (arith, less, whole, of_made))
      ∙ begins v (cursor c v) (omega (arith, below, long)) (omega (arith, high))
      ∙ entry_at v below) in
      let agree : AgreeBelow c (stacks_of f rows) (stacks_of f made) = record {
        count = refl;
        values = λ v k less. elim (cases_lt v (length rows)) [
          | inl below ↦
              let high = begun_high v below in
              sym (entry_below v k below less)
              ∙ sym (begins v k (omega (arith, below, long)) (omega (arith, high, less)))
          | inr past ↦
              let z = size in
              let none : cursor c v ≡ 0 = get_past c v (omega (arith, past, z)) in
              absurd (omega (arith, less, none))
        ];
      } in
      let within : AreWithin (stacks_of f made) c = λ v below.
      let m = count in
      let v_below : v < length rows = omega (arith, below, m) in
      let low = inside v v_below in
      let same : length (row_of made v) ≡ length (row_of rows v) = same_height made is v in
      omega (arith, low, same) in
      record {
        shape = is;
        finishes = record {
          legal = moved_log (over f rows) (stacks_of f made) (fits_rows f.weights rows f.family frame.fits)
              (start_of (over f rows)) (length-start (over f rows)) log agree within legal;
          leads = refl;
          finished = sample_finished f frame made is c w of_made sample entries;
        };
        entries = entries;
      }
    where
      get_past : (xs : List ℕ) (v : ℕ) → length xs ≤ v → cursor xs v ≡ 0
      get_past [] v le = refl
      get_past (x ∷ xs) zero le = absurd (omega (arith, le))
      get_past (x ∷ xs) (suc v) le = get_past xs v (omega (arith, le))

      row_high : (some : Rows) (v : ℕ) → get_or (map length some) v 0 ≡ length (row_of some v)
      row_high [] v = refl
      row_high (row ∷ some) zero = refl
      row_high (row ∷ some) (suc v) = row_high some v

      same_height : (made : Rows) → AreRows f.weights f.heights made → (v : ℕ)
          → length (row_of made v) ≡ length (row_of rows v)
      same_height made is v =
          sym (row_high made v) ∙ ap (λ (ns : List ℕ). get_or ns v 0) (is.lengths ∙ sym shape.lengths) ∙ row_high rows v

  -- so the tables are those whose rows begin so
  module _ (have : HaveWeights f.weights) where
    -- rows may begin so
    are_fronts : AreFronts f.weights f.heights begun
    are_fronts = record {
      count = length-fronts rows c w fits ∙ count;
      heights_count = frame.count;
      low = λ v less.
          let long = length-fronts rows c w fits in
          let below : v < length rows = omega (arith, less, long) in
          let high = begun_high v below in
          let low = inside v below in
          let tall : get_or f.heights v 0 ≡ length (row_of rows v) =
          ap (λ (ns : List ℕ). get_or ns v 0) (sym shape.lengths)
          ∙ get_or-map (λ (row : List ℕ). length row) rows v [] 0 below in
          omega (arith, high, low, tall);
      values = λ v k less within.
          let long = length-fronts rows c w fits in
          let below : v < length rows = omega (arith, less, long) in
          let high = begun_high v below in
          let low = inside v below in
          elim (cases_lt k (cursor c v)) [
            | inl before ↦
                let is = entry_below v k below before in
                let value = shape.values v k below (omega (arith, before, low)) in
                omega (arith, is, value)
            | inr past ↦
                let here : k ≡ cursor c v = omega (arith, past, within, high) in
                let is = entry_at v below in
                let same = ap (λ (j : ℕ). get_or (row_of begun v) j 0) here in
                let size_w = fits.values in
                let value = sample.values v (omega (arith, below, size_w)) in
                omega (arith, is, same, value)
          ];
    }

    -- they are so many
    run_count : Count (TableOf f (SamplesBy f log w))
        (weight_of (all_shares f.weights) begun * (2 ^ 64) ^ rest_of f.heights begun)
    run_count =
        same_count (GivesFronts f.weights f.heights begun) (TableOf f (SamplesBy f log w))
        (weight_of (all_shares f.weights) begun * (2 ^ 64) ^ rest_of f.heights begun)
        (fronts_count f.weights have f.heights begun are_fronts)
        (λ t g. record {
          numbers = g.numbers;
          rows = from_begins (rows_from f.weights t) (rows_are f.weights have f.heights frame.count t g.numbers) g.begins;
        })
        (λ t g. record { numbers = g.numbers; begins = to_begins (rows_from f.weights t) g.rows })

    -- and that is the product that the log says
    pub run_numbers_at : Count (TableOf f (SamplesBy f log w))
        (log_weight (all_shares f.weights) log * sample_weight (all_shares f.weights) w * unread_numbers f log)
    run_numbers_at =
        let weights : List (List ℕ) = all_shares f.weights in
        let many : length weights ≡ length rows = length-map f.weights shares ∙ sym count in
        let start : List ℕ = start_of (over f rows) in
        let grown : Grows weights rows start c (log_weight weights log) (used_by log) =
        log_grows f frame rows weights many (sym count) start log (length-start (over f rows) ∙ sym count) legal in
        let none = below_none weights rows (length f.weights) in
        let one : weight_of weights (belows rows c) ≡ log_weight weights log =
        grown.grows ∙ ap (λ (n : ℕ). n * log_weight weights log) none
        ∙ (let e = mul_comm 1 (log_weight weights log) in let s : 1 * log_weight weights log ≡ log_weight weights log = omega (arith, e) in s) in
        let weight : weight_of weights begun ≡ log_weight weights log * sample_weight weights w =
        fronts_weight weights rows c w many fits ∙ ap (λ (n : ℕ). n * sample_weight weights w) one in
        let rest = fronts_rest f.heights rows c w shape.lengths fits inside in
        let adds = grown.adds in
        let zeros = sum_none (length f.weights) in
        let m = count in
        let left : rest_of f.heights begun ≡ sum f.heights - used_by log - length f.weights =
        omega (arith, rest, adds, zeros, m) in
        subst (Count (TableOf f (SamplesBy f log w)))
        (ap₂ (λ (a b : ℕ). a * (2 ^ 64) ^ b) weight left) run_count

-- the law of whole runs
pub run_numbers : RunNumbers
run_numbers f frame have log (rows, shape, legal) w sample = run_numbers_at f frame log rows shape legal w sample have
