-- Tries over the same rows. A run of the first entries that ends with a sample is that of the whole rows, by the same
-- log. And the run of the whole rows is that of the first entries, if these reach beyond its cursors. So the first try
-- that gives a sample gives that of the whole rows, and it does so exactly if the log of these is wanted in some try that
-- its cursors are within: what is kept are runs whose log is wanted.
use Rattle.std.proofs.Common.{inl, inr, ◌≡◌, ℕ, zero, suc, ◌<◌, Bool, true, false, ◌&&◌, ◌||◌, nat_lt, List, [], ◌∷◌, length, replicate, get_or, All, refl, sym, ap, subst, ◌∙◌, arith}
use Rattle.std.specs.Cmp.Derive.{both_true}
use Rattle.std.proofs.lemmas.Bool.{and_parts, cases_Bool, cases_lt, lt-ltb, ltb-true, or_cases, or_left, or_right}
use Rattle.std.proofs.lemmas.Grind.{same_number_lists}
use Rattle.std.proofs.lemmas.List.{get_or_past}
use Rattle.std.proofs.lemmas.List.Elements.{All-contains}
use Rattle.pop_model.specs.Stacks.{row_of, value_at}
use Rattle.pop_model.specs.Popping.{AreWithin, cursor}
use Rattle.pop_model.specs.Extremal.{IsExtremal}
use Rattle.pop_model.specs.Logs.{LogRecord, replay}
use Rattle.pop_model.specs.Runs.{IsFinished, start_of}
use Rattle.pop_model.proofs.Diamond.{all_by_members, names_it}
use Rattle.pop_model.proofs.Replays.{length-replay, length-start}
use Rattle.pop_samples.specs.Finishing.{AgreeBelow}
use Rattle.pop_samples.specs.Exchange.{entries_under}
use Rattle.pop_samples.specs.Frames.{AreRows, Frame, IsFrame, Rows, over, stacks_of}
use Rattle.pop_samples.proofs.Conses.{same_kind}
use Rattle.pop_samples.proofs.Exchanging.{entry-under}
use Rattle.pop_samples.proofs.FrameRows.{fits_rows, rows_count, some_entry, suits_end}
use Rattle.pop_samples.proofs.MovedLogs.{known_variable}
use Rattle.key_samples.specs.Numbers.{HaveWeights, rows_from}
use Rattle.key_samples.proofs.Exact.{exact_kind}
use Rattle.key_samples.proofs.RowKinds.{IsKind}
use Rattle.drawn_samples.specs.Grown.{AreLower, FirstGives, GrownRuns, GrowsTo, RunTry, TryGives, cut}
use Rattle.drawn_samples.specs.Retried.{frame_of}
use Rattle.drawn_samples.specs.Where.{SamplesWhere}
use Rattle.drawn_samples.specs.WhereLaws.{AreExactlyDrawn}
use Rattle.drawn_samples.proofs.Cut.{cut_again, cut_extends, cut_shape, entry-cut, height-cut, length-cut, lower_count}
use Rattle.drawn_samples.proofs.Drawing.{are_drawn}
use Rattle.drawn_samples.proofs.Finished.{length-entries}
use Rattle.drawn_samples.proofs.FirstRuns.{first_run_moved, one_first_log}
use Rattle.drawn_samples.proofs.Taller.{taller_first}
use Rattle.drawn_samples.proofs.WantedRuns.{WhereAt, not_both, wanted_runs, where_kind, where_samples}

-- ---- cursors within heights

-- each of them is below its height
abbrev are_below : List ℕ → List ℕ → Bool
are_below [] heights = true
are_below (k ∷ c) [] = false
are_below (k ∷ c) (h ∷ heights) = nat_lt k h && are_below c heights

-- so it is found
below_found : (c heights : List ℕ) → length c ≡ length heights
    → ((v : ℕ) → v < length c → get_or c v 0 < get_or heights v 0) → are_below c heights ≡ true
below_found [] heights size low = refl
below_found (k ∷ c) [] size low = absurd (omega (arith, size))
below_found (k ∷ c) (h ∷ heights) size low =
    both_true (lt-ltb k h (low 0 (omega arith)))
    (below_found c heights (omega (arith, size)) (λ v less. low (suc v) (omega (arith, less))))

-- and so it is
found_below : (c heights : List ℕ) → are_below c heights ≡ true → (v : ℕ) → v < length c
    → get_or c v 0 < get_or heights v 0
found_below [] heights is v less = absurd (omega (arith, less))
found_below (k ∷ c) [] is v less = absurd (cc)
found_below (k ∷ c) (h ∷ heights) is zero less = ltb-true k h (and_parts (nat_lt k h) (are_below c heights) is).0
found_below (k ∷ c) (h ∷ heights) is (suc v) less =
    found_below c heights (and_parts (nat_lt k h) (are_below c heights) is).1 v (omega (arith, less))

module _ (f : Frame) (frame : IsFrame f) (extremal : IsExtremal f.family) where
  -- the cursors at the end of a log
  abbrev end_of : List LogRecord → List ℕ
  end_of log = replay (replicate (length f.weights) 0) log

  -- the log is wanted, and stays within the heights of the try
  abbrev reaches : RunTry → List LogRecord → Bool
  reaches t log = are_below (end_of log) t.heights && t.wanted log

  -- that of some try
  abbrev kept : List RunTry → List LogRecord → Bool
  kept [] log = false
  kept (t ∷ tries) log = reaches t log || kept tries log

  -- a try has a frame
  try_frame : (t : RunTry) → AreLower t.heights f.heights → IsFrame (frame_of f t)
  try_frame t low = record {
    family = frame.family;
    fits = frame.fits;
    count = low.size ∙ frame.count;
    some = low.some;
  }

  module _ (rows : Rows) (shape : AreRows f.weights f.heights rows) where
    -- the cursors at an end are as many as rows
    end_size : (log : List LogRecord) → length (end_of log) ≡ length rows
    end_size log =
        length-replay (start_of (over f rows)) log ∙ length-start (over f rows) ∙ sym (rows_count f frame rows shape)

    -- what a try gives, the whole rows end with, by the same log
    to_whole : (t : RunTry) → AreLower t.heights f.heights → (w : List ℕ) → TryGives f t w rows
        → SamplesWhere f (reaches t) w rows
    to_whole t low w s =
        let few : Rows = cut t.heights rows in
        let tried : Frame = frame_of f t in
        let small : IsFrame tried = try_frame t low in
        let c : List ℕ = end_of s.log in
        let count : length few ≡ length rows = length-cut f.weights f.heights t.heights low rows shape in
        let fits = fits_rows f.weights few f.family frame.fits in
        let some : (v : ℕ) → v < length f.weights → 0 < length (row_of few v) = λ v below.
        let many = rows_count f frame rows shape in
        some_entry tried small few s.shape v (omega (arith, below, count, many)) in
        let alike =
        taller_first (over tried few) fits some extremal (stacks_of f rows)
        (cut_extends f.weights f.heights t.heights low rows shape f refl) s.log
        (record { run = s.run; finished = s.finished }) in
        let suits = suits_end tried small few s.shape c (where_samples tried t.wanted w few s).finishes in
        let size : length c ≡ length rows = end_size s.log in
        let inside : (v : ℕ) → v < length rows → get_or c v 0 < get_or t.heights v 0 = λ v below.
        let within = suits.within v (omega (arith, below, count)) in
        let high = height-cut f.weights f.heights t.heights low rows shape v below in
        omega (arith, within, high) in
        let entries : entries_under rows c ≡ entries_under few c =
        same_number_lists (entries_under rows c) (entries_under few c)
        (length-entries rows c size ∙ sym (length-entries few c (size ∙ sym count))) (λ v less.
        let long = length-entries rows c size in
        let below : v < length rows = omega (arith, less, long, size) in
        entry-under rows c size v below
        ∙ sym (entry-cut f.weights f.heights t.heights low rows shape v (cursor c v) below (inside v below))
        ∙ sym (entry-under few c (size ∙ sym count) v (omega (arith, below, count)))) in
        let many = lower_count f.weights f.heights t.heights low rows shape in
        record {
          shape = shape;
          log = s.log;
          run = alike.finishes.run;
          finished = alike.finishes.finished;
          entries = entries ∙ s.entries;
          wanted_log = both_true (below_found c t.heights (size ∙ sym many)
              (λ v less. inside v (omega (arith, less, size)))) s.wanted_log;
        }

    -- and back
    of_whole : (t : RunTry) → AreLower t.heights f.heights → (wanted : List LogRecord → Bool) (w : List ℕ)
        → (s : SamplesWhere f wanted w rows) → reaches t s.log ≡ true → TryGives f t w rows
    of_whole t low wanted w s reach =
        let few : Rows = cut t.heights rows in
        let tried : Frame = frame_of f t in
        let c : List ℕ = end_of s.log in
        let both = and_parts (are_below c t.heights) (t.wanted s.log) reach in
        let count : length few ≡ length rows = length-cut f.weights f.heights t.heights low rows shape in
        let variables : length rows ≡ length f.weights = rows_count f frame rows shape in
        let size : length c ≡ length rows = end_size s.log in
        let inside : (v : ℕ) → v < length rows → get_or c v 0 < get_or t.heights v 0 =
        λ v below. found_below c t.heights both.0 v (omega (arith, below, size)) in
        let at : (v : ℕ) → v < length rows
        → get_or (row_of few v) (cursor c v) 0 ≡ get_or (row_of rows v) (cursor c v) 0 =
        λ v below. entry-cut f.weights f.heights t.heights low rows shape v (cursor c v) below (inside v below) in
        let agree : AgreeBelow c (stacks_of f rows) (stacks_of tried few) = record {
          count = refl;
          values = λ v k less. elim (cases_lt v (length rows)) [
            | inl below ↦
                let low_k = inside v below in
                sym (entry-cut f.weights f.heights t.heights low rows shape v k below (omega (arith, less, low_k)))
            | inr past ↦
                let none : cursor c v ≡ 0 = get_or_past c v 0 (omega (arith, past, size)) in
                absurd (omega (arith, less, none))
          ];
        } in
        let within : AreWithin (stacks_of tried few) c = λ v below.
        let known : v < length rows = omega (arith, below, variables) in
        let high = height-cut f.weights f.heights t.heights low rows shape v known in
        let low_v = inside v known in
        omega (arith, high, low_v) in
        let finished : IsFinished (over tried few) c = λ e event occurs.
        s.finished e event (all_by_members (λ (p : ℕ × ℕ). value_at (stacks_of f rows) p.0 (cursor c p.0) ≡ p.1) e.cube
        (λ p has.
        let known = known_variable (stacks_of f []) f.family frame.fits e event p.0 (names_it e.cube p has) in
        sym (at p.0 (omega (arith, known, variables)))
        ∙ All-contains (λ (q : ℕ × ℕ). value_at (stacks_of tried few) q.0 (cursor c q.0) ≡ q.1) e.cube p occurs has)) in
        let entries : entries_under few c ≡ entries_under rows c =
        same_number_lists (entries_under few c) (entries_under rows c)
        (length-entries few c (size ∙ sym count) ∙ sym (length-entries rows c size)) (λ v less.
        let long = length-entries few c (size ∙ sym count) in
        let below : v < length rows = omega (arith, less, long, size) in
        entry-under few c (size ∙ sym count) v (omega (arith, below, count)) ∙ at v below
        ∙ sym (entry-under rows c size v below)) in
        record {
          shape = cut_shape f.weights f.heights t.heights low rows shape;
          log = s.log;
          run = first_run_moved (over f rows) (stacks_of tried few) extremal
              (fits_rows f.weights rows f.family frame.fits) s.log s.run s.finished agree within finished refl;
          finished = finished;
          entries = entries ∙ s.entries;
          wanted_log = both.1;
        }

    -- the whole rows have one log
    one_log : (wanted other : List LogRecord → Bool) (w x : List ℕ) (s : SamplesWhere f wanted w rows)
        (u : SamplesWhere f other x rows) → s.log ≡ u.log
    one_log wanted other w x s u =
        one_first_log (over f rows) extremal (start_of (over f rows)) s.log u.log s.run u.run

    -- so they have one sample
    one_sample : (wanted other : List LogRecord → Bool) (w x : List ℕ) → SamplesWhere f wanted w rows
        → SamplesWhere f other x rows → w ≡ x
    one_sample wanted other w x s u =
        sym s.entries ∙ ap (λ (log : List LogRecord). entries_under rows (end_of log)) (one_log wanted other w x s u)
        ∙ u.entries

    -- what is kept of tries, the whole rows end with
    first_whole : (tries : List RunTry) → All (λ t. AreLower t.heights f.heights) tries → (w : List ℕ)
        → FirstGives f tries w rows → SamplesWhere f (kept tries) w rows
    first_whole [] low w gives = absurd gives
    first_whole (t ∷ tries) low w (inl gives) =
        let s = to_whole t (low 0 t (omega arith)) w gives in
        record {
          shape = s.shape;
          log = s.log;
          run = s.run;
          finished = s.finished;
          entries = s.entries;
          wanted_log = or_left (reaches t s.log) (kept tries s.log) s.wanted_log;
        }
    first_whole (t ∷ tries) low w (inr (never, later)) =
        let s = first_whole tries (λ k d less. low (suc k) d (omega (arith, less))) w later in
        record {
          shape = s.shape;
          log = s.log;
          run = s.run;
          finished = s.finished;
          entries = s.entries;
          wanted_log = or_right (reaches t s.log) (kept tries s.log) s.wanted_log;
        }

    -- and back
    whole_first : (tries : List RunTry) → All (λ t. AreLower t.heights f.heights) tries
        → (wanted : List LogRecord → Bool) (w : List ℕ)
        → (s : SamplesWhere f wanted w rows) → kept tries s.log ≡ true → FirstGives f tries w rows
    whole_first [] low wanted w s is = absurd (cc)
    whole_first (t ∷ tries) low wanted w s is = elim (cases_Bool (reaches t s.log)) [
      | inl reach ↦ inl (of_whole t (low 0 t (omega arith)) wanted w s reach)
      | inr not ↦ inr (
        λ x gives.
            let u = to_whole t (low 0 t (omega arith)) x gives in
            not_both (ap (reaches t) (one_log wanted (reaches t) w x s u) ∙ u.wanted_log) not,
        whole_first tries (λ k d less. low (suc k) d (omega (arith, less))) wanted w s (elim (or_cases _ _ is) [
          | inl reach ↦ absurd (not_both reach not)
          | inr later ↦ later
        ]),
      )
    ]

  module _ (tries : List RunTry) (low : All (λ t. AreLower t.heights f.heights) tries) where
    -- rows with which tries end are runs whose log is wanted
    grown_where : (w : List ℕ) (rows : Rows) → GrowsTo f tries w rows → SamplesWhere f (kept tries) w rows
    grown_where w rows g = first_whole rows g.shape tries low w g.first

    -- and back
    where_grown : (w : List ℕ) (rows : Rows) → SamplesWhere f (kept tries) w rows → GrowsTo f tries w rows
    where_grown w rows s =
        record { shape = s.shape; first = whole_first rows s.shape tries low (kept tries) w s s.wanted_log }

    -- so they are a kind
    grown_kind : IsKind f (GrowsTo f tries) (WhereAt f (kept tries))
    grown_kind =
        let kind = where_kind f (kept tries) frame extremal in
        record {
          places = λ w rows. (
            λ g. (kind.places w rows).0 (grown_where w rows g),
            λ at. where_grown w rows ((kind.places w rows).1 at),
          );
          shape = kind.shape;
          suits = kind.suits;
          entries = kind.entries;
          moves = kind.moves;
          one = kind.one;
          listed = λ w sample.
              let every = kind.listed w sample in (
                every.0,
                same_kind (SamplesWhere f (kept tries) w) (GrowsTo f tries w) every.0 every.1 (where_grown w)
                    (grown_where w),
              );
        }

    -- and draw from all samples
    grown_drawn : HaveWeights f.weights → AreExactlyDrawn f (GrowsTo f tries)
    grown_drawn have =
        let exact = exact_kind f frame have (GrowsTo f tries) (WhereAt f (kept tries)) grown_kind in
        let drawn = (wanted_runs f frame have extremal (kept tries)).drawn in
        record {
          exact = exact;
          drawn = are_drawn f frame (GrowsTo f tries) exact
              (λ w t g. drawn.only w t
              (record { numbers = g.numbers; rows = grown_where w (rows_from f.weights t) g.rows }))
              (λ w x t g h. drawn.one w x t
              (record { numbers = g.numbers; rows = grown_where w (rows_from f.weights t) g.rows })
              (record { numbers = h.numbers; rows = grown_where x (rows_from f.weights t) h.rows }))
              have;
        }

-- what a try gives, a try with greater heights gives, where the logs that it wants are the same
stays_given : (f : Frame) → IsFrame f → IsExtremal f.family → (t u : RunTry) → AreLower t.heights u.heights
    → AreLower u.heights f.heights → u.wanted ≡ t.wanted → (w : List ℕ) (rows : Rows) → AreRows f.weights f.heights rows
    → TryGives f t w rows → TryGives f u w rows
stays_given f frame extremal t u low high same w rows shape gives =
    let tall : Frame = frame_of f u in
    let long : length u.heights ≡ length rows = lower_count f.weights f.heights u.heights high rows shape in
    let few : Rows = cut u.heights rows in
    let inside : TryGives tall t w few =
    subst (SamplesWhere (frame_of f t) t.wanted w) (sym (cut_again t.heights u.heights rows low.size long low.low))
    gives in
    let s =
    to_whole tall (try_frame f frame extremal u high) extremal few
    (cut_shape f.weights f.heights u.heights high rows shape) t low w inside in
    record {
      shape = s.shape;
      log = s.log;
      run = s.run;
      finished = s.finished;
      entries = s.entries;
      wanted_log = ap (λ (wanted : List LogRecord → Bool). wanted s.log) same
          ∙ (and_parts (are_below (replay (replicate (length f.weights) 0) s.log) t.heights) (t.wanted s.log)
          s.wanted_log).1;
    }

-- the law
pub grown_runs : GrownRuns
grown_runs f frame have extremal tries low = record {
  drawn = grown_drawn f frame extremal tries low have;
  alike = λ t u low_t low_u w x rows shape gives gives'.
      one_sample f frame extremal rows shape (reaches f frame extremal t) (reaches f frame extremal u) w x
      (to_whole f frame extremal rows shape t low_t w gives) (to_whole f frame extremal rows shape u low_u x gives');
  stays = stays_given f frame extremal;
}
