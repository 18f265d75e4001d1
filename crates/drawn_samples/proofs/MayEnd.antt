-- Rows are made taller by a sample's values. An event that occurs has a variable that is still in the first rows, since
-- where all are past them the values are the sample's. So each pop takes from the room of the first rows, and there are
-- no more pops than this room. With more entries than pops behind the first rows, each event has a next entry: so where
-- the run ends, no event occurs.
use Rattle.std.proofs.Common.{inl, inr, ◌≡◌, ◌⊎◌, ℕ, zero, suc, ◌+◌, ◌-◌, ◌<◌, ◌≤◌, cond, List, [], ◌∷◌, ◌++◌, length, map, replicate, get_or, Contains, refl, sym, ap, ap₂, subst, ◌∙◌, arith}
use Rattle.std.proofs.lemmas.Bool.{cases_Bool, cases_lt}
use Rattle.std.proofs.lemmas.List.{get_or-append-add, get_or-map, get_or-replicate, get_or_append_left, length-append, length-map, length-replicate, take_at}
use Rattle.std.proofs.lemmas.List.Elements.{All-contains, Contains-get_or}
use Rattle.pop_model.specs.Stacks.{height_of, row_of, value_at}
use Rattle.pop_model.specs.Popping.{Cube, cursor, names, pop}
use Rattle.pop_model.specs.Instances.{Instance}
use Rattle.pop_model.specs.Logs.{IsLegal, LogRecord, replay}
use Rattle.pop_model.specs.Runs.{IsFinished}
use Rattle.pop_model.proofs.Diamond.{all_by_members, names_it}
use Rattle.pop_model.proofs.PopLemmas.{cursor-pop, cursor-pop_other, length-pop}
use Rattle.pop_model.proofs.Rising.{head_member, member_cases, none_in, tail_member}
use Rattle.pop_model.proofs.Room.{left_falls_more, left_from, not_lowered}
use Rattle.pop_samples.specs.Exchange.{entries_under}
use Rattle.pop_samples.specs.Frames.{AreRows, Frame, IsFrame, IsSampleOf, Rows, over, stacks_of}
use Rattle.pop_samples.proofs.Ending.{Ends, run_to_end}
use Rattle.pop_samples.proofs.FrameRows.{fits_rows, rows_count, some_entry}
use Rattle.pop_samples.proofs.MovedLogs.{known_variable}
use Rattle.drawn_samples.specs.Grown.{MayEnd, cut}
use Rattle.drawn_samples.proofs.SampleLists.{found}

-- ---- taller rows

-- so many more entries of each row, all of the value of its variable
abbrev longer : ℕ → Rows → List ℕ → Rows
longer k [] x = []
longer k (row ∷ rows) [] = row ∷ rows
longer k (row ∷ rows) (y ∷ x) = (row ++ replicate k y) ∷ longer k rows x

-- their heights
lengths-longer : (k : ℕ) (rows : Rows) (x heights : List ℕ) → length x ≡ length rows → map length rows ≡ heights
    → map length (longer k rows x) ≡ map (λ h. h + k) heights
lengths-longer k [] x [] size are = refl
lengths-longer k [] x (h ∷ heights) size are = absurd (cc)
lengths-longer k (row ∷ rows) [] heights size are = absurd (omega (arith, size))
lengths-longer k (row ∷ rows) (y ∷ x) [] size are = absurd (cc)
lengths-longer k (row ∷ rows) (y ∷ x) (h ∷ heights) size are =
    let first : length row ≡ h = cc in
    let later : map length rows ≡ heights = cc in
    let here : length (row ++ replicate k y) ≡ h + k =
    length-append row (replicate k y) ∙ ap (λ n. length row + n) (length-replicate k y) ∙ ap (λ n. n + k) first in
    ap₂ (λ (n : ℕ) (ns : List ℕ). n ∷ ns) here (lengths-longer k rows x heights (omega (arith, size)) later)

-- the row of a variable
row-longer : (k : ℕ) (rows : Rows) (x : List ℕ) → length x ≡ length rows → (v : ℕ) → v < length rows
    → row_of (longer k rows x) v ≡ row_of rows v ++ replicate k (get_or x v 0)
row-longer k [] x size v below = absurd (omega (arith, below))
row-longer k (row ∷ rows) [] size v below = absurd (omega (arith, size))
row-longer k (row ∷ rows) (y ∷ x) size zero below = refl
row-longer k (row ∷ rows) (y ∷ x) size (suc v) below =
    row-longer k rows x (omega (arith, size)) v (omega (arith, below))

-- they begin with the rows
cut-longer : (k : ℕ) (rows : Rows) (x heights : List ℕ) → length x ≡ length rows → map length rows ≡ heights
    → cut heights (longer k rows x) ≡ rows
cut-longer k [] x [] size are = refl
cut-longer k [] x (h ∷ heights) size are = absurd (cc)
cut-longer k (row ∷ rows) [] heights size are = absurd (omega (arith, size))
cut-longer k (row ∷ rows) (y ∷ x) [] size are = absurd (cc)
cut-longer k (row ∷ rows) (y ∷ x) (h ∷ heights) size are =
    let first : length row ≡ h = cc in
    let later : map length rows ≡ heights = cc in
    ap₂ (λ (r : List ℕ) (rs : Rows). r ∷ rs) (take_at row (replicate k y) h first)
    (cut-longer k rows x heights (omega (arith, size)) later)

-- a height is at most a greater one
added_low : (k : ℕ) (heights : List ℕ) (v : ℕ) → get_or heights v 0 ≤ get_or (map (λ h. h + k) heights) v 0
added_low k [] v = omega arith
added_low k (h ∷ heights) zero = omega arith
added_low k (h ∷ heights) (suc v) = added_low k heights v

module _ (f : Frame) (frame : IsFrame f) (x : List ℕ) (sample : IsSampleOf f x) (rows : Rows)
    (shape : AreRows f.weights f.heights rows) where
  -- there are as many values as rows
  size : length x ≡ length rows
  size = sample.count ∙ sym (rows_count f frame rows shape)

  -- an entry past the first ones is the sample's
  past_entry : (k v c : ℕ) → v < length rows → length (row_of rows v) ≤ c → c < length (row_of (longer k rows x) v)
      → get_or (row_of (longer k rows x) v) c 0 ≡ get_or x v 0
  past_entry k v c below past inside =
      let row : List ℕ = row_of rows v in
      let is : row_of (longer k rows x) v ≡ row ++ replicate k (get_or x v 0) = row-longer k rows x size v below in
      let long : length (row_of (longer k rows x) v) ≡ length row + k =
      ap (λ (r : List ℕ). length r) is ∙ length-append row (replicate k (get_or x v 0))
      ∙ ap (λ n. length row + n) (length-replicate k (get_or x v 0)) in
      let at : c ≡ length row + (c - length row) = omega (arith, past) in
      ap (λ (r : List ℕ). get_or r c 0) is ∙ ap (λ n. get_or (row ++ replicate k (get_or x v 0)) n 0) at
      ∙ get_or-append-add row (replicate k (get_or x v 0)) (c - length row) 0
      ∙ get_or-replicate k (c - length row) (get_or x v 0) 0 (omega (arith, past, inside, long))

  -- the taller rows are rows
  longer_shape : (k : ℕ) → AreRows f.weights (map (λ h. h + k) f.heights) (longer k rows x)
  longer_shape k = record {
    lengths = lengths-longer k rows x f.heights size shape.lengths;
    values = λ v c below inside.
        let many : length (longer k rows x) ≡ length rows =
        sym (length-map (longer k rows x) (λ (r : List ℕ). length r))
        ∙ ap (λ (ns : List ℕ). length ns) (lengths-longer k rows x f.heights size shape.lengths)
        ∙ length-map f.heights (λ h. h + k) ∙ ap (λ (ns : List ℕ). length ns) (sym shape.lengths)
        ∙ length-map rows (λ (r : List ℕ). length r) in
        let known : v < length rows = omega (arith, below, many) in
        elim (cases_lt c (length (row_of rows v))) [
          | inl first ↦
              let is : get_or (row_of (longer k rows x) v) c 0 ≡ get_or (row_of rows v) c 0 =
              ap (λ (r : List ℕ). get_or r c 0) (row-longer k rows x size v known)
              ∙ get_or_append_left (row_of rows v) (replicate k (get_or x v 0)) 0 c first in
              let value = shape.values v c known first in
              omega (arith, is, value)
          | inr past ↦
              let is = past_entry k v c known (omega (arith, past)) inside in
              let value = sample.values v (omega (arith, known, size)) in
              omega (arith, is, value)
        ];
  }

  -- the frame of greater heights
  abbrev higher : ℕ → Frame
  higher k = record { family = f.family; weights = f.weights; heights = map (λ h. h + k) f.heights }

  -- it is one
  higher_frame : (k : ℕ) → IsFrame (higher k)
  higher_frame k = record {
    family = frame.family;
    fits = frame.fits;
    count = length-map f.heights (λ h. h + k) ∙ frame.count;
    some = λ v d below.
        let long = length-map f.heights (λ h. h + k) in
        let is = get_or-map (λ h. h + k) f.heights v 0 d (omega (arith, below, long)) in
        let old = frame.some v 0 (omega (arith, below, long)) in
        omega (arith, is, old);
  }

  -- ---- the run

  -- some variable of a cube is still in the first rows, or none is
  first_or_past : (c : List ℕ) (e : Cube) → ((p : ℕ × ℕ) × Contains e p × (cursor c p.0 < length (row_of rows p.0)))
      ⊎ ((p : ℕ × ℕ) → Contains e p → length (row_of rows p.0) ≤ cursor c p.0)
  first_or_past c [] = inr (λ p has. absurd (none_in p has))
  first_or_past c (q ∷ e) = elim (cases_lt (cursor c q.0) (length (row_of rows q.0))) [
    | inl first ↦ inl (q, head_member q e, first)
    | inr past ↦ elim (first_or_past c e) [
      | inl (p, has, first) ↦ inl (p, tail_member q e p has, first)
      | inr none ↦ inr (λ p has. elim (member_cases q e p has) [
        | inl here ↦ subst (λ (r : ℕ × ℕ). length (row_of rows r.0) ≤ cursor c r.0) here (omega (arith, past))
        | inr later ↦ none p later
      ])
    ]
  ]

  module _ (k : ℕ) where
    -- the instance of the taller rows
    abbrev i : Instance
    i = over (higher k) (longer k rows x)

    -- a pop takes from the room of the first rows
    room_taken : (c : List ℕ) → length c ≡ length f.weights → (r : LogRecord) (log : List LogRecord)
        → IsLegal i c (r ∷ log)
        → left_from (stacks_of f rows) 0 (pop c r.event.cube) < left_from (stacks_of f rows) 0 c
    room_taken c long r log legal = elim (first_or_past c r.event.cube) [
      | inl (p, has, first) ↦
          let known = known_variable (stacks_of f []) f.family frame.fits r.event legal.0.event p.0
          (names_it r.event.cube p has) in
          let below : p.0 < length c = omega (arith, known, long) in
          let is = names_it r.event.cube p has in
          let at : cursor (pop c r.event.cube) p.0 ≡ cursor c p.0 + 1 =
          cursor-pop c r.event.cube p.0 below ∙ ap (λ b. cond b (cursor c p.0 + 1) (cursor c p.0)) is in
          let same : p.0 ≡ 0 + p.0 = omega arith in
          left_falls_more (stacks_of f rows) 0 c (pop c r.event.cube) p.0 (sym (length-pop c r.event.cube))
          (λ w h. not_lowered c r.event.cube w h) below (omega (arith, at))
          (subst (λ w. cursor c p.0 < height_of (stacks_of f rows) w) same first)
      | inr past ↦ absurd (sample.sample r.event legal.0.event (λ j d within.
          let p : ℕ × ℕ = get_or r.event.cube j d in
          let has : Contains r.event.cube p = Contains-get_or r.event.cube j d within in
          let known = known_variable (stacks_of f []) f.family frame.fits r.event legal.0.event p.0
          (names_it r.event.cube p has) in
          let count = rows_count f frame rows shape in
          let next =
          All-contains (λ (q : ℕ × ℕ). cursor c q.0 + 1 < height_of i.stacks q.0) r.event.cube p
          legal.0.poppable.next has in
          sym (past_entry k p.0 (cursor c p.0) (omega (arith, known, count)) (past p has) (omega (arith, next)))
          ∙ All-contains (λ (q : ℕ × ℕ). value_at i.stacks q.0 (cursor c q.0) ≡ q.1) r.event.cube p
          legal.0.poppable.occurs has))
    ]

    -- so there are no more pops than this room
    few_pops : (c : List ℕ) (log : List LogRecord) → length c ≡ length f.weights → IsLegal i c log
        → length log ≤ left_from (stacks_of f rows) 0 c
    few_pops c [] long legal = omega arith
    few_pops c (r ∷ log) long legal =
        let less = room_taken c long r log legal in
        let rest = few_pops (pop c r.event.cube) log (length-pop c r.event.cube ∙ long) legal.1 in
        omega (arith, less, rest)

  -- a cursor moves on by at most one a pop
  moved_little : (c : List ℕ) (log : List LogRecord) (v : ℕ) → v < length c
      → cursor (replay c log) v ≤ cursor c v + length log
  moved_little c [] v below = omega arith
  moved_little c (r ∷ log) v below =
      let rest = moved_little (pop c r.event.cube) log v (omega (arith, below, length-pop c r.event.cube)) in
      elim (cases_Bool (names r.event.cube v)) [
        | inl is ↦
            let at : cursor (pop c r.event.cube) v ≡ cursor c v + 1 =
            cursor-pop c r.event.cube v below ∙ ap (λ b. cond b (cursor c v + 1) (cursor c v)) is in
            omega (arith, rest, at)
        | inr other ↦
            let at : cursor (pop c r.event.cube) v ≡ cursor c v = cursor-pop_other c r.event.cube v other in
            omega (arith, rest, at)
      ]

-- the law
pub may_end : MayEnd
may_end f frame x sample rows shape =
    let start : List ℕ = replicate (length f.weights) 0 in
    let room : ℕ = left_from (stacks_of f rows) 0 start in
    let k : ℕ = room + 1 in
    let tall : Frame = higher f frame x sample rows shape k in
    let tall_frame : IsFrame tall = higher_frame f frame x sample rows shape k in
    let taller : Rows = longer k rows x in
    let tall_shape = longer_shape f frame x sample rows shape k in
    let there : Instance = over tall taller in
    let count : length rows ≡ length f.weights = rows_count f frame rows shape in
    let long : length start ≡ length f.weights = length-replicate (length f.weights) 0 in
    let run : Ends there start =
    run_to_end there frame.family (fits_rows f.weights taller f.family frame.fits)
    (found (stacks_of tall taller) f.family frame.family) start long in
    let c : List ℕ = replay start run.log in
    let few : length run.log ≤ room = few_pops f frame x sample rows shape k start run.log long run.legal in
    let finished : IsFinished there c = λ e event occurs. run.end e event (record {
      occurs = occurs;
      next = all_by_members (λ (p : ℕ × ℕ). cursor c p.0 + 1 < height_of there.stacks p.0) e.cube (λ p has.
          let known = known_variable (stacks_of f []) f.family frame.fits e event p.0 (names_it e.cube p has) in
          let inside : p.0 < length rows = omega (arith, known, count) in
          let little = moved_little f frame x sample rows shape start run.log p.0 (omega (arith, known, long)) in
          let none : cursor start p.0 ≡ 0 = get_or-replicate (length f.weights) p.0 0 0 known in
          let some = some_entry f frame rows shape p.0 inside in
          let high : length (row_of taller p.0) ≡ length (row_of rows p.0) + k =
          ap (λ (r : List ℕ). length r) (row-longer k rows x (sample.count ∙ sym count) p.0 inside)
          ∙ length-append (row_of rows p.0) (replicate k (get_or x p.0 0))
          ∙ ap (λ n. length (row_of rows p.0) + n) (length-replicate k (get_or x p.0 0)) in
          omega (arith, little, none, few, some, high));
    }) in
    record {
      heights = tall.heights;
      lower = record {
        size = sym (length-map f.heights (λ h. h + k));
        some = frame.some;
        low = added_low k f.heights;
      };
      taller = taller;
      shape = tall_shape;
      begins = cut-longer k rows x f.heights (sample.count ∙ sym count) shape.lengths;
      values = entries_under taller c;
      ends = (
        c,
        record {
          shape = tall_shape;
          finishes = (run.log, record { legal = run.legal; leads = refl; finished = finished });
          entries = refl;
        },
      );
    }
