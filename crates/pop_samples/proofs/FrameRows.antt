-- What holds of all rows of a frame: there is one for each variable, with an entry at least; and where they finish, the
-- cursors are as many, each within its row.
use Rattle.std.proofs.Common.{◌≡◌, ℕ, ◌<◌, List, [], length, map, get_or, sym, ap, subst, ◌∙◌, arith, Contains}
use Rattle.std.proofs.lemmas.List.{length-map, get_or-map, get_or-replicate}
use Rattle.std.proofs.lemmas.List.Elements.{All-contains, Contains-get_or}
use Rattle.pop_model.specs.Stacks.{value_at, row_of}
use Rattle.pop_model.specs.Stacks.Origin.{Given}
use Rattle.pop_model.specs.Popping.{AreWithin, cursor}
use Rattle.pop_model.specs.Families.{Family}
use Rattle.pop_model.specs.Families.Family.{Listed, Cycles}
use Rattle.pop_model.specs.Instances.{Instance, FamilyFits}
use Rattle.pop_model.specs.Logs.{replay}
use Rattle.pop_model.specs.Runs.{IsFinished, start_of}
use Rattle.pop_model.proofs.Diamond.{names_it}
use Rattle.pop_model.proofs.Replays.{length-start, length-replay, replay_within}
use Rattle.pop_samples.specs.Finishing.{FinishesAt}
use Rattle.pop_samples.specs.Frames.{AreRows, Frame, IsFrame, IsSampleOf, Rows, over, stacks_of}
use Rattle.pop_samples.specs.Exchange.{entries_under}
use Rattle.pop_samples.proofs.MovedLogs.{known_variable}
use Rattle.pop_samples.proofs.Exchanging.{Suits, entry-under}

-- whether a family fits doesn't hang on the rows
pub fits_rows : (weights : List (List ℕ)) (rows : Rows) (family : Family)
    → FamilyFits (record { origin = Given []; weights = weights }) family
    → FamilyFits (record { origin = Given rows; weights = weights }) family
fits_rows weights rows (Listed events) h = h
fits_rows weights rows (Cycles heads) h = h

-- there is a row for each variable
pub rows_count : (f : Frame) → IsFrame f → (rows : Rows) → AreRows f.weights f.heights rows
    → length rows ≡ length f.weights
rows_count f frame rows shape =
    sym (length-map rows (λ (row : List ℕ). length row)) ∙ ap (λ (ns : List ℕ). length ns) shape.lengths ∙ frame.count

-- each row has an entry
pub some_entry : (f : Frame) → IsFrame f → (rows : Rows) → AreRows f.weights f.heights rows → (v : ℕ) → v < length rows
    → 0 < length (row_of rows v)
some_entry f frame rows shape v below =
    let at : get_or (map length rows) v 0 ≡ length (get_or rows v []) =
    get_or-map (λ (row : List ℕ). length row) rows v [] 0 below in
    let count = rows_count f frame rows shape in
    let size = frame.count in
    let high : 0 < get_or f.heights v 0 = frame.some v 0 (omega (arith, below, count, size)) in
    let same : get_or f.heights v 0 ≡ length (get_or rows v []) =
    ap (λ (ns : List ℕ). get_or ns v 0) (sym shape.lengths) ∙ at in
    omega (arith, high, same)

-- where rows finish, the cursors suit them
pub record SuitsEnd (f : Frame) (rows : Rows) (c : List ℕ) : Type 0 where
  pub size : length c ≡ length rows
  pub within : (v : ℕ) → v < length rows → cursor c v < length (row_of rows v)

-- since a log stays within the heights
pub suits_end : (f : Frame) → IsFrame f → (rows : Rows) → AreRows f.weights f.heights rows → (c : List ℕ)
    → FinishesAt (over f rows) c
    → SuitsEnd f rows c
suits_end f frame rows shape c by =
    let i : Instance = over f rows in
    let count : length rows ≡ length f.weights = rows_count f frame rows shape in
    let start : List ℕ = start_of i in
    let low : AreWithin i.stacks start = λ v below.
    let zero_v : cursor start v ≡ 0 = get_or-replicate (length f.weights) v 0 0 below in
    let high : 0 < length (row_of rows v) = some_entry f frame rows shape v (omega (arith, below, count)) in
    omega (arith, zero_v, high) in
    let all : AreWithin i.stacks (replay start by.0) =
    replay_within i start by.0 (sym (length-start i)) low by.1.legal in
    let same : AreWithin i.stacks c = subst (λ d. AreWithin i.stacks d) by.1.leads all in
    record {
      size = sym (ap (λ (d : List ℕ). length d) by.1.leads) ∙ length-replay start by.0 ∙ length-start i ∙ sym count;
      within = λ v below. same v (omega (arith, below, count));
    }

-- so do the values of a sample
pub suits_values : (f : Frame) → IsFrame f → (rows : Rows) → AreRows f.weights f.heights rows → (c x : List ℕ)
    → SuitsEnd f rows c
    → length x ≡ length f.weights → Suits rows c x
suits_values f frame rows shape c x end size = record {
  cursors = end.size;
  values = size ∙ sym (rows_count f frame rows shape);
  within = end.within;
}

-- where the entries at cursors are a sample, no event occurs
pub sample_finished : (f : Frame) → IsFrame f → (rows : Rows) → AreRows f.weights f.heights rows → (c w : List ℕ)
    → length c ≡ length rows
    → IsSampleOf f w → entries_under rows c ≡ w → IsFinished (over f rows) c
sample_finished f frame rows shape c w size sample same e is occurs =
    let count = rows_count f frame rows shape in
    let at : (p : ℕ × ℕ) → Contains e.cube p → get_or w p.0 0 ≡ p.1 = λ p has.
    let less = known_variable (stacks_of f []) f.family frame.fits e is p.0 (names_it e.cube p has) in
    ap (λ (u : List ℕ). get_or u p.0 0) (sym same)
    ∙ entry-under rows c size p.0 (omega (arith, less, count))
    ∙ All-contains (λ (q : ℕ × ℕ). value_at (stacks_of f rows) q.0 (cursor c q.0) ≡ q.1) e.cube p occurs has in
    sample.sample e is (λ k d h. at (get_or e.cube k d) (Contains-get_or e.cube k d h))
