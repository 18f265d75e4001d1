-- Where no event occurs at cursors within rows, the entries there are a sample.
use Rattle.std.proofs.Common.{◌≡◌, ℕ, suc, ◌<◌, List, [], ◌∷◌, length, get_or, refl, sym, ap, subst, ◌∙◌, arith}
use Rattle.std.proofs.lemmas.List.Elements.{Contains-get_or}
use Rattle.pop_model.specs.Stacks.{row_of}
use Rattle.pop_model.specs.Popping.{cursor}
use Rattle.pop_model.specs.Runs.{IsFinished}
use Rattle.pop_model.proofs.Diamond.{names_it}
use Rattle.pop_samples.specs.Frames.{AreRows, Frame, IsFrame, IsSampleOf, Rows, over, stacks_of}
use Rattle.pop_samples.specs.Exchange.{entries_under}
use Rattle.pop_samples.proofs.FrameRows.{SuitsEnd, rows_count}
use Rattle.pop_samples.proofs.Exchanging.{entry-under}
use Rattle.pop_samples.proofs.MovedLogs.{known_variable}

-- there are as many entries at cursors as cursors
pub length-entries : (rows : Rows) (c : List ℕ) → length c ≡ length rows → length (entries_under rows c) ≡ length c
length-entries [] [] e = refl
length-entries [] (k ∷ c) e = absurd (omega (arith, e))
length-entries (row ∷ rows) [] e = absurd (omega (arith, e))
length-entries (row ∷ rows) (k ∷ c) e = let rest = length-entries rows c (omega (arith, e)) in ap suc rest

-- they are a sample
pub sample_there : (f : Frame) → IsFrame f → (w c : List ℕ) (rows : Rows) → AreRows f.weights f.heights rows
    → SuitsEnd f rows c → entries_under rows c ≡ w → IsFinished (over f rows) c → IsSampleOf f w
sample_there f frame w c rows shape suit entries finished =
    let count : length rows ≡ length f.weights = rows_count f frame rows shape in
    let size = suit.size in
    let long : length (entries_under rows c) ≡ length c = length-entries rows c size in
    let at : (v : ℕ) → v < length c → get_or (entries_under rows c) v 0 ≡ get_or (row_of rows v) (cursor c v) 0 =
    λ v below. entry-under rows c size v (omega (arith, below, size)) in
    subst (IsSampleOf f) entries (record {
      count = omega (arith, long, size, count);
      values = λ v below.
          let inside : v < length rows = omega (arith, below, long, size) in
          let is = at v (omega (arith, below, long)) in
          let value = shape.values v (cursor c v) inside (suit.within v inside) in
          omega (arith, is, value);
      sample = λ e is all. finished e is (λ k d within.
          let p : ℕ × ℕ = get_or e.cube k d in
          let known = known_variable (stacks_of f []) f.family frame.fits e is p.0
          (names_it e.cube p (Contains-get_or e.cube k d within)) in
          sym (at p.0 (omega (arith, known, size, count))) ∙ all k d within);
    })
