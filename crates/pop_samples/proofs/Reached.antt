-- Each sample is reached: rows that have its values throughout finish before any pop.
use Rattle.std.proofs.Common.{◌≡◌, ℕ, ◌<◌, List, [], ◌∷◌, zero, suc, All, length, map, replicate, get_or, refl, sym, ap, ap₂, ◌∙◌, arith}
use Rattle.std.proofs.lemmas.List.{length-replicate, get_or-replicate}
use Rattle.pop_model.specs.Stacks.{row_of}
use Rattle.pop_model.specs.Runs.{start_of}
use Rattle.pop_samples.specs.Frames.{AreRows, Rows, over}
use Rattle.pop_samples.specs.Exchange.{entries_under}
use Rattle.pop_samples.specs.ExactLaws.{ReachedSamples}
use Rattle.pop_model.proofs.Replays.{length-start}
use Rattle.pop_samples.proofs.FrameRows.{rows_count, sample_finished}

-- rows of these heights, each of one value throughout
throughout : List ℕ → List ℕ → Rows
throughout [] w = []
throughout (h ∷ heights) [] = []
throughout (h ∷ heights) (x ∷ w) = replicate h x ∷ throughout heights w

-- they have these heights
lengths-throughout : (heights w : List ℕ) → length heights ≡ length w → map length (throughout heights w) ≡ heights
unfolding throughout
lengths-throughout [] w e = refl
lengths-throughout (h ∷ heights) [] e = absurd (omega (arith, e))
lengths-throughout (h ∷ heights) (x ∷ w) e =
    ap₂ (λ (n : ℕ) (ns : List ℕ). n ∷ ns) (length-replicate h x) (lengths-throughout heights w (omega (arith, e)))

-- their entries are the sample's values
entry-throughout : (heights w : List ℕ) → length heights ≡ length w → (v k : ℕ) → v < length (throughout heights w)
    → k < length (row_of (throughout heights w) v)
    → (get_or (row_of (throughout heights w) v) k 0 ≡ get_or w v 0) × (v < length w)
unfolding throughout
entry-throughout [] w e v k below inside = absurd (omega (arith, below))
entry-throughout (h ∷ heights) [] e v k below inside = absurd (omega (arith, e))
entry-throughout (h ∷ heights) (x ∷ w) e zero k below inside =
    let size = length-replicate {A = ℕ} h x in (get_or-replicate h k x 0 (omega (arith, inside, size)), omega arith)
entry-throughout (h ∷ heights) (x ∷ w) e (suc v) k below inside =
    let rest = entry-throughout heights w (omega (arith, e)) v k (omega (arith, below)) inside in
    let less = rest.1 in
    (rest.0, omega (arith, less))

-- those at zeros are the sample
under-throughout : (heights w : List ℕ) → length heights ≡ length w → All (λ h. 0 < h) heights
    → entries_under (throughout heights w) (replicate (length w) 0) ≡ w
unfolding throughout
under-throughout [] [] e some = refl
under-throughout [] (x ∷ w) e some = absurd (omega (arith, e))
under-throughout (h ∷ heights) [] e some = absurd (omega (arith, e))
under-throughout (h ∷ heights) (x ∷ w) e some =
    ap₂ (λ (n : ℕ) (ns : List ℕ). n ∷ ns) (get_or-replicate h 0 x 0 (some 0 0 (omega arith)))
    (under-throughout heights w (omega (arith, e)) (λ k d h. some (suc k) d (omega (arith, h))))

-- the law: they finish at zeros, where the sample is
pub reached_samples : ReachedSamples
reached_samples f frame w sample =
    let rows : Rows = throughout f.heights w in
    let e : length f.heights ≡ length w = frame.count ∙ sym sample.count in
    let shape : AreRows f.weights f.heights rows = record {
      lengths = lengths-throughout f.heights w e;
      values = λ v k below inside.
          let at = entry-throughout f.heights w e v k below inside in
          let same = at.0 in
          let less = sample.values v at.1 in
          omega (arith, same, less);
    } in
    let entries : entries_under rows (start_of (over f rows)) ≡ w =
    ap (λ (n : ℕ). entries_under rows (replicate n 0)) (sym sample.count) ∙ under-throughout f.heights w e frame.some in
    let size : length (start_of (over f rows)) ≡ length rows =
    length-start (over f rows) ∙ sym (rows_count f frame rows shape) in (
      rows,
      record {
        shape = shape;
        finishes = (
          [],
          record {
            legal = tt;
            leads = refl;
            finished = sample_finished f frame rows shape (start_of (over f rows)) w size sample entries;
          },
        );
        entries = entries;
      },
    )
