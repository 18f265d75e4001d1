-- What kept running sums say of the weights. Each row of sums gives back its row of weights by its
-- differences; it is as long, it isn't empty, and it rises. Of pairs of weights 1 the sums are 1
-- and 2 for each variable.
use Rattle.std.proofs.Common.{◌≡◌, ℕ, zero, suc, ◌<◌, ◌^◌, List, [], ◌∷◌, length, map, replicate, refl, sym, ap, subst, ◌∙◌, arith, All}
use Rattle.std.proofs.lemmas.List.{length-map, get_or-map, length-replicate, get_or-replicate}
use Rattle.pop_model.specs.Stacks.{row_of}
use Rattle.pop_stacks.specs.Rows.{AreShort, AreWeights}
use Rattle.pop_rows.specs.PrefixSums.{running}
use Rattle.pop_rows.proofs.SumsInPlace.{length-running}
use Rattle.pop_stacks.specs.Draws.{differences, RisesFrom, AreRunning}
use Rattle.pop_stacks.specs.Sums.{sums_of}
use Rattle.pop_stacks.specs.declared.sums.KeptSums.{KeptSums}
use Rattle.pop_stacks.specs.declared.sums.KeptSums.TheVariants.{Pairs, Rows}
use Rattle.pop_stacks.proofs.DrawsLemmas.{length-differences, differences-running, rises-running}

-- the differences of the sums are the weights again
pub weights_again : (weights : List (List ℕ)) → map (differences 0) (map (running 0) weights) ≡ weights
weights_again [] = refl
weights_again (row ∷ weights) =
    ap (λ ys. ys ∷ map (differences 0) (map (running 0) weights)) (differences-running 0 row)
    ∙ ap (λ ys. row ∷ ys) (weights_again weights)

-- what follows of a row's sums holds of all of them
each_running : (P Q : List ℕ → Type 0) → ((row : List ℕ) → P row → Q (running 0 row)) → (rows : List (List ℕ))
    → All P rows → All Q (map (running 0) rows)
each_running P Q step [] all k d below = absurd (omega arith)
each_running P Q step (row ∷ rows) all zero d below = step row (all 0 d (omega arith))
each_running P Q step (row ∷ rows) all (suc k) d below =
    each_running P Q step rows (λ j e under. all (suc j) e (omega arith)) k d (omega arith)

-- there are as many rows of sums, and as many sums in each
pub short_running : (rows : List (List ℕ)) → AreShort rows → AreShort (map (running 0) rows)
short_running rows are = record {
  count = let size = length-map rows (running 0) in let few = are.count in omega (arith, size, few);
  each = each_running (λ row. length row < 2 ^ 31) (λ row. length row < 2 ^ 31)
      (λ row few. omega (arith, length-running 0 row, few)) rows are.each;
}

-- the sums of weights are running sums
pub are_running : (weights : List (List ℕ)) → AreWeights weights → AreRunning (map (running 0) weights)
are_running weights are = record {
  short = short_running weights are.short;
  some = each_running (λ row. 0 < length row) (λ row. 0 < length row)
      (λ row some. omega (arith, length-running 0 row, some)) weights are.some;
  rising = each_running (λ row. All (λ w. 0 < w) row) (λ row. RisesFrom 0 row)
      (λ row positive. rises-running 0 row positive) weights are.positive;
}

-- the differences of pairs of sums are pairs of weights 1
pub pairs_again : (n : ℕ) → map (differences 0) (replicate n (1 ∷ 2 ∷ [])) ≡ replicate n (1 ∷ 1 ∷ [])
pairs_again zero = refl
pairs_again (suc n) = ap (λ ys. (1 ∷ 1 ∷ []) ∷ ys) (pairs_again n)

-- what a row of sums says of the weights of its variable
pub record IsSumsAt (weights : List (List ℕ)) (v : ℕ) (sums : List ℕ) : Type 0 where
  pub row : row_of weights v ≡ differences 0 sums
  pub size : length (row_of weights v) ≡ length sums
  pub some : 0 < length sums
  pub short : length sums < 2 ^ 31
  pub rising : RisesFrom 0 sums

-- there is a row of sums for each variable
pub sums_there : (weights : List (List ℕ)) (kept : KeptSums) (rows : List (List ℕ)) (v : ℕ) → kept ≡ Rows rows
    → map (differences 0) (sums_of kept) ≡ weights → v < length weights → v < length rows
sums_there weights kept rows v is view below =
    let shown : map (differences 0) rows ≡ weights = ap (λ k. map (differences 0) (sums_of k)) (sym is) ∙ view in
    omega (arith, ap length shown, length-map rows (differences 0), below)

-- a row of sums that was read is the one of its variable
pub sums_at : (weights : List (List ℕ)) (kept : KeptSums) (rows : List (List ℕ)) (v : ℕ) (sums : List ℕ)
    → kept ≡ Rows rows → map (differences 0) (sums_of kept) ≡ weights → AreRunning (sums_of kept) → v < length weights
    → sums ≡ row_of rows v → IsSumsAt weights v sums
sums_at weights kept rows v sums is view running below read =
    let shown : map (differences 0) rows ≡ weights = ap (λ k. map (differences 0) (sums_of k)) (sym is) ∙ view in
    let are : AreRunning rows = subst (λ k. AreRunning (sums_of k)) is running in
    let within : v < length rows = sums_there weights kept rows v is view below in
    let row : row_of weights v ≡ differences 0 sums =
    ap (λ ws. row_of ws v) (sym shown) ∙ get_or-map (differences 0) rows v [] [] within
    ∙ ap (differences 0) (sym read) in
    record {
      row = row;
      size = ap length row ∙ length-differences 0 sums;
      some = subst (λ (row : List ℕ). 0 < length row) (sym read) (are.some v [] within);
      short = subst (λ (row : List ℕ). length row < 2 ^ 31) (sym read) (are.short.each v [] within);
      rising = subst (λ row. RisesFrom 0 row) (sym read) (are.rising v [] within);
    }

-- the weights of a variable by pairs of sums
pub pair_at : (weights : List (List ℕ)) (kept : KeptSums) (n v : ℕ) → kept ≡ Pairs n
    → map (differences 0) (sums_of kept) ≡ weights → v < length weights → row_of weights v ≡ 1 ∷ 1 ∷ []
pair_at weights kept n v kept_is view below =
    let row : List ℕ = 1 ∷ 1 ∷ [] in
    let is : weights ≡ replicate n row =
    sym view ∙ ap (λ k. map (differences 0) (sums_of k)) kept_is ∙ pairs_again n in
    let size : length (replicate n row) ≡ n = length-replicate n row in
    let within : v < n = omega (arith, ap length is, size, below) in
    ap (λ ws. row_of ws v) is ∙ get_or-replicate n v row [] within
