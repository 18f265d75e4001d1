-- The rows of samples of variables with two values, as they are put one by one.
use Rattle.std.proofs.Common.{◌≡◌, inl, inr, ℕ, ◌+◌, ◌*◌, ◌<◌, ◌≤◌, ◌^◌, List, [], ◌∷◌, length, set, get_or, sym, ap, subst, ◌∙◌, arith}
use Rattle.std.specs.List.{enumerate_from}
use Rattle.std.proofs.lemmas.Bool.{cases_eq}
use Rattle.std.proofs.lemmas.List.{length-map, length-replicate, get_or-replicate}
use Rattle.std.proofs.lemmas.List.FromFn.{length-enumerate_from}
use Rattle.std.proofs.Math.Nat.{add-mul}
use Rattle.pop_model.specs.Stacks.{StackTable, height_of, stacks_for, value_at, variables_of}
use Rattle.pop_model.specs.Instances.{Instance}
use Rattle.confluence_core.specs.declared.end.End.{End}
use Rattle.confluence_core.specs.Runs.{IsEndOver}
use Rattle.pop_batch.specs.Parts.{CanStart}
use Rattle.array_calls.specs.Rows.{PutsRow, PutsWanted, StaysFrom}
use Rattle.array_calls.specs.Draws.{AreWithinBudget, given, less, unlimited}
use Rattle.array_calls.specs.Trees.{FitFrom, FitsWanted}
use Rattle.array_calls.specs.Values.{AreOfPairs, AreRows, Ends, EndsRows, IsRow, StopsAtRow, ValueArrays, number_at, value_arrays}
use Rattle.array_calls.proofs.Budgets.{Remains, budget_spent, remains_all, remains_less, within_budget}
use Rattle.array_calls.proofs.PutRows.{counts_kept, counts_put, counts_stay, row_kept, stays_all, stays_behind, wanted_kept, wanted_row, wanted_size, wanted_stays}
use Rattle.array_calls.proofs.TreeRows.{kept_wanted, row_before}

-- the rows before here are at their ends, nothing from here on was touched, and so much of the budget is left
pub record ValuesStand (IsItsEnd : Ends) (n first : ℕ) (from : List ℕ) (budget count j left : ℕ) (old : ValueArrays)
    (values useds counts : List ℕ) : Type 0 where
  pub rows : AreRows IsItsEnd n first from j values useds counts
  pub values_size : length values ≡ count * n
  pub useds_fit : FitsWanted n count useds
  pub values_stay : StaysFrom (j * n) old.values values
  pub useds_stay : StaysFrom (j * n) old.useds useds
  pub counts_stay : StaysFrom (2 * j) old.counts counts
  pub remains : Remains budget left j counts

-- at first none is
pub values_none : (IsItsEnd : Ends) (n first : ℕ) (from : List ℕ) (budget count : ℕ) (values useds counts : List ℕ)
    → budget ≤ unlimited → length values ≡ count * n → FitsWanted n count useds
    → ValuesStand IsItsEnd n first from budget count 0 budget (value_arrays values useds counts) values useds counts
values_none IsItsEnd n first from budget count values useds counts most size fits = record {
  rows = λ j less. absurd (omega (arith, less));
  values_size = size;
  useds_fit = fits;
  values_stay = stays_all (0 * n) values;
  useds_stay = stays_all (0 * n) useds;
  counts_stay = stays_all 0 counts;
  remains = remains_all budget counts most;
}

-- where a sample stands each variable has a value below 2
pub have_values : (i : Instance) (n j : ℕ) (end : End) → AreOfPairs n i.stacks
    → IsEndOver (stacks_for j i.stacks) end
    → (length end.cursors ≡ n) × (length end.values ≡ n) × ((v : ℕ) → v < n → get_or end.values v 0 < 2)
have_values i n j end of over =
    let s : StackTable = stacks_for j i.stacks in
    let weights = ap length of.is ∙ length-replicate n (1 ∷ 1 ∷ []) in
    let count = over.count in
    let values = ap length over.values.are
    ∙ length-map (enumerate_from 0 end.cursors) (λ p. value_at s p.0 p.1)
    ∙ length-enumerate_from 0 end.cursors in (
      omega (arith, weights, count),
      omega (arith, weights, count, values),
      λ v below.
          let within = over.values.within v (omega (arith, weights, below)) in
          let two = ap (λ (ws : List (List ℕ)). length (get_or ws v [])) of.is
          ∙ ap length (get_or-replicate n v (1 ∷ 1 ∷ []) [] below) in
          omega (arith, within, two),
    )

-- cursors below the height, one for each variable, are such that samples of pairs can start there
pub pairs_can_start : (i : Instance) (n height : ℕ) (from : List ℕ) → variables_of i.stacks ≡ n
    → ((v : ℕ) → height_of i.stacks v ≡ height) → FitFrom n height from → CanStart i (given from 0)
pairs_can_start i n height [] count high fits = tt
pairs_can_start i n height (k ∷ from) count high fits =
    let size : variables_of i.stacks ≡ length (k ∷ from) = elim fits.count [
      | inl none ↦ absurd (omega (arith, none))
      | inr all ↦ count ∙ sym all
    ] in (
      size,
      λ v below. (let less = fits.below v (omega (arith, below, size)) in let is = high v in omega (arith, less, is)),
    )

-- a row stays where one behind it is put
kept_row : (IsItsEnd : Ends) (n first : ℕ) (from : List ℕ) (j k pops stuck : ℕ)
    (values useds counts values' useds' counts' : List ℕ) (numbers numbers' : ℕ → ℕ) → k < j
    → PutsRow (j * n) n numbers values values' → PutsWanted (j * n) n numbers' useds useds'
    → counts' ≡ set (set counts (2 * j) pops) (2 * j + 1) stuck → IsRow IsItsEnd n first from k values useds counts
    → IsRow IsItsEnd n first from k values' useds' counts'
kept_row IsItsEnd n first from j k pops stuck values useds counts values' useds' counts' numbers numbers' before puts puts_useds
    are row =
    let low : k * n + n ≤ j * n = row_before k j n before in
    record {
      end = row.end;
      of_sample = row.of_sample;
      has_values = row_kept (j * n) n (k * n) n numbers (number_at row.end.values) values values' low puts
          row.has_values;
      has_used = wanted_kept (j * n) n (k * n) n numbers' (number_at row.end.cursors) useds useds' low puts_useds
          row.has_used;
      pops = counts_kept j pops stuck (2 * k) counts counts' are (inl (omega (arith, before))) ∙ row.pops;
      stuck = counts_kept j pops stuck (2 * k + 1) counts counts' are (inl (omega (arith, before))) ∙ row.stuck;
    }

-- with a row more
pub values_more : (IsItsEnd : Ends) (n first : ℕ) (from : List ℕ) (budget count j left : ℕ) (end : End)
    (old : ValueArrays) (values useds counts values' useds' counts' : List ℕ)
    → IsItsEnd (first + j) (given from j) end → end.pops ≤ left → 2 * j + 1 < length counts
    → PutsRow (j * n) n (number_at end.values) values values'
    → PutsWanted (j * n) n (number_at end.cursors) useds useds'
    → counts' ≡ set (set counts (2 * j) end.pops) (2 * j + 1) (length end.stuck)
    → ValuesStand IsItsEnd n first from budget count j left old values useds counts
    → ValuesStand IsItsEnd n first from budget count (j + 1) (less left end.pops) old values' useds' counts'
values_more IsItsEnd n first from budget count j left end old values useds counts values' useds' counts' of most within puts
    puts_useds are stand =
    let stuck = length end.stuck in
    let useds_is = wanted_size (j * n) n (number_at end.cursors) useds useds' puts_useds in
    let next : j * n + n ≤ (j + 1) * n = omega (arith, add-mul j 1 n) in
    let put = counts_put j end.pops stuck counts counts' within are in
    let here : IsRow IsItsEnd n first from j values' useds' counts' = record {
      end = end;
      of_sample = of;
      has_values = puts.here;
      has_used = wanted_row (j * n) n (number_at end.cursors) useds useds' puts_useds;
      pops = put.0;
      stuck = put.1;
    } in
    record {
      rows = λ k less. elim (cases_eq k j) [
        | inl same ↦ subst (λ m. IsRow IsItsEnd n first from m values' useds' counts') (sym same) here
        | inr other ↦
            let before : k < j = omega (arith, less, other) in
            kept_row IsItsEnd n first from j k end.pops stuck values useds counts values' useds' counts'
            (number_at end.values) (number_at end.cursors) before puts puts_useds are (stand.rows k before)
      ];
      values_size = puts.size ∙ stand.values_size;
      useds_fit = kept_wanted n count useds useds' useds_is stand.useds_fit;
      values_stay = stays_behind (j * n) n ((j + 1) * n) (number_at end.values) old.values values values' next puts
          stand.values_stay;
      useds_stay = wanted_stays (j * n) n ((j + 1) * n) (number_at end.cursors) old.useds useds useds' next puts_useds
          stand.useds_stay;
      counts_stay = counts_stay j end.pops stuck old.counts counts counts' are stand.counts_stay;
      remains = remains_less budget left j end.pops stuck counts counts' within are most stand.remains;
    }

-- all rows are at their ends
pub values_end : (IsItsEnd : Ends) (n first : ℕ) (from : List ℕ) (budget count j left : ℕ) (old : ValueArrays)
    (values useds counts : List ℕ) → j ≡ count
    → ValuesStand IsItsEnd n first from budget count j left old values useds counts
    → EndsRows IsItsEnd n first from budget count (value_arrays values useds counts)
values_end IsItsEnd n first from budget count j left old values useds counts all stand = record {
  rows = subst (λ m. AreRows IsItsEnd n first from m values useds counts) all stand.rows;
  within = subst (λ m. AreWithinBudget budget m counts) all (within_budget budget left j counts stand.remains);
}

-- or the call stopped at one
pub values_stop : (IsItsEnd IsItsStop : Ends) (n first : ℕ) (from : List ℕ) (budget count j left : ℕ) (stop : End)
    (old : ValueArrays) (values useds counts useds' counts' : List ℕ) → j < count
    → IsItsStop (first + j) (given from j) stop → stop.pops ≡ left → stop.pops < 2 ^ 63 → 2 * j + 1 < length counts
    → PutsRow (j * n) n (number_at stop.cursors) useds useds'
    → counts' ≡ set (set counts (2 * j) stop.pops) (2 * j + 1) (length stop.stuck)
    → ValuesStand IsItsEnd n first from budget count j left old values useds counts
    → StopsAtRow IsItsEnd IsItsStop n first from budget count old (value_arrays values useds' counts') j
values_stop IsItsEnd IsItsStop n first from budget count j left stop old values useds counts useds' counts' below of spent few within
    puts are stand =
    let stuck = length stop.stuck in
    let next : j * n + n ≤ (j + 1) * n = omega (arith, add-mul j 1 n) in
    let put = counts_put j stop.pops stuck counts counts' within are in
    let all = budget_spent budget left j stop.pops stuck counts counts' within are spent few stand.remains in
    record {
      below = below;
      rows = λ k before.
          let row = stand.rows k before in
          let low : k * n + n ≤ j * n = row_before k j n before in
          record {
            end = row.end;
            of_sample = row.of_sample;
            has_values = row.has_values;
            has_used = wanted_kept (j * n) n (k * n) n (number_at stop.cursors) (number_at row.end.cursors) useds useds'
                low (inr puts) row.has_used;
            pops = counts_kept j stop.pops stuck (2 * k) counts counts' are (inl (omega (arith, before))) ∙ row.pops;
            stuck = counts_kept j stop.pops stuck (2 * k + 1) counts counts' are (inl (omega (arith, before)))
                ∙ row.stuck;
          };
      stop = record { stop = stop; of_sample = of; has_used = puts.here; pops = put.0; stuck = put.1 };
      limited = all.0;
      spent = all.1;
      values_stay = stand.values_stay;
      useds_stay = stays_behind (j * n) n ((j + 1) * n) (number_at stop.cursors) old.useds useds useds' next puts
          stand.useds_stay;
      counts_stay = counts_stay j stop.pops stuck old.counts counts counts' are stand.counts_stay;
    }
