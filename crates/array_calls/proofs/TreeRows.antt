-- The rows of samples, as they are put one by one.
use Rattle.std.proofs.Common.{◌≡◌, inl, inr, ℕ, ◌+◌, ◌*◌, ◌<◌, ◌≤◌, ◌^◌, List, length, set, get_or, refl, sym, ap, subst, ◌∙◌, arith, Option, None, Some}
use Rattle.std.specs.Prelude.{◌⊎◌, MatchOption}
use Rattle.std.proofs.lemmas.Bool.{cases_eq}
use Rattle.std.proofs.lemmas.Nat.{mul-le}
use Rattle.std.proofs.Math.Nat.{add-mul}
use Rattle.pop_model.specs.Instances.{Instance}
use Rattle.graph_read.specs.Graphs.{GraphOf}
use Rattle.confluence_core.specs.declared.end.End.{End}
use Rattle.pop_batch.specs.Parts.{IsPartEnd, IsPartStop}
use Rattle.array_calls.specs.Rows.{PutsRow, PutsWanted, StaysFrom}
use Rattle.array_calls.specs.Draws.{AreWithinBudget, given, less, unlimited}
use Rattle.array_calls.specs.Trees.{AreTreeRows, EndsTrees, FitRows, FitsWanted, IsTreeRow, StopsAtTree, TreeArrays, edge_number, parent, tree_arrays, used}
use Rattle.array_calls.proofs.Budgets.{Remains, budget_spent, remains_all, remains_less, within_budget}
use Rattle.array_calls.proofs.PutRows.{counts_kept, counts_put, counts_stay, row_kept, stays_all, stays_behind, wanted_kept, wanted_row, wanted_size, wanted_stays}

-- the rows before here are at their ends, nothing from here on was touched, and so much of the budget is left
pub record RowsStand (i : Instance) (g : GraphOf) (root first : ℕ) (from : List ℕ) (budget count j left : ℕ)
    (old : TreeArrays) (parents edges useds counts : List ℕ) : Type 0 where
  pub rows : AreTreeRows i g root first from j parents edges useds counts
  pub fit : FitRows g.vertices count parents edges useds
  pub parents_stay : StaysFrom (j * g.vertices) old.parents parents
  pub edges_stay : StaysFrom (j * g.vertices) old.edges edges
  pub useds_stay : StaysFrom (j * g.vertices) old.useds useds
  pub counts_stay : StaysFrom (2 * j) old.counts counts
  pub remains : Remains budget left j counts

-- at first none is
pub rows_none : (i : Instance) (g : GraphOf) (root first : ℕ) (from : List ℕ) (budget count : ℕ)
    (parents edges useds counts : List ℕ) → budget ≤ unlimited → FitRows g.vertices count parents edges useds
    → RowsStand i g root first from budget count 0 budget (tree_arrays parents edges useds counts) parents edges useds
    counts
rows_none i g root first from budget count parents edges useds counts most fit = record {
  rows = λ j less. absurd (omega (arith, less));
  fit = fit;
  parents_stay = stays_all (0 * g.vertices) parents;
  edges_stay = stays_all (0 * g.vertices) edges;
  useds_stay = stays_all (0 * g.vertices) useds;
  counts_stay = stays_all 0 counts;
  remains = remains_all budget counts most;
}

-- a row is behind those before it
pub row_before : (k j n : ℕ) → k < j → k * n + n ≤ j * n
row_before k j n less = omega (arith, mul-le (k + 1) n j n (omega (arith, less)) (omega arith), add-mul k 1 n)

-- there is room for a row
pub row_fits : (j count n : ℕ) (numbers : List ℕ) → j < count → length numbers ≡ count * n
    → j * n + n ≤ length numbers
row_fits j count n numbers less size = omega (arith, row_before j count n less, size)

-- in each array that is wanted
pub wanted_fits : (j count n : ℕ) (numbers : List ℕ) → j < count → FitsWanted n count numbers
    → (length numbers ≡ 0) ⊎ (j * n + n ≤ length numbers)
wanted_fits j count n numbers less fits = elim fits [
  | inl none ↦ inl none
  | inr size ↦ inr (row_fits j count n numbers less size)
]

-- also in that of edges, where the edges at each vertex are at hand
pub edges_fit : (j count : ℕ) (g : GraphOf) (incidence : Option GraphOf) (old edges : List ℕ) → j < count
    → FitsWanted g.vertices count edges → length edges ≡ length old
    → MatchOption incidence (length old ≡ 0) (λ x. (x ≡ g) × (0 < length old))
    → MatchOption incidence (length edges ≡ 0) (λ x. (x ≡ g) × (j * g.vertices + g.vertices ≤ length edges))
edges_fit j count g None old edges less fits size found = size ∙ found
edges_fit j count g (Some x) old edges less fits size found = (
  found.0,
  elim fits [
    | inl none ↦ (let some = found.1 in absurd (omega (arith, none, size, some)))
    | inr all ↦ row_fits j count g.vertices edges less all
  ],
)

-- an array keeps its rows' count
pub kept_wanted : (n count : ℕ) (old new : List ℕ) → length new ≡ length old → FitsWanted n count old
    → FitsWanted n count new
kept_wanted n count old new size fits = elim fits [
  | inl none ↦ inl (size ∙ none)
  | inr all ↦ inr (size ∙ all)
]

-- rows of another kind stay where a row behind them is put
kept_row : (i : Instance) (g : GraphOf) (root first : ℕ) (from : List ℕ) (j k pops stuck : ℕ)
    (parents edges useds counts parents' edges' useds' counts' : List ℕ) (numbers numbers' numbers'' : ℕ → ℕ) → k < j
    → PutsRow (j * g.vertices) g.vertices numbers parents parents'
    → PutsWanted (j * g.vertices) g.vertices numbers' edges edges'
    → PutsWanted (j * g.vertices) g.vertices numbers'' useds useds'
    → counts' ≡ set (set counts (2 * j) pops) (2 * j + 1) stuck
    → IsTreeRow i g root first from k parents edges useds counts
    → IsTreeRow i g root first from k parents' edges' useds' counts'
kept_row i g root first from j k pops stuck parents edges useds counts parents' edges' useds' counts' numbers numbers'
    numbers'' before puts puts_edges puts_useds are row =
    let n = g.vertices in
    let low : k * n + n ≤ j * n = row_before k j n before in
    record {
      end = row.end;
      of_sample = row.of_sample;
      has_parents = row_kept (j * n) n (k * n) n numbers (parent g root row.end.values) parents parents' low puts
          row.has_parents;
      has_edges = wanted_kept (j * n) n (k * n) n numbers' (edge_number g root row.end.values) edges edges' low
          puts_edges row.has_edges;
      has_used = wanted_kept (j * n) n (k * n) n numbers'' (used root row.end.cursors) useds useds' low puts_useds
          row.has_used;
      pops = counts_kept j pops stuck (2 * k) counts counts' are (inl (omega (arith, before))) ∙ row.pops;
      stuck = counts_kept j pops stuck (2 * k + 1) counts counts' are (inl (omega (arith, before))) ∙ row.stuck;
    }

-- with a row more
pub rows_more : (i : Instance) (g : GraphOf) (root first : ℕ) (from : List ℕ) (budget count j left : ℕ) (end : End)
    (old : TreeArrays) (parents edges useds counts parents' edges' useds' counts' : List ℕ)
    → IsPartEnd i (first + j) (given from j) end → end.pops ≤ left → 2 * j + 1 < length counts
    → PutsRow (j * g.vertices) g.vertices (parent g root end.values) parents parents'
    → PutsWanted (j * g.vertices) g.vertices (edge_number g root end.values) edges edges'
    → PutsWanted (j * g.vertices) g.vertices (used root end.cursors) useds useds'
    → counts' ≡ set (set counts (2 * j) end.pops) (2 * j + 1) (length end.stuck)
    → RowsStand i g root first from budget count j left old parents edges useds counts
    → RowsStand i g root first from budget count (j + 1) (less left end.pops) old parents' edges' useds' counts'
rows_more i g root first from budget count j left end old parents edges useds counts parents' edges' useds' counts' of
    most within puts puts_edges puts_useds are stand =
    let n = g.vertices in
    let stuck = length end.stuck in
    let edges_is = wanted_size (j * n) n (edge_number g root end.values) edges edges' puts_edges in
    let useds_is = wanted_size (j * n) n (used root end.cursors) useds useds' puts_useds in
    let next : j * n + n ≤ (j + 1) * n = omega (arith, add-mul j 1 n) in
    let put = counts_put j end.pops stuck counts counts' within are in
    let here : IsTreeRow i g root first from j parents' edges' useds' counts' = record {
      end = end;
      of_sample = of;
      has_parents = puts.here;
      has_edges = wanted_row (j * n) n (edge_number g root end.values) edges edges' puts_edges;
      has_used = wanted_row (j * n) n (used root end.cursors) useds useds' puts_useds;
      pops = put.0;
      stuck = put.1;
    } in
    record {
      rows = λ k less. elim (cases_eq k j) [
        | inl same ↦ subst (λ m. IsTreeRow i g root first from m parents' edges' useds' counts') (sym same) here
        | inr other ↦
            let before : k < j = omega (arith, less, other) in
            kept_row i g root first from j k end.pops stuck parents edges useds counts parents' edges' useds' counts'
            (parent g root end.values) (edge_number g root end.values) (used root end.cursors) before puts puts_edges
            puts_useds are (stand.rows k before)
      ];
      fit = record {
        parents_fit = puts.size ∙ stand.fit.parents_fit;
        edges_fit = kept_wanted n count edges edges' edges_is stand.fit.edges_fit;
        useds_fit = kept_wanted n count useds useds' useds_is stand.fit.useds_fit;
      };
      parents_stay = stays_behind (j * n) n ((j + 1) * n) (parent g root end.values) old.parents parents parents' next
          puts stand.parents_stay;
      edges_stay = wanted_stays (j * n) n ((j + 1) * n) (edge_number g root end.values) old.edges edges edges' next
          puts_edges stand.edges_stay;
      useds_stay = wanted_stays (j * n) n ((j + 1) * n) (used root end.cursors) old.useds useds useds' next puts_useds
          stand.useds_stay;
      counts_stay = counts_stay j end.pops stuck old.counts counts counts' are stand.counts_stay;
      remains = remains_less budget left j end.pops stuck counts counts' within are most stand.remains;
    }

-- all rows are at their ends
pub rows_end : (i : Instance) (g : GraphOf) (root first : ℕ) (from : List ℕ) (budget count j left : ℕ)
    (old : TreeArrays) (parents edges useds counts : List ℕ) → j ≡ count
    → RowsStand i g root first from budget count j left old parents edges useds counts
    → EndsTrees i g root first from budget count (tree_arrays parents edges useds counts)
rows_end i g root first from budget count j left old parents edges useds counts all stand = record {
  rows = subst (λ m. AreTreeRows i g root first from m parents edges useds counts) all stand.rows;
  within = subst (λ m. AreWithinBudget budget m counts) all (within_budget budget left j counts stand.remains);
}

-- or the call stopped at one
pub rows_stop : (i : Instance) (g : GraphOf) (root first : ℕ) (from : List ℕ) (budget count j left : ℕ) (stop : End)
    (old : TreeArrays) (parents edges useds counts useds' counts' : List ℕ) → j < count
    → IsPartStop i (first + j) (given from j) stop → stop.pops ≡ left → stop.pops < 2 ^ 63 → 2 * j + 1 < length counts
    → PutsRow (j * g.vertices) g.vertices (used root stop.cursors) useds useds'
    → counts' ≡ set (set counts (2 * j) stop.pops) (2 * j + 1) (length stop.stuck)
    → RowsStand i g root first from budget count j left old parents edges useds counts
    → StopsAtTree i g root first from budget count old (tree_arrays parents edges useds' counts') j
rows_stop i g root first from budget count j left stop old parents edges useds counts useds' counts' below of spent few
    within puts are stand =
    let n = g.vertices in
    let stuck = length stop.stuck in
    let next : j * n + n ≤ (j + 1) * n = omega (arith, add-mul j 1 n) in
    let put = counts_put j stop.pops stuck counts counts' within are in
    let all = budget_spent budget left j stop.pops stuck counts counts' within are spent few stand.remains in
    record {
      below = below;
      rows = λ k before.
          let row = stand.rows k before in
          let low : k * n + n ≤ j * n = row_before k j n before in
          record {
            end = row.end;
            of_sample = row.of_sample;
            has_parents = row.has_parents;
            has_edges = row.has_edges;
            has_used = wanted_kept (j * n) n (k * n) n (used root stop.cursors) (used root row.end.cursors) useds useds'
                low (inr puts) row.has_used;
            pops = counts_kept j stop.pops stuck (2 * k) counts counts' are (inl (omega (arith, before))) ∙ row.pops;
            stuck = counts_kept j stop.pops stuck (2 * k + 1) counts counts' are (inl (omega (arith, before)))
                ∙ row.stuck;
          };
      stop = record { stop = stop; of_sample = of; has_used = puts.here; pops = put.0; stuck = put.1 };
      limited = all.0;
      spent = all.1;
      parents_stay = stand.parents_stay;
      edges_stay = stand.edges_stay;
      useds_stay = stays_behind (j * n) n ((j + 1) * n) (used root stop.cursors) old.useds useds useds' next puts
          stand.useds_stay;
      counts_stay = counts_stay j stop.pops stuck old.counts counts counts' are stand.counts_stay;
    }
