-- A row of cursors that a call left when it stopped gives the cursors back. So another call that continues from it
-- continues the same run. A run that is stopped and continued reaches the end of the run that is not stopped.
use Rattle.std.proofs.Common.{inl, inr, ◌≡◌, ◌≢◌, ℕ, zero, suc, ◌+◌, ◌-◌, ◌*◌, ◌<◌, ◌≤◌, cond, lt-ltb, le-ltb, List, [], ◌∷◌, length, replicate, set, get_or, refl, sym, ap, subst, ◌∙◌, arith, zero-add, ne_eqb}
use Rattle.std.specs.Prelude.{Option, None, Some, map}
use Rattle.std.specs.List.{range_with_len}
use Rattle.std.proofs.lemmas.Bool.{cases_lt}
use Rattle.std.proofs.lemmas.List.{same_lists, get_or-set_same, get_or-set_other}
use Rattle.std.proofs.lemmas.List.FromFn.{length-map-range_with_len, get_or-map-range_with_len}
use Rattle.std.proofs.lemmas.Grind.{get_or_default_zero}
use Rattle.pop_model.specs.Stacks.{variables_of}
use Rattle.pop_model.specs.Instances.{Instance, instance_for}
use Rattle.pop_model.specs.Runs.{start_of}
use Rattle.pop_model.specs.Extremal.{IsExtremal}
use Rattle.pop_model.specs.Names.{vertex_of}
use Rattle.pop_model.proofs.CycleFamily.{cycles_extremal}
use Rattle.graph_read.specs.Graphs.{GraphOf, IsVertex}
use Rattle.cycle_popping.specs.Trees.{heads_of_tree}
use Rattle.confluence_core.specs.declared.end.End.{End}
use Rattle.pop_batch.specs.Parts.{IsEndFrom, IsPartEnd, IsPartStop, pops_with, start_at}
use Rattle.pop_batch.proofs.StopsKeepEnd.{stops_keep_end}
use Rattle.pop_batch.proofs.StoppedRuns.{end_at}
use Rattle.array_calls.specs.Draws.{given}
use Rattle.array_calls.specs.Rows.{HasRow}
use Rattle.array_calls.specs.Trees.{AreTreesOf, IsTreeRow, IsTreeStop, trees_under, used, variable_at, without_root}
use Rattle.array_calls.specs.Rounded.{IsRoundedEnd}
use Rattle.array_calls.specs.Values.{AreOfPairs, Ends, IsRow, number_at}
use Rattle.array_calls.specs.Laws.{RoundRowGoesOn, TreeRowGoesOn, ValueRowGoesOn, from_at, row_at, with_pops}
use Rattle.array_calls.proofs.RoundParts.{rounds_gone_on}
use Rattle.array_calls.proofs.TreeParts.{have_cursors}
use Rattle.array_calls.proofs.ValueRows.{have_values}

-- a row is as long as it is to be
row_size : (at n : ℕ) (numbers : List ℕ) → length (row_at at n numbers) ≡ n
row_size at n numbers = length-map-range_with_len (λ k. get_or numbers (at + k) 0) 0 n

-- and has the numbers from its place on
row_number : (at n k : ℕ) (numbers : List ℕ) → k < n → get_or (row_at at n numbers) k 0 ≡ get_or numbers (at + k) 0
row_number at n k numbers below =
    get_or-map-range_with_len (λ m. get_or numbers (at + m) 0) 0 n k k 0 below (zero-add k)

-- lists of one length are one where their numbers are
same_numbers : (xs ys : List ℕ) → length xs ≡ length ys
    → ((k : ℕ) → k < length xs → get_or xs k 0 ≡ get_or ys k 0) → xs ≡ ys
same_numbers xs ys size same =
    same_lists xs ys size (λ k d below.
    get_or_default_zero xs k d below ∙ same k below ∙ sym (get_or_default_zero ys k d (omega (arith, below, size))))

-- a row of values gives the cursors back
row_back : (at n : ℕ) (cursors numbers : List ℕ) → length cursors ≡ n → HasRow at n (number_at cursors) numbers
    → row_at at n numbers ≡ cursors
row_back at n cursors numbers count has =
    let size = row_size at n numbers in
    same_numbers (row_at at n numbers) cursors (size ∙ sym count) (λ k below.
    let within : k < n = omega (arith, below, size) in
    let place : k + 1 - 1 ≡ k = omega arith in
    row_number at n k numbers within ∙ has k within ∙ ap (λ m. get_or cursors m 0) place)

-- the variable of a variable's vertex is that variable, and the vertex isn't the root
variable_back : (root v : ℕ) → 1 ≤ root
    → (variable_at root (vertex_of root v) ≡ v) × ((vertex_of root v ≢ root) × (1 ≤ vertex_of root v))
variable_back root v some = elim (cases_lt (v + 1) root) [
  | inl low ↦
      let is : vertex_of root v ≡ v + 1 = ap (λ b. cond b (v + 1) (v + 2)) (lt-ltb (v + 1) root low) in (
        ap (variable_at root) is ∙ ap (λ b. cond b (v + 1 - 1) (v + 1 - 2)) (lt-ltb (v + 1) root low) ∙ omega arith,
        (λ same. absurd (omega (arith, is, same, low)), omega (arith, is)),
      )
  | inr high ↦
      let is : vertex_of root v ≡ v + 2 = ap (λ b. cond b (v + 1) (v + 2)) (le-ltb (v + 1) root high) in (
        ap (variable_at root) is
            ∙ ap (λ b. cond b (v + 2 - 1) (v + 2 - 2)) (le-ltb (v + 2) root (omega (arith, high)))
            ∙ omega arith,
        (λ same. absurd (omega (arith, is, same, high)), omega (arith, is)),
      )
]

-- it is one of the vertices
vertex_within : (root v n : ℕ) → v < n - 1 → vertex_of root v - 1 < n
vertex_within root v n below = elim (cases_lt (v + 1) root) [
  | inl low ↦ (let is : vertex_of root v ≡ v + 1 = ap (λ b. cond b (v + 1) (v + 2)) (lt-ltb (v + 1) root low) in
      omega (arith, is, below))
  | inr high ↦ (let is : vertex_of root v ≡ v + 2 = ap (λ b. cond b (v + 1) (v + 2)) (le-ltb (v + 1) root high) in
      omega (arith, is, below))
]

-- a row of the vertices of trees gives the cursors back
tree_row_back : (at n root : ℕ) (cursors numbers : List ℕ) → IsVertex n root → length cursors + 1 ≡ n
    → HasRow at n (used root cursors) numbers → without_root root (row_at at n numbers) ≡ cursors
tree_row_back at n root cursors numbers root_is count has =
    let row = row_at at n numbers in
    let number : ℕ → ℕ = λ v. get_or row (vertex_of root v - 1) 0 in
    let row_is = row_size at n numbers in
    let size = length-map-range_with_len number 0 (length row - 1) in
    same_numbers (without_root root row) cursors (omega (arith, size, row_is, count)) (λ v below.
    let within : v < length row - 1 = omega (arith, below, size) in
    let w = vertex_of root v in
    let back = variable_back root v root_is.first in
    let place : w - 1 < n = vertex_within root v n (omega (arith, within, row_is)) in
    let vertex : w - 1 + 1 ≡ w = (let first = back.1.1 in omega (arith, first)) in
    get_or-map-range_with_len number 0 (length row - 1) v v 0 within (zero-add v)
    ∙ row_number at n (w - 1) numbers place
    ∙ has (w - 1) place
    ∙ ap (used root cursors) vertex
    ∙ ap (λ b. cond b 0 (get_or cursors (variable_at root w) 0)) (ne_eqb w root back.1.0)
    ∙ ap (λ u. get_or cursors u 0) back.0)

-- no cursors are the start of an instance without variables
no_start : (i : Instance) (c : List ℕ) → variables_of i.stacks ≡ length c → [] ≡ c → start_of i ≡ c
no_start i c count are =
    let none : variables_of i.stacks ≡ 0 = count ∙ ap length (sym are) in
    ap (λ n. replicate n 0) none ∙ are

-- a run from cursors that are those of a stop goes on from the stop
from_cursors : (i : Instance) (j : ℕ) (stop end : End) (more : List ℕ) → more ≡ stop.cursors
    → variables_of i.stacks ≡ length stop.cursors → IsPartEnd i j (given more 0) end
    → IsPartEnd i j (Some stop.cursors) end
from_cursors i j stop end [] are count is =
    subst (λ c. IsEndFrom (instance_for j i) c end) (no_start i stop.cursors count are) (end_at i j None end is)
from_cursors i j stop end (k ∷ more) are count is = subst (λ c. IsEndFrom (instance_for j i) c end) are is

-- where a run goes on from the place at which it was stopped, it comes to the end of the run that wasn't
gone_on : (i : Instance) (j : ℕ) (from : Option (List ℕ)) (stop end : End) (more : List ℕ) → IsExtremal i.family
    → more ≡ stop.cursors → IsPartStop i j from stop → IsPartEnd i j (given more 0) end
    → IsPartEnd i j from (record end { pops = stop.pops + end.pops })
gone_on i j from stop end more extremal are at is =
    subst (λ n. IsPartEnd i j from (record end { pops = n })) (omega arith)
    (stops_keep_end i j from (stop ∷ []) end extremal (at, from_cursors i j stop end more are at.over.count is))

-- what another call is given for its row 0 is what this one was given for its row
from_given : (from : List ℕ) (j : ℕ) → given (from_at from j) 0 ≡ given from j
from_given from zero = refl
from_given [] (suc j) = refl
from_given (k ∷ from) (suc j) = refl

-- the counts of a first row with pops before it
counts_with : (pops : ℕ) (counts : List ℕ) → 1 < length counts
    → (get_or (with_pops pops counts) 0 0 ≡ pops + get_or counts 0 0)
    × (get_or (with_pops pops counts) 1 0 ≡ get_or counts 1 0)
counts_with pops counts some = (
  get_or-set_same counts 0 (pops + get_or counts 0 0) 0 (omega (arith, some)),
  get_or-set_other counts 0 1 (pops + get_or counts 0 0) 0 (λ same. absurd (omega (arith, same))),
)

pub tree_row_goes_on : TreeRowGoesOn
tree_row_goes_on key height g root first from j useds counts parents' edges' useds' counts' root_is some stop row =
    let i = trees_under key height g root in
    let number = first + j in
    let here = stop.stop in
    let over = stop.of_sample.over in
    let trees : AreTreesOf g root i = record { key = key; height = height; is = refl } in
    let back = tree_row_back (j * g.vertices) g.vertices root here.cursors useds root_is
    (have_cursors g root i number here root_is trees over) stop.has_used in
    let more = without_root root (row_at (j * g.vertices) g.vertices useds) in
    let rest : IsPartEnd i number (given more 0) row.end =
    subst (λ m. IsPartEnd i m (given more 0) row.end) (omega arith) row.of_sample in
    let whole = gone_on i number (given from j) here row.end more (cycles_extremal (heads_of_tree g root)) back
    stop.of_sample rest in
    let counted = counts_with (get_or counts (2 * j) 0) counts' some in
    let pops = stop.pops in
    let pops' = row.pops in
    record {
      end = record row.end { pops = here.pops + row.end.pops };
      of_sample = subst (λ f. IsPartEnd i (number + 0) f (record row.end { pops = here.pops + row.end.pops }))
          (sym (from_given from j))
          (subst (λ m. IsPartEnd i m (given from j) (record row.end { pops = here.pops + row.end.pops })) (omega arith)
          whole);
      has_parents = row.has_parents;
      has_edges = row.has_edges;
      has_used = row.has_used;
      pops = counted.0 ∙ omega (arith, pops, pops');
      stuck = counted.1 ∙ row.stuck;
    }

-- so is the row of a sample that went on from where it stopped
gone_row : (IsItsEnd : Ends) (n first : ℕ) (from : List ℕ) (j : ℕ) (more : List ℕ) (here : End)
    (counts values' useds' counts' : List ℕ) → 1 < length counts' → get_or counts (2 * j) 0 ≡ here.pops
    → (row : IsRow IsItsEnd n (first + j) more 0 values' useds' counts')
    → IsItsEnd (first + j) (given from j) (record row.end { pops = here.pops + row.end.pops })
    → IsRow IsItsEnd n (first + j) (from_at from j) 0 values' useds' (with_pops (get_or counts (2 * j) 0) counts')
gone_row IsItsEnd n first from j more here counts values' useds' counts' some pops row whole =
    let counted = counts_with (get_or counts (2 * j) 0) counts' some in
    let pops' = row.pops in
    let end : End = record row.end { pops = here.pops + row.end.pops } in
    record {
      end = end;
      of_sample = subst (λ f. IsItsEnd (first + j + 0) f end) (sym (from_given from j))
          (subst (λ m. IsItsEnd m (given from j) end) (omega arith) whole);
      has_values = row.has_values;
      has_used = row.has_used;
      pops = counted.0 ∙ omega (arith, pops, pops');
      stuck = counted.1 ∙ row.stuck;
    }

pub value_row_goes_on : ValueRowGoesOn
value_row_goes_on i n first from j useds counts values' useds' counts' extremal pairs some stop row =
    let number = first + j in
    let here = stop.stop in
    let has = have_values i n number here pairs stop.of_sample.over in
    let back = row_back (j * n) n here.cursors useds has.0 stop.has_used in
    let more = row_at (j * n) n useds in
    let rest : IsPartEnd i number (given more 0) row.end =
    subst (λ m. IsPartEnd i m (given more 0) row.end) (omega arith) row.of_sample in
    gone_row (IsPartEnd i) n first from j more here counts values' useds' counts' some stop.pops row
    (gone_on i number (given from j) here row.end more extremal back stop.of_sample rest)

-- the cursors at which a call goes on from such a row
begins_at : (i : Instance) (c more : List ℕ) → variables_of i.stacks ≡ length c → more ≡ c
    → start_at i (given more 0) ≡ c
begins_at i c [] count are = no_start i c count are
begins_at i c (k ∷ more) count are = are

pub round_row_goes_on : RoundRowGoesOn
round_row_goes_on i n first from j useds counts values' useds' counts' pairs some stop row =
    let number = first + j in
    let here = stop.stop in
    let over = stop.of_sample.over in
    let has = have_values i n number here pairs over in
    let back = row_back (j * n) n here.cursors useds has.0 stop.has_used in
    let more = row_at (j * n) n useds in
    let begins = begins_at (instance_for number i) here.cursors more over.count back in
    let rest : IsRoundedEnd i number (given more 0) row.end =
    subst (λ m. IsRoundedEnd i m (given more 0) row.end) (omega arith) row.of_sample in
    gone_row (IsRoundedEnd i) n first from j more here counts values' useds' counts' some stop.pops row
    (rounds_gone_on i number (given from j) (given more 0) here row.end begins stop.of_sample rest)
