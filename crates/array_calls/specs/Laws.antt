-- Theorems about calls that stop and continue.
use Rattle.std.specs.Prelude.{◌≡◌, ℕ, zero, suc, ◌+◌, ◌*◌, ◌<◌, List, [], length, map, slice_index, slice_set}
use Rattle.std.specs.List.{range_with_len}
use Rattle.pop_model.specs.Instances.{Instance}
use Rattle.pop_model.specs.Extremal.{IsExtremal}
use Rattle.graph_read.specs.Graphs.{GraphOf, IsVertex}
use Rattle.array_calls.specs.Trees.{IsTreeRow, IsTreeStop, trees_under, without_root}
use Rattle.array_calls.specs.Rounded.{IsRoundRow, IsRoundStop}
use Rattle.array_calls.specs.Values.{AreOfPairs, IsValueRow, IsValueStop}

-- a row of n numbers
abbrev pub row_at : ℕ → ℕ → List ℕ → List ℕ
row_at at n numbers = map (λ k. slice_index numbers (at + k)) (range_with_len 0 n)

-- what a call was given for row j, as another call receives it for its row 0
abbrev pub from_at : List ℕ → ℕ → List ℕ
from_at from zero = from
from_at from (suc j) = []

-- the counts of a first row, with these earlier pops added
abbrev pub with_pops : ℕ → List ℕ → List ℕ
with_pops pops counts = slice_set counts 0 (pops + slice_index counts 0)

-- A call for trees stopped at row j. Another call continues from that row of cursors to the end of
-- its row 0. With the pops of both calls, this is the row of the run that did not stop.
abbrev pub TreeRowGoesOn : Type 0
TreeRowGoesOn = (key : List ℕ) (height : ℕ) (g : GraphOf) (root first : ℕ) (from : List ℕ) (j : ℕ)
    (useds counts parents' edges' useds' counts' : List ℕ) → IsVertex g.vertices root → 1 < length counts'
    → IsTreeStop (trees_under key height g root) g root first from j useds counts
    → IsTreeRow (trees_under key height g root) g root (first + j)
    (without_root root (row_at (j * g.vertices) g.vertices useds)) 0 parents' edges' useds' counts'
    → IsTreeRow (trees_under key height g root) g root (first + j) (from_at from j) 0 parents' edges' useds'
    (with_pops (slice_index counts (2 * j)) counts')

-- the same for a call for values
abbrev pub ValueRowGoesOn : Type 0
ValueRowGoesOn = (i : Instance) (n first : ℕ) (from : List ℕ) (j : ℕ)
    (useds counts values' useds' counts' : List ℕ) → IsExtremal i.family → AreOfPairs n i.stacks
    → 1 < length counts' → IsValueStop i n first from j useds counts
    → IsValueRow i n (first + j) (row_at (j * n) n useds) 0 values' useds' counts'
    → IsValueRow i n (first + j) (from_at from j) 0 values' useds' (with_pops (slice_index counts (2 * j)) counts')

-- and with one by rounds, whatever the events
abbrev pub RoundRowGoesOn : Type 0
RoundRowGoesOn = (i : Instance) (n first : ℕ) (from : List ℕ) (j : ℕ)
    (useds counts values' useds' counts' : List ℕ) → AreOfPairs n i.stacks
    → 1 < length counts' → IsRoundStop i n first from j useds counts
    → IsRoundRow i n (first + j) (row_at (j * n) n useds) 0 values' useds' counts'
    → IsRoundRow i n (first + j) (from_at from j) 0 values' useds' (with_pops (slice_index counts (2 * j)) counts')
