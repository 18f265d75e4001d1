-- The text of an orientation's sample by the numbers of its row: the value of each edge, and its cursor.
use Rattle.std.proofs.Common.{◌≡◌, ℕ, ◌+◌, ◌*◌, ◌<◌, List, [], length, get_or, sym, ap, subst}
use Rattle.pop_model.specs.Stacks.{IsKeyed}
use Rattle.pop_model.specs.Instances.{Instance}
use Rattle.graph_read.specs.Graphs.{GraphOf}
use Rattle.confluence_core.specs.declared.end.End.{End}
use Rattle.pop_print.specs.declared.facts.Facts.TheVariants.{Orient as OrientFacts}
use Rattle.pop_print.specs.Output.{edge_line, orientation_lines, oriented_line}
use Rattle.array_calls.specs.Values.{AreOfPairs, AreSinksUnder, IsValueRow}
use Rattle.array_calls.proofs.ValueRows.{have_values}
use Rattle.array_laws.specs.PrintedRows.{IsTextOfOrientation, numbers_from, row_edge, row_edges}
use Rattle.array_laws.proofs.BatchTexts.{end_told, text_at}
use Rattle.array_laws.proofs.Numbered.{lines_alike}
use Rattle.array_laws.proofs.RowNumbers.{of_place, row_list}

module _ (g : GraphOf) (key : List ℕ) (height : ℕ) (i : Instance) (sinks : AreSinksUnder key height g i) (first j : ℕ)
    (directions useds counts : List ℕ) (row : IsValueRow i (length g.edges) first [] j directions useds counts) where
  -- how many edges there are, and where the row begins
  abbrev n : ℕ
  n = length g.edges

  abbrev at : ℕ
  at = j * n

  abbrev end : End
  end = row.end

  pairs : AreOfPairs n i.stacks
  pairs = record { keyed = subst (λ (k : Instance). IsKeyed k.stacks.origin) (sym sinks.is) tt; is = ap (λ (k : Instance). k.stacks.weights) sinks.is }

  -- the lines of the edges
  lines : orientation_lines g end.values ≡ row_edges g at directions
  lines =
      lines_alike (edge_line end.values) (row_edge at directions) g.edges (λ v e less.
      ap (λ (x : ℕ). oriented_line e (v + 1) x) (of_place n at end.values directions row.has_values v less))

  -- and the cursors
  used_are : 0 < length useds → end.cursors ≡ numbers_from at n useds
  used_are some =
      row_list n at end.cursors useds (have_values i n (first + j) end pairs row.of_sample.over).0 (row.has_used some)

  -- the text of the sample
  pub orientation_told : 0 < length useds → (text : List ℕ) → text ≡ text_at (OrientFacts g) i (first + j) end
      → IsTextOfOrientation g i j directions useds counts text
  orientation_told some text is =
      end_told (OrientFacts g) i (first + j) end (row_edges g at directions) (numbers_from at n useds)
      (get_or counts (2 * j) 0) (get_or counts (2 * j + 1) 0) text row.of_sample is lines (used_are some) row.pops
      row.stuck
