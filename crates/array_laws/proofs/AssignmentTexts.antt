-- The text of an assignment by the numbers of its row: the value of each variable, and its cursor.
use Rattle.std.proofs.Common.{◌≡◌, ℕ, ◌+◌, ◌*◌, ◌≤◌, ◌++◌, List, [], length, get_or, sym, ap, ap₂, subst, ◌∙◌, arith, Option}
use Rattle.pop_model.specs.Families.{Event}
use Rattle.pop_model.specs.Instances.{Instance, instance_for}
use Rattle.pop_model.specs.Popping.{values_at}
use Rattle.confluence_core.specs.declared.end.End.{End}
use Rattle.prs_rounds.specs.Laws.{SameRoundsEnd}
use Rattle.prs_rounds.specs.Rounds.{IsRoundsEnd}
use Rattle.prs_rounds.proofs.OneRun.{one_rounds_end}
use Rattle.pop_print.specs.declared.facts.Facts.{Facts}
use Rattle.pop_print.specs.declared.facts.Facts.TheVariants.{Formula as FormulaFacts}
use Rattle.pop_print.specs.Output.{assignment_line, used_line}
use Rattle.pop_print.specs.Rounds.{rounds_line, rounds_text, short_line}
use Rattle.array_calls.specs.Rounded.{IsRoundRow}
use Rattle.array_calls.specs.Rows.{HasRow}
use Rattle.array_calls.specs.Values.{AreOfPairs, IsValueRow, number_at}
use Rattle.array_calls.proofs.ValueRows.{have_values}
use Rattle.array_laws.specs.BatchTexts.{found_of}
use Rattle.array_laws.specs.PrintedRows.{numbers_from}
use Rattle.array_laws.specs.PrintedAssignments.{IsTextOfAssignment, IsTextOfRounds, row_assignment}
use Rattle.array_laws.proofs.BatchTexts.{end_told, found_same, text_at}
use Rattle.array_laws.proofs.RowNumbers.{row_list}

module _ (n : ℕ) (i : Instance) (pairs : AreOfPairs n i.stacks) where
  -- the text of a sample by popping
  pub assignment_told : (first j : ℕ) (values useds counts : List ℕ) → n ≤ length useds
      → (row : IsValueRow i n first [] j values useds counts) (text : List ℕ)
      → text ≡ text_at (FormulaFacts n) i (first + j) row.end → IsTextOfAssignment n i j values useds counts text
  assignment_told first j values useds counts some row text is =
      let end : End = row.end in
      let at : ℕ = j * n in
      let sizes = have_values i n (first + j) end pairs row.of_sample.over in
      let values_are : end.values ≡ numbers_from at n values =
      row_list n at end.values values sizes.1 row.has_values in
      let cursors_are : end.cursors ≡ numbers_from at n useds =
      row_list n at end.cursors useds sizes.0 (λ k less. row.has_used (omega (arith, less, some)) k less) in
      end_told (FormulaFacts n) i (first + j) end (row_assignment at n values) (numbers_from at n useds)
      (get_or counts (2 * j) 0) (get_or counts (2 * j + 1) 0) text row.of_sample is (ap assignment_line values_are)
      cursors_are row.pops row.stuck

  module _ (values useds counts : List ℕ) (some : n ≤ length useds) (row : IsRoundRow i n 0 [] 0 values useds counts)
      (one : instance_for 0 i ≡ i) where
    abbrev end : End
    end = row.end

    -- row 0 begins at the place 0
    first_row : (list numbers : List ℕ) → length list ≡ n → HasRow (0 * n) n (number_at list) numbers
        → list ≡ numbers_from 0 n numbers
    first_row list numbers size has =
        let none : 0 * n ≡ 0 = omega arith in
        row_list n 0 list numbers size (subst (λ (m : ℕ). HasRow m n (number_at list) numbers) none has)

    values_are : end.values ≡ numbers_from 0 n values
    values_are = first_row end.values values (have_values i n 0 end pairs row.of_sample.over).1 row.has_values

    cursors_are : end.cursors ≡ numbers_from 0 n useds
    cursors_are =
        first_row end.cursors useds (have_values i n 0 end pairs row.of_sample.over).0
        (λ k less. row.has_used (omega (arith, less, some)) k less)

    -- what the row has of the end of the rounds
    rounds_end : IsRoundsEnd i end.cursors end.pops end.stuck row.of_sample.short
    rounds_end =
        subst (λ (k : Instance). IsRoundsEnd k end.cursors end.pops end.stuck row.of_sample.short) one
        (record { run = row.of_sample.run; end = row.of_sample.last; stuck_list = row.of_sample.stuck_list })

    -- the text of the end of the rounds, which is that of the row
    pub rounds_told : (c : List ℕ) (rounds : ℕ) (stuck : List Event) (short : Option ℕ)
        → IsRoundsEnd i c rounds stuck short → (text : List ℕ)
        → text ≡ rounds_text (FormulaFacts n) i c rounds stuck short → IsTextOfRounds n i values useds counts text
    rounds_told c rounds stuck short is text text_is =
        let same : SameRoundsEnd c end.cursors rounds end.pops stuck end.stuck short row.of_sample.short =
        one_rounds_end i c end.cursors rounds end.pops stuck end.stuck short row.of_sample.short is rounds_end in
        let cursors : c ≡ numbers_from 0 n useds = same.cursors ∙ cursors_are in
        let count : rounds ≡ get_or counts 0 0 = same.rounds ∙ sym row.pops in
        let shown : values_at i.stacks c ≡ numbers_from 0 n values =
        ap (values_at i.stacks) same.cursors ∙ ap (λ (k : Instance). values_at k.stacks end.cursors) (sym one)
        ∙ sym row.of_sample.over.values.are ∙ values_are in
        let facts : Facts = FormulaFacts n in
        record {
          events = stuck;
          short = short;
          end = subst (λ (d : List ℕ). IsRoundsEnd i d (get_or counts 0 0) stuck short) cursors
              (subst (λ (m : ℕ). IsRoundsEnd i c m stuck short) count is);
          many = ap length same.stuck ∙ sym row.stuck;
          text_is = text_is
              ∙ ap (λ (l : List ℕ). l ++ used_line c ++ rounds_line rounds ++ short_line facts short)
              (found_same facts i.family (values_at i.stacks c) (row_assignment 0 n values) stuck
              (ap assignment_line shown))
              ∙ ap₂ (λ (d : List ℕ) (m : ℕ). found_of facts i.family (row_assignment 0 n values) stuck ++ used_line d
              ++ rounds_line m ++ short_line facts short) cursors count;
        }
