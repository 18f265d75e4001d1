-- The output of a batch consists of the texts of its samples. Each is that of the only end of its run.
use Rattle.std.proofs.Common.{◌≡◌, ℕ, zero, suc, ◌+◌, List, [], ◌∷◌, ◌++◌, codes, length, flat_map, slice_get, Some, refl, sym, ap, ap₂, ◌∙◌, arith}
use Rattle.std.specs.List.{enumerate_from}
use Rattle.std.proofs.lemmas.Option.{same_Some}
use Rattle.pop_model.specs.Extremal.{IsExtremal}
use Rattle.pop_model.specs.Families.{Event, Family}
use Rattle.pop_model.specs.Instances.{Instance, instance_for}
use Rattle.pop_model.specs.Popping.{values_at}
use Rattle.pop_model.specs.Stacks.{stacks_for}
use Rattle.pop_model.specs.Text.{line}
use Rattle.confluence_core.specs.declared.end.End.{End}
use Rattle.pop_batch.specs.Batches.{AreEnds, IsSampleEnd}
use Rattle.pop_batch.proofs.OneBatch.{one_sample_end}
use Rattle.pop_print.specs.declared.facts.Facts.{Facts}
use Rattle.pop_print.specs.Batches.{batch_line, batch_text, numbered_text, sample_line}
use Rattle.pop_print.specs.Output.{found_lines, full_text, pops_line, sample_lines, used_line}
use Rattle.array_laws.specs.BatchTexts.{IsEndText, found_of, text_of_samples}

-- the text of the end of a sample
abbrev pub text_at : Facts → Instance → ℕ → End → List ℕ
text_at facts i j end = full_text facts (instance_for j i) end.cursors end.pops end.stuck

-- those of the ends from a number on
abbrev texts_from : Facts → Instance → ℕ → List End → List (List ℕ)
texts_from facts i n [] = []
texts_from facts i n (end ∷ ends) = text_at facts i n end ∷ texts_from facts i (n + 1) ends

-- as many as ends
count_of_texts : (facts : Facts) (i : Instance) (n : ℕ) (ends : List End)
    → length (texts_from facts i n ends) ≡ length ends
count_of_texts facts i n [] = refl
count_of_texts facts i n (end ∷ ends) = ap suc (count_of_texts facts i (n + 1) ends)

-- numbered they make the text of the batch
joined_texts : (facts : Facts) (i : Instance) (n : ℕ) (ends : List End)
    → flat_map (numbered_text facts i) (enumerate_from n ends)
    ≡ flat_map (λ (p : ℕ × List ℕ). sample_line p.0 ++ p.1) (enumerate_from n (texts_from facts i n ends))
joined_texts facts i n [] = refl
joined_texts facts i n (end ∷ ends) =
    ap (λ (l : List ℕ). (sample_line n ++ text_at facts i n end) ++ l) (joined_texts facts i (n + 1) ends)

-- the text at a place is that of the end there
text_of_end : (facts : Facts) (i : Instance) (n : ℕ) (ends : List End) (j : ℕ) (text : List ℕ)
    → slice_get (texts_from facts i n ends) j ≡ Some text
    → (end : End) × (slice_get ends j ≡ Some end) × (text ≡ text_at facts i (n + j) end)
text_of_end facts i n [] j text at = absurd (cc)
text_of_end facts i n (end ∷ ends) zero text at =
    let same : n ≡ n + 0 = omega arith in
    (end, refl, sym (same_Some _ _ at) ∙ ap (λ (k : ℕ). text_at facts i k end) same)
text_of_end facts i n (end ∷ ends) (suc j) text at =
    let same : n + 1 + j ≡ n + suc j = omega arith in
    let found = text_of_end facts i (n + 1) ends j text at in
    (found.0, found.1, found.2 ∙ ap (λ (k : ℕ). text_at facts i k found.0) same)

-- an output whose texts are those of the one end of each sample
pub record AreSampleTexts (facts : Facts) (i : Instance) (count : ℕ) (out : List ℕ) : Type 0 where
  pub texts : List (List ℕ)
  pub size : length texts ≡ count
  pub out_is : out ≡ text_of_samples texts
  pub each : (j : ℕ) (text : List ℕ) (end : End) → slice_get texts j ≡ Some text → IsSampleEnd i j end
      → text ≡ text_at facts i j end

-- so is the text of a batch
pub batch_texts : (facts : Facts) (i : Instance) (count : ℕ) (ends : List End) → IsExtremal i.family
    → AreEnds i count ends → AreSampleTexts facts i count (batch_text facts i ends)
batch_texts facts i count ends extremal are =
    let texts : List (List ℕ) = texts_from facts i 0 ends in
    let size : length texts ≡ length ends = count_of_texts facts i 0 ends in
    record {
      texts = texts;
      size = size ∙ are.count_is;
      out_is = ap₂ (λ (n : ℕ) (l : List ℕ). batch_line n ++ l) (sym size) (joined_texts facts i 0 ends);
      each = λ j text end at of.
          let found = text_of_end facts i 0 ends j text at in
          let here : 0 + j ≡ j = omega arith in
          let same : found.0 ≡ end =
          one_sample_end i j found.0 end extremal (are.each j found.0 found.1) of in
          found.2 ∙ ap₂ (λ (k : ℕ) (e : End). text_at facts i k e) here same;
    }

-- what was found is told by the lines of the values
pub found_same : (facts : Facts) (family : Family) (values lines : List ℕ) (stuck : List Event)
    → sample_lines facts values ≡ lines → found_lines facts family values stuck ≡ found_of facts family lines stuck
found_same facts family values lines [] same = ap (λ (l : List ℕ). line (codes "s SAMPLE") ++ l) same
found_same facts family values lines (e ∷ stuck) same = refl

-- so the text of an end is told by the lines of its values, its cursors and its pops
pub end_told : (facts : Facts) (i : Instance) (j : ℕ) (end : End) (lines cursors : List ℕ) (pops stuck : ℕ)
    (text : List ℕ) → IsSampleEnd i j end → text ≡ text_at facts i j end → sample_lines facts end.values ≡ lines
    → end.cursors ≡ cursors → pops ≡ end.pops → stuck ≡ length end.stuck
    → IsEndText facts i.family lines cursors pops stuck text
end_told facts i j end lines cursors pops stuck text of is lines_are cursors_are pops_are stuck_are = record {
  events = end.stuck;
  many = sym stuck_are;
  text_is = is
      ∙ ap (λ (l : List ℕ). l ++ used_line end.cursors ++ pops_line end.pops)
      (found_same facts i.family (values_at (stacks_for j i.stacks) end.cursors) lines end.stuck
      (ap (sample_lines facts) (sym of.over.values.are) ∙ lines_are))
      ∙ ap₂ (λ (c : List ℕ) (p : ℕ). found_of facts i.family lines end.stuck ++ used_line c ++ pops_line p)
      cursors_are (sym pops_are);
}
